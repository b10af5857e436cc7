-- Memory that holds nothing yet: 200 batches, 8 contests, 256 candidates and 256 assertions.
use Rattle.std.specs.Prelude.{◌≡◌, [], map, replicate}
use Rattle.assertion.specs.Assertions.{plan_of, share}
use Rattle.ballot.specs.declared.Kind.TheVariants.{Plurality}
use Rattle.setup.specs.Steps.{HeldLists}
use Rattle.intake.specs.declared.memory.Memory.{Memory}

-- Each place holds zeros, and an assertion that no contest makes: that candidate 0 of contest 0 has more than half.
pub record Blank (m : Memory) : Type 0 where
  pub batches : m.batches ≡ replicate 200 (record { name = replicate 8 0; cards = 0 })
  pub contests : m.contests ≡ replicate 8 (record { kind = Plurality; candidates = 0; seats = 0 })
  pub candidates : m.candidates ≡ replicate 256 (record { name = replicate 8 0; votes = 0 })
  pub planned : map plan_of m.planned ≡ replicate 256 (record { claim = share 0 0 1 2; bet = 0 })

-- Empty lists of a setup, over the whole memory of each.
abbrev pub empty_lists : Memory → HeldLists
empty_lists m =
    record {
      batches = record { items = []; memory = m.batches };
      contests = record { items = []; memory = m.contests };
      candidates = record { items = []; memory = m.candidates };
    }
