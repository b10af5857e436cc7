-- Two setup files that can be worked out by hand: 90 cards, and a contest for a share of 2/3 between two candidates.
use Rattle.std.specs.Prelude.{◌≡◌, ℕ, List, [], ◌∷◌, ◌++◌, Ok, Err, Result, codes, replicate}
use Rattle.refusal.specs.declared.Fault.{Fault}
use Rattle.refusal.specs.declared.File.TheVariants as file
use Rattle.refusal.specs.declared.Refusal.TheVariants as no
use Rattle.ballot.specs.declared.Kind.TheVariants.{Plurality}
use Rattle.setup.specs.declared.setup.PolicyChoice.TheVariants.{Fixed}
use Rattle.setup.specs.declared.setup.Setup.{Setup}
use Rattle.setup.specs.Steps.{HeldLists, Outcome, read_by_steps}
use Rattle.assertion.specs.Assertions.{planned, share}

-- The file, with these votes; its last candidate stands at 38.
abbrev pub two_thirds : ℕ → ℕ → List ℕ
two_thirds a b =
    (0x01 ∷ codes "BOX-0001" ++ (0 ∷ 90 ∷ []))
    ++ (0x02 ∷ 0 ∷ 50 ∷ 0 ∷ 80 ∷ 1 ∷ 0 ∷ 0 ∷ [])
    ++ (0x03 ∷ 3 ∷ 2 ∷ 1 ∷ 0 ∷ 2 ∷ 0 ∷ 3 ∷ [])
    ++ (0x04 ∷ codes "ADAMS   " ++ (0 ∷ a ∷ []))
    ++ (0x04 ∷ codes "BAKER   " ++ (0 ∷ b ∷ []))
    ++ (0x05 ∷ [])

abbrev pub no_name : List ℕ
no_name = replicate 8 0

-- Memory for a batch, a contest and two candidates.
abbrev pub memory : HeldLists
memory =
    record {
      batches = record { items = []; memory = record { name = no_name; cards = 0 } ∷ [] };
      contests = record { items = []; memory = record { kind = Plurality; candidates = 0; seats = 0 } ∷ [] };
      candidates = record { items = []; memory = record { name = no_name; votes = 0 } ∷ record { name = no_name; votes = 0 } ∷ [] };
    }

unfoldable pub read : ℕ → ℕ → Outcome
read a b = read_by_steps memory (two_thirds a b)

unfoldable pub answered : ℕ → ℕ → Result Setup Fault
answered a b = (read a b).answer

-- No winners, at the last candidate.
abbrev pub at_60 : Result Setup Fault
at_60 = Err (record { refusal = no.NoWinners; file = file.Setup; offset = 38 })

abbrev pub at_61 : Result Setup Fault
at_61 =
    Ok (record {
      batches = 1;
      cards = 90;
      terms = record { risk_limit = 50; draw_limit = 80; policy = Fixed };
      contests = 1;
      candidates = 2;
      assertions = 1;
    })

-- 60 votes of 90 are just two thirds, and the file is refused. With 61 it is accepted, and its one assertion begins with
-- the bet 33.
pub record WorkedTwoThirds : Type 0 where
  pub refused_at_60 : answered 60 30 ≡ at_60
  pub accepted_at_61 : answered 61 29 ≡ at_61
  pub bet_at_61 : planned 0 (read 61 29).lists.contests.items (read 61 29).lists.candidates.items ≡ record { claim = share 0 0 2 3; bet = 33 } ∷ []
