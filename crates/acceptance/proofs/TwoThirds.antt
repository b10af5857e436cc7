-- The two files, worked out.
use Rattle.std.proofs.Common.{◌≡◌, ℕ, Result, ◌∙◌, ap, refl}
use Rattle.refusal.specs.declared.Fault.{Fault}
use Rattle.format.specs.Format.{says}
use Rattle.setup.specs.declared.setup.Setup.{Setup}
use Rattle.setup.specs.Steps.{HeldLists, Outcome, following, outcome, read_by_steps, run}
use Rattle.assertion.specs.Assertions.{planned}
use Rattle.acceptance.specs.TwoThirds.{WorkedTwoThirds, answered, memory, read, two_thirds}

pub shown : WorkedTwoThirds
unfolding following run says planned read answered
shown = record { refused_at_60 = refl; accepted_at_61 = refl; bet_at_61 = refl }

-- What was read into such memory.
pub read_back : (a b : ℕ) (ls : HeldLists) (r : Result Setup Fault) (after : HeldLists) → ls ≡ memory → outcome r after ≡ read_by_steps ls (two_thirds a b) →
    r ≡ answered a b
unfolding answered read
read_back a b ls r after e h =
    ap (λ (o : Outcome). o.answer) h ∙ ap (λ (z : HeldLists). (read_by_steps z (two_thirds a b)).answer) e
