-- The names of the outcomes, and what each is worth to a test with this half and top.
use Rattle.std.specs.Prelude.{◌≡◌, ℕ, List, Result, MatchResult, codes}
use Rattle.pencil.specs.declared.outcome.NoOutcome.{NoOutcome}
use Rattle.pencil.specs.declared.outcome.Outcome.{Outcome}
use Rattle.pencil.specs.declared.outcome.Outcome.TheVariants.{Win, Loss, Blank, Missing}

abbrev pub outcome_value : Outcome → ℕ → ℕ → ℕ
outcome_value Win half top = top
outcome_value Loss half top = 0
outcome_value Blank half top = half
outcome_value Missing half top = 0

abbrev pub name_of : Outcome → List ℕ
name_of Win = codes "win"
name_of Loss = codes "loss"
name_of Blank = codes "blank"
name_of Missing = codes "missing"

-- r is the outcome with the name word, and an error where no outcome has it.
abbrev pub NamesOutcome : List ℕ → Result Outcome NoOutcome → Type 0
NamesOutcome word r = MatchResult r (λ o. word ≡ name_of o) (λ _. (o : Outcome) → word ≡ name_of o → ⊥)
