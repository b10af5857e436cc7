-- What is said of a call's answer beside the course's equation.
use Rattle.std.specs.Prelude.{◌≡◌, ◌==◌, ℕ, ◌≤◌, List, Some, None, Ok, Err, Option, Result, if◌then◌else◌}
use Rattle.std.specs.List.{AllByRecursion}
use Rattle.refusal.specs.declared.Refusal.{Refusal}
use Rattle.ballot.specs.declared.Card.{Card}
use Rattle.assorter.specs.Law.{JustWhen}
use Rattle.verdict.specs.declared.Finding.TheVariants.{Confirm}
use Rattle.verdict.specs.declared.Verdict.{Verdict}
use Rattle.verdict.specs.Contests.{contest_risks}
use Rattle.course.specs.Terms.{Reading, Terms}
use Rattle.course.specs.Course.{Call, Rules, State}
use Rattle.course.specs.Bounds.{Opened}
use Rattle.course.specs.Laws.{left_by, taken_entries}

-- The card, where it is not missing.
abbrev pub found_card : Reading → Option Card
found_card e = if e.found == 0 then None else Some e.card

-- The refusal, if there is one.
abbrev pub refusal_in : {Y : Type 0} → Result Y Refusal → Option Refusal
refusal_in (Ok y) = None
refusal_in (Err e) = Some e

-- A refusal leaves all as it was.
abbrev pub KeptOnRefusal : {X Y : Type 0} → Result Y Refusal → X → X → Type 0
KeptOnRefusal (Ok y) before after = Unit {0}
KeptOnRefusal (Err e) before after = after ≡ before

-- A verdict's draw count is at most the draw limit.
abbrev pub DrawsWithin : ℕ → Result Verdict Refusal → Type 0
DrawsWithin most (Ok v) = v.draws ≤ most
DrawsWithin most (Err e) = Unit {0}

-- A verdict confirms just when each contest's risk is at most the risk limit.
abbrev pub ConfirmedByRisk : ℕ → Result Verdict Refusal → Type 0
ConfirmedByRisk limit (Ok v) = JustWhen (v.finding ≡ Confirm) (AllByRecursion (λ r. r ≤ limit) (contest_risks v))
ConfirmedByRisk limit (Err e) = Unit {0}

-- Where calls on an audit just opened leave this state, a verdict's draw count is the number of entries that were taken.
abbrev pub CountsEntries : {A S : Type 0} → Rules A S → Terms → State A S → Result Verdict Refusal → Type 0
CountsEntries R t τ (Ok v) =
    (σ : State _ _) → Opened σ → (cs : List Call) → left_by R t σ cs ≡ τ → v.draws ≡ taken_entries R t σ cs
CountsEntries R t τ (Err e) = Unit {0}
