-- What a whole list of calls answers and leaves.
use Rattle.std.specs.Prelude.{◌≡◌, ℕ, ◌||◌, List, [], ◌∷◌, ◌++◌, map, length, take, Some, None, Ok, Err, sum, Option, Result, nat_lt, if◌then◌else◌}
use Rattle.std.specs.Borrow.{Bor}
use Rattle.refusal.specs.declared.Refusal.{Refusal}
use Rattle.refusal.specs.declared.Refusal.TheVariants.{NoRoom}
use Rattle.betting.specs.Accounts.{Account}
use Rattle.course.specs.Terms.{Terms}
use Rattle.course.specs.Course.{Rules, State, Call, course}
use Rattle.course.specs.Course.Call.{escalation}
use Rattle.course.specs.Laws.{left_by}
use Rattle.calls.specs.declared.answers.Answer.{Answer}
use Rattle.calls.specs.declared.answers.CountCall.{CountCall}
use Rattle.calls.specs.declared.answers.DrawCall.{DrawCall}
use Rattle.conduct.specs.declared.outcome.NotConducted.{NotConducted}
use Rattle.calls.specs.declared.answers.Standing.{Standing}
use Rattle.calls.specs.declared.answers.Standing.TheVariants.{Drawing, Counting}
use Rattle.calls.specs.declared.drawing.Audit.{Audit}
use Rattle.calls.specs.Calls.{audit_state, code_answer, count_call, draw_call, standing_state, standing_terms, terms_of}

-- The calls after those of the draws: none, or the escalation and those of the hand count.
abbrev pub later_calls : Option (Bor (List CountCall)) → List Call
later_calls None = []
later_calls (Some hs) = escalation ∷ map count_call hs.now

abbrev pub all_calls : List DrawCall → Option (Bor (List CountCall)) → List Call
all_calls before later = map draw_call before ++ later_calls later

-- What the code answers to the calls, one by one, where the course answers them.
abbrev pub answers_by : {A S : Type 0} → Rules A S → Terms → State A S → List Call → List (Result Answer Refusal)
answers_by R t σ cs = map (λ x. code_answer x.1) (course R t σ cs)

-- Too few records for the terms, or too few places for the answers, are refused before the first call.
abbrev pub conduct_refusal : Terms → ℕ → ℕ → List Call → Option Refusal
conduct_refusal t lent places cs =
    if nat_lt lent (sum t.assertions) || nat_lt places (length cs) then Some NoRoom else None

abbrev pub not_conducted : Result Standing NotConducted → Option Refusal
not_conducted (Ok standing) = None
not_conducted (Err x) = Some x.refusal

module _ {A S : Type 0} (R : Rules A S) (a : Audit) (before : List (Account A S)) (cs : List Call) where
  -- The calls were answered as the course has it, and the audit stands where the course leaves it.
  pub record Conducted (standing : Standing) (after : List (Account A S)) (answers : List (Result Answer Refusal)) : Type 0 where
    pub answered : take (length cs) answers ≡ answers_by R (terms_of a.terms) (audit_state a before) cs
    pub left : standing_state standing after ≡ left_by R (terms_of a.terms) (audit_state a before) cs
    pub same_terms : standing_terms standing ≡ a.terms

  -- A refusal gives the audit back.
  abbrev pub Conducts : Result Standing NotConducted → List (Account A S) → List (Result Answer Refusal) → Type 0
  Conducts (Ok standing) after answers = Conducted standing after answers
  Conducts (Err x) after answers = x.audit ≡ a

-- Without an escalation cards are drawn on, and after one they are counted.
abbrev pub StandsBy : Option (Bor (List CountCall)) → Standing → Type 0
StandsBy None (Drawing audit) = Unit {0}
StandsBy None (Counting hand) = ⊥
StandsBy (Some hs) (Drawing audit) = ⊥
StandsBy (Some hs) (Counting hand) = Unit {0}

abbrev pub StandsIfConducted : Option (Bor (List CountCall)) → Result Standing NotConducted → Type 0
StandsIfConducted later (Ok standing) = StandsBy later standing
StandsIfConducted later (Err x) = Unit {0}

-- Where the calls were not begun, nothing changed.
abbrev pub KeptUnless : {X Y Z : Type 0} → Result X Y → Z → Z → Type 0
KeptUnless (Ok x) before after = Unit {0}
KeptUnless (Err y) before after = after ≡ before
