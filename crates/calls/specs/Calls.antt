-- From the code to an audit's course: its terms, cards, calls, states and answers in the words of the course, and what each
-- call leaves and answers. A record counts by its `account`.
use Rattle.std.specs.Prelude.{◌≡◌, ℕ, ◌≤◌, List, [], ◌∷◌, map, take, Some, Ok, Err, sum, Option, Result, if◌then◌else◌, nat_lt}
use Rattle.std.specs.List.{AllByRecursion}
use Rattle.refusal.specs.declared.Refusal.{Refusal}
use Rattle.refusal.specs.declared.Refusal.TheVariants.{NoRoom}
use Rattle.ballot.specs.declared.Card.{Card}
use Rattle.betting.specs.Accounts.{Account}
use Rattle.verdict.specs.Contests.{closing_on, verdict_on}
use Rattle.course.specs.Terms.{Reading, Terms}
use Rattle.course.specs.Course.{Answer, Call, Rules, State, answered, course, refusal_of, unless_refused}
use Rattle.course.specs.Course.Answer.{refused, taken, finding, upheld}
use Rattle.course.specs.Course.Call.{entry, verdict, escalation, hand_count, closing}
use Rattle.calls.specs.declared.answers.Answer.{Answer as CodeAnswer}
use Rattle.calls.specs.declared.answers.Answer.TheVariants.{Taken, Finding, Upheld}
use Rattle.calls.specs.declared.answers.CountCall.{CountCall}
use Rattle.calls.specs.declared.answers.CountCall.TheVariants.{Count, Close}
use Rattle.calls.specs.declared.answers.DrawCall.{DrawCall}
use Rattle.calls.specs.declared.answers.DrawCall.TheVariants.{Entry, Verdict}
use Rattle.calls.specs.declared.answers.Reading.{Reading as CodeReading}
use Rattle.calls.specs.declared.answers.Standing.{Standing}
use Rattle.calls.specs.declared.answers.Standing.TheVariants.{Drawing, Counting}
use Rattle.calls.specs.declared.counting.HandCount.{HandCount}
use Rattle.calls.specs.declared.drawing.Audit.{Audit}
use Rattle.calls.specs.declared.terms.Terms.{Terms as CodeTerms}

-- ---- terms, cards and calls

abbrev pub terms_of : CodeTerms → Terms
terms_of t = record {
  cards = t.cards;
  limit = t.risk_limit;
  draws = t.draw_limit;
  candidates = map (λ x. x.candidates) t.sizes.items;
  assertions = map (λ x. x.assertions) t.sizes.items;
}

abbrev pub reading : ℕ → ℕ → Card → Reading
reading p f x = record { place = p; found = f; card = x }

abbrev pub reading_of : CodeReading → Reading
reading_of x = reading x.place x.found x.card

abbrev pub draw_call : DrawCall → Call
draw_call (Entry x) = entry (reading_of x)
draw_call Verdict = verdict

abbrev pub count_call : CountCall → Call
count_call (Count x) = hand_count (reading_of x)
count_call Close = closing

-- ---- answers

-- What the code answers where the course answers this, to the last place.
abbrev pub code_answer : Answer → Result CodeAnswer Refusal
code_answer (refused e) = Err e
code_answer taken = Ok Taken
code_answer (finding f d rs) = Ok (Finding (verdict_on f d rs))
code_answer (upheld us) = Ok (Upheld (closing_on us))

-- The same with the state that is left.
abbrev pub in_code : {A S : Type 0} → State A S × Answer → State A S × Result CodeAnswer Refusal
in_code x = (x.0, code_answer x.1)

-- An answer of one call as an answer of any.
abbrev pub answer_as : {X : Type 0} → (X → CodeAnswer) → Result X Refusal → Result CodeAnswer Refusal
answer_as f (Ok x) = Ok (f x)
answer_as f (Err e) = Err e

-- ---- states, and what a call leaves and answers

-- How many records a call needs: one for each assertion, and none for an escalation.
abbrev pub records_for : Terms → Call → ℕ
records_for t escalation = 0
records_for t _ = sum t.assertions

-- A call with so many records lent to it.
pub record LentCall : Type 0 where
  pub lent : ℕ
  pub call : Call

module _ {A S : Type 0} where
  -- Where an audit stands in its course, by the accounts of the records that are lent to it.
  abbrev pub audit_state : Audit → List (Account A S) → State A S
  audit_state a xs = record { accounts = take a.terms.needed xs; drawn = a.drawn; counted = 0 }

  abbrev pub count_state : HandCount → List (Account A S) → State A S
  count_state h xs = record { accounts = take h.terms.needed xs; drawn = h.drawn; counted = h.counted }

  -- The first refusal of a call with so many records lent: too few come first.
  abbrev pub first_refusal : Terms → ℕ → State A S → Call → Option Refusal
  first_refusal t lent σ c = if nat_lt lent (records_for t c) then Some NoRoom else refusal_of t σ c

  -- What the call leaves and answers.
  abbrev pub called : Rules A S → Terms → ℕ → State A S → Call → State A S × Answer
  called R t lent σ c = unless_refused (first_refusal t lent σ c) σ (answered R t σ c)

  -- What the calls leave and answer, one by one.
  abbrev pub all_called : Rules A S → Terms → State A S → List LentCall → List (State A S × Answer)
  all_called R t σ [] = []
  all_called R t σ (x ∷ xs) = called R t x.lent σ x.call ∷ all_called R t (called R t x.lent σ x.call).0 xs

  -- Whatever the calls are and show, where the records that it needs are lent to each of them: what they leave and answer,
  -- one by one, is what the course has.
  abbrev pub FollowsCourse : Rules A S → Terms → State A S → Type 0
  FollowsCourse R t σ =
      (xs : List LentCall) → AllByRecursion (λ x. records_for t x.call ≤ x.lent) xs →
      all_called R t σ xs ≡ course R t σ (map (λ x. x.call) xs)

  -- The hand count stands where the course leaves the audit for an escalation, which is granted, whatever accounts are lent
  -- and however few.
  abbrev pub Escalated : Rules A S → Audit → HandCount → Type 0
  Escalated R a h =
      (lent : ℕ) (xs : List (Account A S)) →
      (count_state h xs, Ok Taken) ≡ in_code (called R (terms_of a.terms) lent (audit_state a xs) escalation)

  -- ---- at either stage

  abbrev pub standing_state : Standing → List (Account A S) → State A S
  standing_state (Drawing a) xs = audit_state a xs
  standing_state (Counting h) xs = count_state h xs

abbrev pub standing_terms : Standing → CodeTerms
standing_terms (Drawing a) = a.terms
standing_terms (Counting h) = h.terms
