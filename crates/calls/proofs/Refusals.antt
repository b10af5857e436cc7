-- As many records are lent as are needed.
use Rattle.std.proofs.Common.{◌≡◌, ℕ, ◌≤◌, cond, [], ◌∷◌, Some, sum, refl, ap, ◌∙◌, arith}
use Rattle.std.proofs.lemmas.Bool.{le-ltb}
use Rattle.refusal.specs.declared.Refusal.TheVariants.{NoRoom}
use Rattle.course.specs.Terms.{Terms}
use Rattle.course.specs.Course.Call.{entry, verdict, escalation, hand_count, closing}
use Rattle.course.specs.Course.{Rules, State, Call, answered, refusal_of, step, unless_refused}
use Rattle.calls.specs.Calls.{all_called, called, FollowsCourse, records_for}

-- a record for each assertion is as many as any call needs
pub enough : (t : Terms) (lent : ℕ) (c : Call) → sum t.assertions ≤ lent → records_for t c ≤ lent
enough t lent escalation h = omega arith
enough t lent (entry e) h = h
enough t lent verdict h = h
enough t lent (hand_count e) h = h
enough t lent closing h = h

module _ {A S : Type 0} (R : Rules A S) (t : Terms) where
  -- so a call is a step of the course
  pub called_step : (lent : ℕ) (σ : State A S) (c : Call) → records_for t c ≤ lent → called R t lent σ c ≡ step R t σ c
  called_step lent σ c h =
      ap (λ b. unless_refused (cond b (Some NoRoom) (refusal_of t σ c)) σ (answered R t σ c)) (le-ltb lent (records_for t c) h)

  pub follows_course : (σ : State A S) → FollowsCourse R t σ
  follows_course σ [] h = refl
  follows_course σ (x ∷ xs) h =
      ap (λ y. y ∷ all_called R t y.0 xs) (called_step x.lent σ x.call h.0)
      ∙ ap (λ ys. step R t σ x.call ∷ ys) (follows_course (step R t σ x.call).0 xs h.1)
