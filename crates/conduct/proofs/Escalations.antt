-- From the draws to the hand count.
use Rattle.std.proofs.Common.{◌≡◌, List, [], ◌∷◌, ◌++◌, refl, ap}
use Rattle.course.specs.Terms.{Terms}
use Rattle.course.specs.Course.{Rules, State, Call, step}
use Rattle.course.specs.Laws.{left_by}
use Rattle.calls.specs.Calls.{code_answer}
use Rattle.conduct.specs.Conducts.{answers_by}

module _ {A S : Type 0} (R : Rules A S) (t : Terms) where
  -- calls after calls
  pub left_both : (σ : State A S) (cs ds : List Call) → left_by R t σ (cs ++ ds) ≡ left_by R t (left_by R t σ cs) ds
  left_both σ [] ds = refl
  left_both σ (c ∷ cs) ds = left_both (step R t σ c).0 cs ds

  pub answers_both :
      (σ : State A S) (cs ds : List Call) → answers_by R t σ (cs ++ ds) ≡ answers_by R t σ cs ++ answers_by R t (left_by R t σ cs) ds
  answers_both σ [] ds = refl
  answers_both σ (c ∷ cs) ds = ap (λ xs. code_answer (step R t σ c).1 ∷ xs) (answers_both (step R t σ c).0 cs ds)
