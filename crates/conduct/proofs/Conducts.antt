-- A list of calls, one call at a time.
use Rattle.std.proofs.Common.{◌≡◌, ℕ, ◌+◌, ◌<◌, ◌≤◌, List, [], ◌∷◌, ◌++◌, length, get_or, take, drop, set, sum, Result, sym, ap, ◌∙◌, subst}
use Rattle.std.proofs.lemmas.List.{append_assoc, drop_more, take_more_set}
use Rattle.refusal.specs.declared.Refusal.{Refusal}
use Rattle.course.specs.Terms.{Terms}
use Rattle.course.specs.Course.{Rules, State, Call, step}
use Rattle.course.specs.Laws.{left_by}
use Rattle.calls.specs.declared.terms.Terms as calls
use Rattle.calls.specs.declared.answers.Answer.{Answer}
use Rattle.calls.specs.Calls.{called, in_code, terms_of}
use Rattle.conduct.specs.Conducts.{answers_by}
use Rattle.calls.proofs.Refusals.{called_step, enough}

module _ {A S : Type 0} (R : Rules A S) (t : Terms) (σ₀ : State A S) (cs : List Call) where
  -- after i calls the audit is at σ, and out has their answers
  pub record SoFar (i : ℕ) (σ : State A S) (out : List (Result Answer Refusal)) : Type 0 where
    pub told : answers_by R t σ₀ cs ≡ take i out ++ answers_by R t σ (drop i cs)
    pub left : left_by R t σ₀ cs ≡ left_by R t σ (drop i cs)

  pub so_far_more :
      (i : ℕ) (σ σ' : State A S) (out : List (Result Answer Refusal)) (c : Call) (a : Result Answer Refusal) → i < length cs → i < length out →
      SoFar i σ out → (σ', a) ≡ in_code (step R t σ (get_or cs i c)) → SoFar (i + 1) σ' (set out i a)
  so_far_more i σ σ' out c a in-cs in-out so new =
      let d = get_or cs i c in
      let rest = drop (i + 1) cs in
      let split : drop i cs ≡ d ∷ rest = drop_more cs i c in-cs in
      let now : in_code (step R t σ d) ≡ (σ', a) = sym new in
      record {
        told =
            so.told
            ∙ ap (λ xs. take i out ++ answers_by R t σ xs) split
            ∙ ap (λ x. take i out ++ (x.1 ∷ answers_by R t x.0 rest)) now
            ∙ sym (append_assoc (take i out) (a ∷ []) (answers_by R t σ' rest))
            ∙ ap (λ xs. xs ++ answers_by R t σ' rest) (sym (take_more_set out i a in-out));
        left = so.left ∙ ap (left_by R t σ) split ∙ ap (λ x. left_by R t x.0 rest) now;
      }

-- with its records lent, and the terms as they were, a call is a step of the course
pub as_step :
    {A S : Type 0} (R : Rules A S) (t t₀ : calls.Terms) (n lent : ℕ) (σ : State A S) (c : Call) (x : State A S × Result Answer Refusal) →
    t ≡ t₀ → n ≡ sum (terms_of t₀).assertions → n ≤ lent → x ≡ in_code (called R (terms_of t) lent σ c) → x ≡ in_code (step R (terms_of t₀) σ c)
as_step R t t₀ n lent σ c x same total h e =
    e ∙ ap (λ s. in_code (called R (terms_of s) lent σ c)) same
    ∙ ap in_code (called_step R (terms_of t₀) lent σ c (enough (terms_of t₀) lent c (subst (λ k. k ≤ lent) total h)))
