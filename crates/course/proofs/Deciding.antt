-- Both events of the bounds are decided, so they have a count.
use Rattle.std.proofs.Common.{◌≡◌, ℕ, zero, suc, ◌*◌, Bool, true, false, ◌⊎◌, List, [], ◌∷◌, length, get_or, sum_by, refl, inl, inr, ⊎_elim, arith}
use native.Mathlib.Decide.{dec_le, dec_lt}
use Rattle.std.specs.List.{AllByRecursion}
use Rattle.std.proofs.lemmas.Bool.{cases_lt, false≢true}
use Rattle.ballot.specs.declared.Card.{Card}
use Rattle.chance.specs.Sequences.{sequences}
use Rattle.chance.proofs.Counts.{counted_some}
use Rattle.chance.proofs.Games.{either}
use Rattle.verdict.specs.declared.Finding.{Finding}
use Rattle.verdict.specs.declared.Finding.TheVariants.{Confirm, Continue, FullHandCount}
use Rattle.course.specs.Terms.{Terms}
use Rattle.course.specs.Course.{Rules, State, Answer, course, risks}
use Rattle.course.specs.Course.Answer.{refused, taken, finding, upheld}
use Rattle.course.specs.Scripts.{CastCards, calls, draws_in}
use Rattle.course.specs.Bounds.{Any, accounts_of, Contradicted, CountsExist, LowRisk, WrongAnswer}
use Rattle.course.proofs.Rules.{Lawful}

pub both : {A B : Type 0} → Dec A → Dec B → Dec (A × B)
both (yes a) (yes b) = yes (a, b)
both (yes a) (no g) = no (λ h. g h.1)
both (no f) d = no (λ h. f h.0)

pub any_decided : {X : Type 0} (P : X → Type 0) → ((x : X) → Dec (P x)) → (xs : List X) → Dec (Any P xs)
any_decided P dec [] = no (λ m. m)
any_decided P dec (x ∷ xs) = either (dec x) (any_decided P dec xs)

-- each element has the property, or some lacks it
pub all_or_any : {X : Type 0} (P : X → Type 0) → ((x : X) → P x ⊎ (P x → ⊥)) → (xs : List X) → AllByRecursion P xs ⊎ Any (λ x. P x → ⊥) xs
all_or_any P decided [] = inl tt
all_or_any P decided (x ∷ xs) =
    ⊎_elim
    (λ p. ⊎_elim (λ ps. inl (p, ps)) (λ bad. inr (inr bad)) (all_or_any P decided xs))
    (λ not. inr (inl not))
    (decided x)

not_decided : {A : Type 0} → A ⊎ (A → ⊥) → Dec (A → ⊥)
not_decided (inl a) = no (λ f. f a)
not_decided (inr f) = yes f

is_true : (u : Bool) → Dec (u ≡ true)
is_true true = yes refl
is_true false = no false≢true

-- whether the list is true at a place with the property
module _ (P : ℕ → Type 0) (u : Bool) (us : List Bool) where
  neither : (P 0 × (u ≡ true) → ⊥) → ((k : ℕ) × P (suc k) × (get_or us k false ≡ true) → ⊥) → (k : ℕ) → P k → get_or (u ∷ us) k false ≡ true → ⊥
  neither f g zero p e = f (p, e)
  neither f g (suc k) p e = g (k, p, e)

  first_or_later : Dec (P 0 × (u ≡ true)) → Dec ((k : ℕ) × P (suc k) × (get_or us k false ≡ true)) → Dec ((k : ℕ) × P k × (get_or (u ∷ us) k false ≡ true))
  first_or_later (yes h) d = yes (0, h.0, h.1)
  first_or_later (no f) (yes h) = yes (suc h.0, h.1, h.2)
  first_or_later (no f) (no g) = no (λ w. neither f g w.0 w.1 w.2)

place_decided : (us : List Bool) (P : ℕ → Type 0) → ((k : ℕ) → Dec (P k)) → Dec ((k : ℕ) × P k × (get_or us k false ≡ true))
place_decided [] P dec = no (λ w. false≢true w.2)
place_decided (u ∷ us) P dec = first_or_later P u us (both (dec 0) (is_true u)) (place_decided us (λ k. P (suc k)) (λ k. dec (suc k)))

confirms_decided : (f : Finding) → Dec (f ≡ Confirm)
confirms_decided Confirm = yes refl
confirms_decided Continue = no (λ m. cc)
confirms_decided FullHandCount = no (λ m. cc)

module _ {A S : Type 0} (R : Rules A S) (law : Lawful R) where
  -- a claim holds of the cards or not, by their values
  pub claim_or_not : (a : A) (cards : List Card) → R.claim a cards ⊎ (R.claim a cards → ⊥)
  claim_or_not a cards =
      ⊎_elim
      (λ above. inl ((law.exact a cards).1 above))
      (λ low. inr (λ c. omega (arith, low, (law.exact a cards).0 c)))
      (cases_lt (R.half a * length cards) (sum_by (R.value a) cards))

  module _ (t : Terms) (σ : State A S) (b : CastCards) where
    contradicted_decided : (k : ℕ) → Dec (Contradicted R t σ b k)
    contradicted_decided k = any_decided (λ x. R.claim x.assorter b.cards → ⊥) (λ x. not_decided (claim_or_not x.assorter b.cards)) (accounts_of R t σ k)

    wrong_decided : (τ : State A S) (a : Answer) → Dec (WrongAnswer R t σ b (τ, a))
    wrong_decided τ (refused r) = no (λ m. m)
    wrong_decided τ taken = no (λ m. m)
    wrong_decided τ (finding f d rs) = confirms_decided f
    wrong_decided τ (upheld us) = place_decided us (Contradicted R t σ b) contradicted_decided

    low_decided : (k p : ℕ) (x : State A S × Answer) → Dec (LowRisk R t σ k p x)
    low_decided k p x = both (dec_lt k (length t.assertions)) (dec_le (get_or (risks t x.0) k 0) p)

  pub counts_exist : CountsExist R
  counts_exist t σ b = record {
    low_risks = λ k p ms hs. counted_some (λ s. any_decided (LowRisk R t σ k p) (low_decided t σ b k p) (course R t σ (calls t b ms hs s))) (sequences t.cards (draws_in ms));
    wrong_answers = λ ms hs. counted_some (λ s. any_decided (WrongAnswer R t σ b) (λ x. wrong_decided t σ b x.0 x.1) (course R t σ (calls t b ms hs s))) (sequences t.cards (draws_in ms));
  }
