-- Marks that fit their contests, and no mark, as tests of each mark.
use Rattle.std.proofs.Common.{◌≡◌, ℕ, ◌^◌, ◌≤◌, Bool, ◌&&◌, eqb, ltb, List, [], ◌∷◌, map, length, take, drop, refl, ap, ◌∙◌, le_of_suc-le-suc, not-suc-le-zero}
use Rattle.std.proofs.Math.Bool.{and_assoc}
use Rattle.std.specs.List.{list_all, zip}
use Rattle.course.specs.Terms.{blank, marks_fit}

pub all_blank : (ms : List ℕ) → list_all (λ m. eqb m 0) ms ≡ blank ms
all_blank [] = refl
all_blank (m ∷ ms) = ap (λ b. eqb m 0 && b) (all_blank ms)

none_fit : (ms : List ℕ) → blank ms ≡ marks_fit [] ms
none_fit [] = refl
none_fit (m ∷ ms) = ap (λ b. eqb m 0 && b) (none_fit ms)

-- n says how many candidates a contest has
module _ {X : Type 0} (n : X → ℕ) where
  abbrev pub fitting : List X → List ℕ → Bool
  fitting xs ms = list_all (λ p. ltb p.0 (2 ^ n p.1)) (zip (take (length xs) ms) xs)

  pub each_fits :
      (xs : List X) (ms : List ℕ) → length xs ≤ length ms →
      (fitting xs ms && blank (drop (length xs) ms)) ≡ marks_fit (map n xs) ms
  each_fits [] [] h = refl
  each_fits [] (m ∷ ms) h = none_fit (m ∷ ms)
  each_fits (x ∷ xs) [] h = absurd (not-suc-le-zero h)
  each_fits (x ∷ xs) (m ∷ ms) h =
      and_assoc (ltb m (2 ^ n x)) (fitting xs ms) (blank (drop (length xs) ms))
      ∙ ap (λ b. ltb m (2 ^ n x) && b) (each_fits xs ms (le_of_suc-le-suc h))
