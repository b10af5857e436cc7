-- A list of numbers that calls made, one for each index.
use Rattle.std.proofs.Common.{◌≡◌, ℕ, zero, suc, ◌+◌, ◌<◌, List, [], ◌∷◌, length, get_or, sym, refl, ap, ◌∙◌, add-zero, zero-add, arith}
use Rattle.std.specs.Array.{IsFromFnResult, IsFromFnResultFrom}
use denote.Param.Members.{Called, Mut}

-- v of each of the n numbers from i on
abbrev pub numbers_from : (ℕ → ℕ) → ℕ → ℕ → List ℕ
numbers_from v i zero = []
numbers_from v i (suc n) = v i ∷ numbers_from v (i + 1) n

listed :
    (v : ℕ → ℕ) (n i : ℕ) (ys : List ℕ) → length ys ≡ n → ((k : ℕ) → k < n → get_or ys k 0 ≡ v (i + k)) → ys ≡ numbers_from v i n
listed v zero i [] long at = refl
listed v zero i (y ∷ ys) long at = absurd (omega arith)
listed v (suc n) i [] long at = absurd (omega arith)
listed v (suc n) i (y ∷ ys) long at =
    ap (λ z. z ∷ ys) (at 0 (omega arith) ∙ ap v (omega arith))
    ∙ ap (λ zs. v i ∷ zs) (listed v n (i + 1) ys (omega arith) (λ k h. at (suc k) (omega arith) ∙ ap v (omega arith)))

-- each call gives v of its index, and keeps K of what it captures
module _ {F : Type 0} {g : Mut F (ℕ × Unit {0}) ℕ} (ys : List ℕ) (v : ℕ → ℕ) (K : F → Type 0)
    (step : (p q : F) (j y : ℕ) → K p → Called g p (j, tt) y q → K q × (y ≡ v j)) where
  made_at : (f : F) (n i : ℕ) → IsFromFnResultFrom g f ys i n → K f → (k : ℕ) → k < n → get_or ys (i + k) 0 ≡ v (i + k)
  made_at f zero i each kept k h = absurd (omega arith)
  made_at f (suc n) i (q, y, at, call, each) kept zero h = rw add-zero (at.1 0 ∙ (step f q i y kept call).1)
  made_at f (suc n) i (q, y, at, call, each) kept (suc k) h =
      ap (λ j. get_or ys j 0) (omega arith) ∙ made_at q n (i + 1) each (step f q i y kept call).0 k (omega arith) ∙ ap v (omega arith)

  pub made : {f : F} (n : ℕ) → IsFromFnResult g f ys n → K f → ys ≡ numbers_from v 0 n
  made n all kept =
      listed v n 0 ys all.long (λ k h. ap (λ j. get_or ys j 0) (sym (zero-add k)) ∙ made_at _ n 0 all.each kept k h)
