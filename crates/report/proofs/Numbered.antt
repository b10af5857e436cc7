-- Numbered lines, one item after the other.
use Rattle.std.proofs.Common.{◌≡◌, ℕ, suc, ◌+◌, ◌<◌, List, [], ◌∷◌, ◌++◌, length, get_or, take, ap, ◌∙◌, arith}
use Rattle.std.proofs.lemmas.List.{append_assoc, append-nil, take_more, length-take-le}
use Rattle.report.specs.Lines.{numbered}

numbered_push : {A : Type 0} (item : ℕ → A → List ℕ) (n : ℕ) (xs : List A) (x : A) →
    numbered item n (xs ++ x ∷ []) ≡ numbered item n xs ++ item (length xs + n) x
numbered_push item n [] x = append-nil (item n x) ∙ ap (λ k. item k x) (let e : n ≡ 0 + n = omega arith in e)
numbered_push item n (y ∷ ys) x =
    let e : length ys + (n + 1) ≡ suc (length ys) + n = omega arith in
    let p = numbered_push item (n + 1) ys x in
    let a = append_assoc (item n y) (numbered item (n + 1) ys) (item (suc (length ys) + n) x) in cc

-- One line more, of the item at the index i, whose number is i + 1.
pub numbered_more : {A : Type 0} (item : ℕ → A → List ℕ) (xs : List A) (i : ℕ) (d : A) (was more : List ℕ) → i < length xs →
    was ≡ numbered item 1 (take i xs) → more ≡ was ++ item (i + 1) (get_or xs i d) → more ≡ numbered item 1 (take (i + 1) xs)
numbered_more item xs i d was more h w e =
    let l = length-take-le i xs (omega arith) in
    let m = take_more xs i d h in
    let p = numbered_push item 1 (take i xs) (get_or xs i d) in cc
