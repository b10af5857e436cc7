-- A list of which all from k on was written anew.
use Rattle.std.proofs.Common.{◌≡◌, ℕ, ◌+◌, ◌-◌, ◌≤◌, List, ◌++◌, length, take, drop, ap, ◌∙◌, arith, length-drop}
use Rattle.std.proofs.Math.Seq.{drop-append-add, take-append-add}
use borrow.Rule.Slice.PartMut.{put_mid}
use Rattle.std.proofs.lemmas.List.{append-nil, drop_all, drop-drop, length-take-le, take_all}

-- the first k + n of it, and what stands beyond them
module _ {X : Type 0} (k n j : ℕ) (xs ys : List X) (within : k ≤ length xs) (sum : j ≡ k + n) where
  put_tail : put_mid k (length xs - k) xs ys ≡ take k xs ++ ys
  put_tail =
      ap (λ zs. take k xs ++ (ys ++ zs)) (drop_all (length xs - k) (drop k xs) (omega (arith, length-drop k xs)))
      ∙ ap (λ zs. take k xs ++ zs) (append-nil ys)

  front : j ≡ length (take k xs) + n
  front = omega (arith, length-take-le k xs within)

  pub take_tail : take j (put_mid k (length xs - k) xs ys) ≡ take k xs ++ take n ys
  take_tail = ap (take j) put_tail ∙ ap (λ i. take i (take k xs ++ ys)) front ∙ take-append-add (take k xs) ys n

  pub drop_tail :
      (zs : List X) → drop k xs ≡ drop k zs → drop n ys ≡ drop n (take (length xs - k) (drop k xs)) →
      drop j (put_mid k (length xs - k) xs ys) ≡ drop j zs
  drop_tail zs same beyond =
      ap (drop j) put_tail ∙ ap (λ i. drop i (take k xs ++ ys)) front ∙ drop-append-add (take k xs) ys n ∙ beyond
      ∙ ap (drop n) (take_all (length xs - k) (drop k xs) (omega (arith, length-drop k xs)) ∙ same) ∙ drop-drop n k zs
      ∙ ap (λ i. drop i zs) (omega arith)
