-- What the last byte tells of the bytes before the blanks at the end.
use Rattle.std.proofs.Common.{◌≡◌, ◌≢◌, ℕ, suc, replicate, append_assoc, length-append, ◌+◌, ◌-◌, ◌<◌, ◌≤◌, Bool, false, ◌&&◌, eqb, List, [], ◌∷◌, ◌++◌, length, get_or, take, refl, sym, ap, ◌∙◌, arith}
use Rattle.std.specs.List.{list_all}
use Rattle.std.proofs.lemmas.Bool.{ne_eqb}
use Rattle.std.proofs.Math.Bool.{and-false}
use Rattle.std.proofs.Math.Seq.{take-length}
use Rattle.std.proofs.lemmas.List.{take_more, length-take}
use Rattle.names.specs.Shown.{without_blanks}

abbrev blank : ℕ → Bool
blank x = eqb x 32

blank_more : (xs : List ℕ) → list_all blank (xs ++ 32 ∷ []) ≡ list_all blank xs
blank_more [] = refl
blank_more (x ∷ xs) = ap (λ t. blank x && t) (blank_more xs)

not_blank : (xs : List ℕ) (b : ℕ) → blank b ≡ false → list_all blank (xs ++ b ∷ []) ≡ false
not_blank [] b e = rw e refl
not_blank (x ∷ xs) b e = rw (not_blank xs b e) (and-false (blank x))

cut : (xs : List ℕ) → without_blanks (xs ++ 32 ∷ []) ≡ without_blanks xs
cut [] = refl
cut (x ∷ xs) = rw (blank_more xs, cut xs) refl

kept : (xs : List ℕ) (b : ℕ) → blank b ≡ false → without_blanks (xs ++ b ∷ []) ≡ xs ++ b ∷ []
kept [] b e = rw e refl
kept (x ∷ xs) b e = rw (not_blank (x ∷ xs) b e, kept xs b e) refl

-- The last byte, as a list of bytes has it.
module _ (xs : List ℕ) (h : 1 ≤ length xs) where
  abbrev n : ℕ
  n = length xs - 1

  parts : xs ≡ take n xs ++ get_or xs n 0 ∷ []
  parts =
      let below : n < length xs = omega arith in
      let whole : n + 1 ≡ length xs = omega arith in
      sym (ap (λ k. take k xs) whole ∙ take-length xs) ∙ take_more xs n 0 below

  pub blank_last : get_or xs n 0 ≡ 32 → without_blanks (take n xs) ≡ without_blanks xs
  blank_last e =
      sym (ap without_blanks (parts ∙ ap (λ b. take n xs ++ b ∷ []) e) ∙ cut (take n xs))

  pub sign_last : get_or xs n 0 ≢ 32 → without_blanks xs ≡ xs
  sign_last e =
      ap without_blanks parts ∙ kept (take n xs) (get_or xs n 0) (ne_eqb _ _ e) ∙ sym parts

  -- So many blanks stand behind the bytes, and one more behind the bytes before a blank.
  pub one_blank_more :
      (bs : List ℕ) → bs ≡ xs ++ replicate (length bs - length xs) 32 → get_or xs n 0 ≡ 32 →
      bs ≡ take n xs ++ replicate (length bs - length (take n xs)) 32
  one_blank_more bs behind e =
      let k = length bs - length xs in
      let longer : length xs ≤ length bs = omega (arith, ap length behind, length-append xs (replicate k 32)) in
      let more : suc k ≡ length bs - length (take n xs) = omega (arith, length-take n xs, longer) in
      behind ∙ ap (λ ys. ys ++ replicate k 32) (parts ∙ ap (λ b. take n xs ++ b ∷ []) e)
      ∙ append_assoc (take n xs) (32 ∷ []) (replicate k 32)
      ∙ ap (λ m. take n xs ++ replicate m 32) more
