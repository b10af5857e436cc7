-- The accounts in front that are settled, and what an entry leaves of them.
use Rattle.std.proofs.Common.{◌≡◌, ℕ, Bool, true, false, not, cond, ltb, List, [], ◌∷◌, map, length, take, Some, None, if◌then◌else◌, refl, ap, ◌∙◌, inl, inr, sym, arith, suc, ◌+◌}
use Prim.Native.Nat.compare
use lib.ListN.{length-map}
use Rattle.std.specs.List.{position_or_len}
use Rattle.std.proofs.lemmas.Bool.{cases_Bool, lt-ltb}
use Rattle.betting.specs.declared.records.Record.{Record}
use Rattle.betting.specs.Accounts.{Account, account}
use Rattle.betting.specs.Sums.{settled}
use Rattle.course.specs.Terms.{Reading}
use Rattle.course.specs.Course.{Rules, after_entry, all_settled}
use Rattle.walks.specs.Walks.{settled_front}

module _ {A S : Type 0} (limit : ℕ) where
  pub front_settled : (xs : List (Account A S)) → all_settled limit (take (settled_front limit xs) xs) ≡ true
  front_settled [] = refl
  front_settled (x ∷ xs) =
      let more : 1 + settled_front limit xs ≡ suc (settled_front limit xs) = omega arith in
      elim (cases_Bool (settled x.peak limit)) [
        | inl t ↦ simp (t, more) (front_settled xs)
        | inr t ↦ simp t
      ]

  pub front_shorter : (xs : List (Account A S)) → ltb (settled_front limit xs) (length xs) ≡ not (all_settled limit xs)
  front_shorter [] = refl
  front_shorter (x ∷ xs) =
      let more : 1 + settled_front limit xs ≡ suc (settled_front limit xs) = omega arith in
      elim (cases_Bool (settled x.peak limit)) [
        | inl t ↦ simp (t, more, compare.suc-suc) (front_shorter xs)
        | inr t ↦ simp t (lt-ltb 0 (suc (length xs)) (omega arith))
      ]

  pub entered_stays :
      (R : Rules A S) (e : Reading) (xs : List (Account A S)) → all_settled limit xs ≡ true → map (after_entry R limit e) xs ≡ xs
  entered_stays R e [] h = refl
  entered_stays R e (x ∷ xs) h = elim (cases_Bool (settled x.peak limit)) [
    | inl t ↦ simp t (ap (λ ys. x ∷ ys) (entered_stays R e xs (simp t at h)))
    | inr t ↦ let no : false ≡ true = simp t at h in cc
  ]

turned : {X : Type 0} (b : Bool) (x y : X) → cond (not b) y x ≡ (if b then x else y)
turned true x y = refl
turned false x y = refl

module _ {A P S : Type 0} (state : P → S) (limit : ℕ) where
  abbrev unsettled : Record A P → Bool
  unsettled r = not (settled r.peak limit)

  front_is : (rs : List (Record A P)) → position_or_len unsettled rs ≡ settled_front limit (map (account state) rs)
  front_is [] = refl
  front_is (r ∷ rs) = elim (cases_Bool (settled r.peak limit)) [
    | inl t ↦ simp t (ap (λ n. 1 + n) (front_is rs))
    | inr t ↦ simp t
  ]

  pub first_is :
      (rs : List (Record A P)) →
      cond (ltb (position_or_len unsettled rs) (length rs)) (Some (position_or_len unsettled rs)) None
      ≡ (let xs = map (account state) rs in if all_settled limit xs then None else Some (settled_front limit xs))
  first_is rs =
      let xs = map (account state) rs in
      let n = settled_front limit xs in
      ap (λ k. cond (ltb k (length rs)) (Some k) None) (front_is rs)
      ∙ ap (λ b. cond b (Some n) None) (ap (ltb n) (sym (length-map rs (account state))) ∙ front_shorter limit xs)
      ∙ turned (all_settled limit xs) None (Some n)
