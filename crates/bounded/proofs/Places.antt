-- What a slice lends at an index is what the list answers there.
use Rattle.std.proofs.Common.{◌≡◌, ℕ, zero, suc, ◌<◌, ◌≤◌, List, [], ◌∷◌, length, get_or, Some, None, Ok, Err, Option, refl, arith, Bor}
use Rattle.std.specs.Option.{ok_or, option_copied}
use Rattle.std.specs.Slice.{IsItemAt}
use Rattle.refusal.specs.declared.Refusal.TheVariants.{PastTheEnd}
use Rattle.bounded.specs.Lists.{item}

module _ {T : Type 0} where
  item_at : (xs : List T) (i : ℕ) (x : T) → i < length xs → x ≡ get_or xs i x → Ok x ≡ item xs i
  item_at [] i x h e = absurd (omega arith)
  item_at (y ∷ ys) zero x h e = cc
  item_at (y ∷ ys) (suc i) x h e = item_at ys i x (omega arith) e

  item_past : (xs : List T) (i : ℕ) → length xs ≤ i → Err PastTheEnd ≡ item xs i
  item_past [] i h = refl
  item_past (y ∷ ys) zero h = absurd (omega arith)
  item_past (y ∷ ys) (suc i) h = item_past ys i (omega arith)

  pub lent_item : (xs : List T) (i : ℕ) (o : Option (Bor T)) → IsItemAt xs i o → ok_or (option_copied o) PastTheEnd ≡ item xs i
  lent_item xs i None h = item_past xs i h.3
  lent_item xs i (Some x) h = item_at xs i x.now h.3.0 h.1
