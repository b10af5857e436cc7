-- What a list over lent memory holds, and what its methods answer and leave.
use Rattle.std.specs.Prelude.{ℕ, zero, suc, Bool, if◌then◌else◌, [], ◌∷◌, ◌++◌, length, take, drop, Ok, Err, Result, nat_lt, slice_set}
use mathlib.Core.List as lists
use Rattle.refusal.specs.declared.Refusal.{Refusal}
use Rattle.refusal.specs.declared.Refusal.TheVariants.{NoRoom, PastTheEnd}
use Rattle.bounded.specs.declared.List.{List}

-- The items, first to last, and every place of the memory, used or not.
pub record Held (T : Type 0) : Type 0 where
  pub items : lists.List T
  pub memory : lists.List T

module _ {T : Type 0} where
  -- What a list holds: the items in the first places of its memory.
  abbrev pub held : List T → Held T
  held l = record { items = take l.len l.slots.now; memory = l.slots.now }

  -- There is a place for one item more.
  abbrev pub has_room : Held T → Bool
  has_room h = nat_lt (length h.items) (length h.memory)

  -- The item at i, where there is one.
  abbrev pub item : lists.List T → ℕ → Result T Refusal
  item [] i = Err PastTheEnd
  item (x ∷ xs) zero = Ok x
  item (x ∷ xs) (suc i) = item xs i

  -- One item more, after the others and in the first free place; a full list stays as it is.
  abbrev pub appended : Held T → T → Held T
  appended h x =
      if has_room h then record { items = h.items ++ x ∷ []; memory = slice_set h.memory (length h.items) x } else h

  -- What it answers: that there was a place, or that the list is full.
  abbrev pub append_answer : Held T → Result Unit Refusal
  append_answer h = if has_room h then Ok tt else Err NoRoom

  -- The item at i, or that there is none.
  abbrev pub get_answer : Held T → ℕ → Result T Refusal
  get_answer h i = item h.items i

  -- The item at i becomes x, in its place; past the last item nothing changes.
  abbrev pub replaced : Held T → ℕ → T → Held T
  replaced h i x =
      if nat_lt i (length h.items)
      then record { items = slice_set h.items i x; memory = slice_set h.memory i x }
      else h

  -- What it answers: that there is such an item, or that there is none.
  abbrev pub replace_answer : Held T → ℕ → Result Unit Refusal
  replace_answer h i = if nat_lt i (length h.items) then Ok tt else Err PastTheEnd

  -- No items any more; the memory stays as it was.
  abbrev pub emptied : Held T → Held T
  emptied h = record h { items = [] }

  -- Memory whose first places took these items, one after the other, and whose other places are as they were.
  abbrev pub filled : lists.List T → lists.List T → Held T
  filled xs memory = record { items = xs; memory = xs ++ drop (length xs) memory }
