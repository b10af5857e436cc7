-- The shrinking policy: what it bets, and what a value does to it.
use Rattle.std.specs.Prelude.{◌≡◌, ℕ, ◌+◌, ◌-◌, ◌*◌, ◌/◌, ◌≤◌, min, Bool, not, ◌&&◌, ◌||◌, List, [], ◌∷◌, ℤ, pos, negsuc, ◌+ℤ◌, ◌-ℤ◌, ◌*ℤ◌, Some, None, count_by, Option, if◌then◌else◌, ◌==◌, nat_le, nat_lt}
use Rattle.betting.specs.Limits.{last_counted}

pub record Shrinks : Type 0 where
  pub first : ℕ
  pub weight : ℕ
  pub half : ℕ
  pub top : ℕ
  -- how many of the values told differ from half
  pub counted : ℕ
  -- the sum of these values less half, which may be below 0
  pub excess : ℤ

-- A policy that was told nothing yet; none for what is out of range.
abbrev pub begins_in_range : ℕ → ℕ → ℕ → ℕ → Bool
begins_in_range first weight half top =
    nat_le first 1000 && nat_le 1 weight && nat_le weight 1000 && nat_le 1 half && nat_lt half top && nat_le top 1000

abbrev pub fresh : ℕ → ℕ → ℕ → ℕ → Shrinks
fresh first weight half top =
    record { first = first; weight = weight; half = half; top = top; counted = 0; excess = pos 0 }

abbrev pub shrinking_from : ℕ → ℕ → ℕ → ℕ → Option Shrinks
shrinking_from first weight half top =
    if begins_in_range first weight half top then Some (fresh first weight half top) else None

-- A number, or 0 for one below 0.
abbrev pub at_least_0 : ℤ → ℕ
at_least_0 (pos n) = n
at_least_0 (negsuc n) = 0

abbrev pub dividend : Shrinks → ℤ
dividend s = pos (s.weight * s.first * (s.top - s.half)) +ℤ (pos 1000 *ℤ s.excess)

abbrev pub divisor : Shrinks → ℕ
divisor s = (s.top - s.half) * (s.weight + s.counted)

-- The quotient rounded down, 0 where the dividend is below 0, and at most 950.
abbrev pub shrinking_bet : Shrinks → ℕ
shrinking_bet s = min (at_least_0 (dividend s) / divisor s) 950

-- A value above top counts as top.
abbrev pub counts_as : Shrinks → ℕ → ℕ
counts_as s v = min v s.top

-- Half speaks for nothing, and once enough values are counted the policy stands still.
abbrev pub stands_still : Shrinks → ℕ → Bool
stands_still s v = counts_as s v == s.half || nat_le last_counted s.counted

abbrev pub one_more : Shrinks → ℕ → Shrinks
one_more s v = record s {
  counted = s.counted + 1;
  excess = s.excess +ℤ (pos (counts_as s v) -ℤ pos s.half);
}

abbrev pub shrinking_told : Shrinks → ℕ → Shrinks
shrinking_told s v = if stands_still s v then s else one_more s v

-- A whole run: the state after these values, how many of them differ from half, and the sum of the values less half.
abbrev pub told_all : Shrinks → List ℕ → Shrinks
told_all s [] = s
told_all s (v ∷ vs) = told_all (shrinking_told s v) vs

abbrev pub differs : ℕ → ℕ → ℕ → Bool
differs half top v = not (min v top == half)

abbrev pub sum_above : ℕ → ℕ → List ℕ → ℤ
sum_above half top [] = pos 0
sum_above half top (v ∷ vs) = (pos (min v top) -ℤ pos half) +ℤ sum_above half top vs

pub record CountsAndSums (half top : ℕ) (vs : List ℕ) (s : Shrinks) : Type 0 where
  pub counts : s.counted ≡ count_by (differs half top) vs
  pub sums : s.excess ≡ sum_above half top vs

-- As long as no more of the values differ from half than are counted, the policy counts and sums them all.
abbrev pub RunsByTheRule : ℕ → ℕ → ℕ → ℕ → Type 0
RunsByTheRule first weight half top =
    (vs : List ℕ) → count_by (differs half top) vs ≤ last_counted →
    CountsAndSums half top vs (told_all (fresh first weight half top) vs)
