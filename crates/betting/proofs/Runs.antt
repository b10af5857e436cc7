-- Over a whole run a shrinking policy counts and sums the values told.
use Rattle.std.proofs.Common.{◌≡◌, ℕ, ◌+◌, ◌≤◌, false, cond, eqb, leb, List, [], ◌∷◌, ℤ, pos, ◌+ℤ◌, ◌-ℤ◌, count_by, sym, refl, ap, ◌∙◌, inl, inr, add-zero, arith}
use lib.IntN.{+ℤ_idl, +ℤ_idr}
use Rattle.std.proofs.lemmas.Int.{ints}
use Rattle.std.proofs.lemmas.List.Sums.{sum_by-cons}
use Rattle.std.proofs.lemmas.Bool.{cases_Bool, eqb-true, lt-leb}
use Rattle.betting.specs.Limits.{last_counted}
use Rattle.betting.specs.Shrinks.{counts_as, differs, fresh, one_more, RunsByTheRule, shrinking_told, Shrinks, sum_above, told_all}

abbrev count : Shrinks → List ℕ → ℕ
count s vs = count_by (differs s.half s.top) vs

abbrev sum : Shrinks → List ℕ → ℤ
sum s vs = sum_above s.half s.top vs

-- what a value adds to the count
abbrev one : Shrinks → ℕ → ℕ
one s v = cond (differs s.half s.top v) 1 0

pub run : (s : Shrinks) (vs : List ℕ) → s.counted + count s vs ≤ last_counted →
    ((told_all s vs).counted ≡ s.counted + count s vs) × ((told_all s vs).excess ≡ s.excess +ℤ sum s vs)
run s [] h = (sym (add-zero s.counted), sym (+ℤ_idr s.excess))
run s (v ∷ vs) h =
    let step : count s (v ∷ vs) ≡ one s v + count s vs = sum_by-cons (λ x. cond (differs s.half s.top x) 1 0) v vs in
    let whole : sum s (v ∷ vs) ≡ (pos (counts_as s v) -ℤ pos s.half) +ℤ sum s vs = refl in
    elim (cases_Bool (eqb (counts_as s v) s.half)) [
      | inl e ↦
          let t : shrinking_told s v ≡ s = simp e in
          let n : one s v ≡ 0 = simp e in
          let same = eqb-true (counts_as s v) s.half e in
          let r = run s vs (omega (arith, n)) in (
            ap (λ x. (told_all x vs).counted) t ∙ (r.0 ∙ omega (arith, n)),
            ap (λ x. (told_all x vs).excess) t ∙ (r.1 ∙ omega (arith, ints, same)),
          )
      | inr e ↦
          let n : one s v ≡ 1 = simp e in
          let f : leb last_counted s.counted ≡ false = lt-leb last_counted s.counted (omega (arith, n)) in
          let t : shrinking_told s v ≡ one_more s v = simp (e, f) in
          let r = run (one_more s v) vs (omega (arith, n)) in (
            ap (λ x. (told_all x vs).counted) t ∙ (r.0 ∙ omega (arith, n)),
            ap (λ x. (told_all x vs).excess) t ∙ (r.1 ∙ omega (arith, ints)),
          )
    ]

pub runs : (first weight half top : ℕ) → RunsByTheRule first weight half top
runs first weight half top vs h =
    let s = fresh first weight half top in
    let r = run s vs (omega arith) in
    record { counts = r.0 ∙ omega arith; sums = r.1 ∙ +ℤ_idl (sum_above half top vs) }
