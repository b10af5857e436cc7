-- Bounds on what a shrinking bet computes, and its dividend by way of 64 bits.
use Rattle.std.proofs.Common.{◌≡◌, ℕ, ◌*◌, ◌^◌, ◌≤◌, Ok, Err, Result, ℤ, pos, negsuc, ◌+ℤ◌, ◌*ℤ◌, neg_ℤ, nat_abs, ◌≤ℤ◌, refl, ap, ◌∙◌, arith, w32, w64, to_z, of_z}
use Rattle.std.specs.Int.{FitsUnsignedBits}
use Rattle.std.specs.Result.{OkIff, result_unwrap_or}
use Rattle.std.proofs.lemmas.Int.{ints}
use Rattle.std.proofs.lemmas.Nat.{mul-le}
use Rattle.betting.specs.Limits.{last_counted}
use Rattle.betting.specs.Shrinks.{at_least_0}

pub base_le : (w f s : ℕ) → w ≤ 1000 → f ≤ 1000 → s ≤ 1000 → w * f * s ≤ 1000000000
base_le w f s hw hf hs = omega (arith, mul-le (w * f) s 1000000 1000 (omega (arith, mul-le w f 1000 1000 hw hf)) hs)

or_0 :
    {E : Type 0} (z : ℤ) (r : Result ℕ E) → z ≤ℤ pos (2 ^ 63) → OkIff r (FitsUnsignedBits 64 z) (nat_abs z) →
    result_unwrap_or r 0 ≡ at_least_0 z
or_0 (pos n) (Ok x) high e = e.1
or_0 (pos n) (Err x) high e = absurd (e (omega (arith, ints)))
or_0 (negsuc n) (Ok x) high e = absurd e.0
or_0 (negsuc n) (Err x) high e = refl

-- the dividend as the code has it, by way of 64 bits
abbrev pub computed : ℕ → ℤ → ℤ
computed b z = to_z w64 (of_z w64 (to_z w64 b +ℤ to_z w64 (of_z w64 (pos 1000 *ℤ to_z w64 (of_z w64 (to_z w32 (of_z w32 z)))))))

pub dividend_or_0 :
    {E : Type 0} (b n : ℕ) (z : ℤ) (r : Result ℕ E) → b ≤ 1000000000 → n ≤ last_counted → neg_ℤ (pos (1000 * n)) ≤ℤ z →
    z ≤ℤ pos (1000 * n) → OkIff r (FitsUnsignedBits 64 (computed b z)) (nat_abs (computed b z)) →
    result_unwrap_or r 0 ≡ at_least_0 (pos b +ℤ (pos 1000 *ℤ z))
dividend_or_0 b n z r small few low high e =
    let same : computed b z ≡ pos b +ℤ (pos 1000 *ℤ z) = omega (arith, ints) in
    or_0 (computed b z) r (omega (arith, ints)) e ∙ ap at_least_0 same
