-- Stake, payoff, risk and settlement as a pencil has them, and how far a wealth can grow.
use Rattle.std.proofs.Common.{◌≡◌, ℕ, ◌+◌, ◌-◌, ◌*◌, ◌/◌, ◌%◌, ◌^◌, ◌<◌, ◌≤◌, min, max, ◌↔◌, Decides, sym, ap, ◌∙◌, ⊎_elim, mul_comm, div-lt_iff_lt-mul, add-mul, mul-le-mul_left, one-mul, div-le_self, arith}
use native.Mathlib.Nat.{div-eq_of_lt-le, div-zero, mul-div-le}
use Rattle.std.proofs.lemmas.Grind.{div_ceil_times}
use Rattle.std.proofs.lemmas.Bool.{cases_lt, le-leb, leb-true}
use Rattle.betting.specs.Limits.{most_wealth}
use Rattle.betting.specs.Sums.{ModestGrowth, payoff_of, PayoffByPencil, risk_of, RiskByPencil, RoundedDown, rounded_up, settled, stake_of, wealth_after}

rounded_down : (n d : ℕ) → 0 < d → RoundedDown n d (n / d)
rounded_down n d h =
    let next = (div-lt_iff_lt-mul {k = d} {x = n} {y = n / d + 1} h).0 (omega arith) in
    (mul-div-le n d, omega (arith, next, mul_comm d (n / d + 1)))

pub payoff_pencil : (stake half value : ℕ) → PayoffByPencil stake half value (payoff_of stake half value)
payoff_pencil stake half value = (
  λ h. rounded_down (stake * value) half h,
  λ e. ap (λ d. stake * value / d) e ∙ div-zero (stake * value),
)

pub payoff_le : (stake half value : ℕ) → payoff_of stake half value ≤ stake * value
payoff_le stake half value = div-le_self (stake * value) half

pub stake_le : (wealth bet : ℕ) → bet ≤ 1000 → stake_of wealth bet ≤ wealth
stake_le wealth bet h = omega (arith, mul-le-mul_left wealth h)

-- from a wealth that a record can have, by a bet that a policy can make
pub stake_low : (wealth bet : ℕ) → wealth ≤ most_wealth → bet ≤ 1000 → wealth * bet ≤ 100000000000000000
stake_low wealth bet low h = omega (arith, mul-le-mul_left wealth h)

pub payoff_low :
    (wealth bet value : ℕ) → wealth ≤ most_wealth → bet ≤ 1000 → value < 2 ^ 16 →
    stake_of wealth bet * value ≤ 6553600000000000000
payoff_low wealth bet value low h v =
    let s = stake_of wealth bet in
    let le : value ≤ 65536 = omega arith in
    omega (arith, stake_le wealth bet h, mul-le-mul_left s le)

pub growth : (wealth bet half value : ℕ) → ModestGrowth wealth bet value (wealth_after wealth bet half value)
growth wealth bet half value hb hv =
    let s = stake_of wealth bet in
    omega (arith, stake_le wealth bet hb, payoff_le s half value, mul-le-mul_left s hv)

-- the quotient rounded up, as the code has it
pub rounded : (n d : ℕ) → 0 < d → n / d + min 1 (n % d) ≡ rounded_up n d
rounded n d h =
    let up = n / d + min 1 (n % d) in
    let both = div_ceil_times n d h in
    sym (div-eq_of_lt-le {k = up} d (omega (arith, both.1)) (omega (arith, both.0, add-mul up 1 d, one-mul d)))

pub rounded_le : (n d p : ℕ) → 0 < d → (rounded_up n d ≤ p) ↔ (n ≤ p * d)
rounded_le n d p h =
    let both = div-lt_iff_lt-mul {k = d} {x = n + d - 1} {y = p + 1} h in (
      λ low. let lt : rounded_up n d < p + 1 = omega arith in omega (arith, both.0 lt, add-mul p 1 d, one-mul d),
      λ enough. let up : n + d - 1 < (p + 1) * d = omega (arith, add-mul p 1 d, one-mul d) in omega (arith, both.1 up),
    )

pub risk_pencil : (peak : ℕ) → RiskByPencil peak (risk_of peak)
risk_pencil peak h p =
    let e : max peak 1 ≡ peak = omega arith in
    let both = rounded_le 1000000000000 (max peak 1) p (omega arith) in
    (λ low. rw e at (both.0 low), λ enough. both.1 (rw e enough))

pub risk_at : (peak r : ℕ) → r ≡ risk_of peak → RiskByPencil peak r
risk_at peak r e = rw e (risk_pencil peak)

pub settled_pencil : (peak limit : ℕ) → limit < 2 ^ 16 → Decides (settled peak limit) (risk_of peak ≤ limit)
settled_pencil peak limit h =
    let both = rounded_le 1000000000000 (max peak 1) limit (omega arith) in
    let above : peak ≤ max peak 1 = omega arith in (
      λ t. both.1 (omega (arith, leb-true 1000000000000 (peak * limit) t, mul_comm peak limit, mul-le-mul_left limit above)),
      λ low. le-leb 1000000000000 (peak * limit) (⊎_elim
          (λ some. omega (arith, (risk_pencil peak some limit).0 low, mul_comm peak limit))
          (λ none. let e : max peak 1 ≡ 1 = omega arith in absurd (omega (arith, rw e at (both.0 low))))
          (cases_lt 0 peak)),
    )
