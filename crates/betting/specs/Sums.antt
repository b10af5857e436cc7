-- Wealth and risk in whole numbers. `/` rounds down, and `-` stops at 0.
use Rattle.std.specs.Prelude.{◌≡◌, ℕ, ◌+◌, ◌-◌, ◌*◌, ◌/◌, ◌<◌, ◌≤◌, max, Bool, ◌↔◌, nat_le}

-- What a bet, in thousandths of the wealth, puts at stake.
abbrev pub stake_of : ℕ → ℕ → ℕ
stake_of wealth bet = wealth * bet / 1000

-- What the stake brings on a card of this value; x / 0 is 0, so a half of 0 brings nothing.
abbrev pub payoff_of : ℕ → ℕ → ℕ → ℕ
payoff_of stake half value = stake * value / half

abbrev pub wealth_after : ℕ → ℕ → ℕ → ℕ → ℕ
wealth_after wealth bet half value = wealth - stake_of wealth bet + payoff_of (stake_of wealth bet) half value

-- An assertion with this peak needs no more draws at the risk limit, in thousandths.
abbrev pub settled : ℕ → ℕ → Bool
settled peak limit = nat_le 1000000000000 (peak * limit)

abbrev pub rounded_up : ℕ → ℕ → ℕ
rounded_up n d = (n + d - 1) / d

-- The measured risk in thousandths; a peak of 0, which no record has, counts as 1.
abbrev pub risk_of : ℕ → ℕ
risk_of peak = rounded_up 1000000000000 (max peak 1)

-- By pencil: d goes q times into n, and not once more.
abbrev pub RoundedDown : ℕ → ℕ → ℕ → Type 0
RoundedDown n d q = (d * q ≤ n) × (n < d * (q + 1))

abbrev pub StakeByPencil : ℕ → ℕ → ℕ → Type 0
StakeByPencil wealth bet = RoundedDown (wealth * bet) 1000

abbrev pub PayoffByPencil : ℕ → ℕ → ℕ → ℕ → Type 0
PayoffByPencil stake half value f = (0 < half → RoundedDown (stake * value) half f) × (half ≡ 0 → f ≡ 0)

-- The risk r is at most p exactly when p thousandths of the peak reach 10^9.
abbrev pub RiskByPencil : ℕ → ℕ → Type 0
RiskByPencil peak r = 0 < peak → (p : ℕ) → (r ≤ p) ↔ (1000000000000 ≤ p * peak)

-- On a bet and a value of at most 1,000 no wealth grows to more than a thousand times itself.
abbrev pub ModestGrowth : ℕ → ℕ → ℕ → ℕ → Type 0
ModestGrowth wealth bet value r = bet ≤ 1000 → value ≤ 1000 → r ≤ 1000 * wealth
