-- In the rules' ranges no account is cut.
use Rattle.std.proofs.Common.{◌≡◌, ℕ, ◌*◌, ◌≤◌, min, max, false, sym, mul-le-mul_left, arith}
use Rattle.std.proofs.lemmas.Bool.{cond_both, leb-false}
use Rattle.betting.specs.Accounts.{Account, cut, InRange, moved, played}
use Rattle.betting.specs.Limits.{most_wealth}
use Rattle.betting.specs.Sums.{settled, wealth_after}
use Rattle.betting.proofs.Pencil.{growth}

-- an account that isn't settled has a low peak
pub unsettled_low : (peak limit : ℕ) → 10 ≤ limit → settled peak limit ≡ false → peak ≤ 100000000000
unsettled_low peak limit h e =
    omega (arith, leb-false 1000000000000 (peak * limit) e, mul-le-mul_left peak h)

module _ {A S : Type 0} where
  pub uncut : (x : Account A S) → x.wealth ≤ most_wealth → x.peak ≤ most_wealth → cut x ≡ x
  uncut x low high =
      let w : min x.wealth most_wealth ≡ x.wealth = omega arith in
      let p : min x.peak most_wealth ≡ x.peak = omega arith in
      simp (w, p)

  -- what the code writes back where the account isn't settled
  pub cut_played : (bet : S → ℕ) (told : S → ℕ → S) (half value limit : ℕ) (x : Account A S) (s : S) (w p : ℕ) →
      false ≡ settled x.peak limit → x.peak ≤ most_wealth →
      s ≡ told x.state value → w ≡ min (wealth_after x.wealth (bet x.state) half value) most_wealth → p ≡ max x.peak w →
      record x { state = s; wealth = w; peak = p } ≡ cut (played bet told half value limit x)
  cut_played bet told half value limit x s w p open-still low es ew ep =
      let t = sym open-still in
      let g = wealth_after x.wealth (bet x.state) half value in
      let top : p ≡ min (max x.peak g) most_wealth = omega arith in
      simp t (cc)

  -- in the rules' ranges no account goes higher than a record
  pub played_low : (bet : S → ℕ) (told : S → ℕ → S) (half value limit : ℕ) (x : Account A S) →
      InRange value limit → bet x.state ≤ 1000 → x.wealth ≤ x.peak → x.peak ≤ most_wealth →
      ((played bet told half value limit x).wealth ≤ most_wealth) × ((played bet told half value limit x).peak ≤ most_wealth)
  played_low bet told half value limit x r modest below low =
      cond_both (settled x.peak limit) x (moved bet told half value x) (λ y. (y.wealth ≤ most_wealth) × (y.peak ≤ most_wealth))
      (λ t. (omega arith, low))
      (λ t.
      let most = growth x.wealth (bet x.state) half value modest r.low_value in
      let few = unsettled_low x.peak limit r.some_limit t in
      (omega arith, omega arith))
