-- The largest risk of records, and the bound of a risk.
use Rattle.std.proofs.Common.{◌≡◌, ℕ, ◌+◌, ◌-◌, ◌≤◌, max, List, [], ◌∷◌, map, unwrap_or, arith}
use Rattle.std.proofs.lemmas.Nat.{div_below}
use Rattle.std.specs.List.{fold, reduce}
use Rattle.betting.specs.declared.records.Record.{Record}
use Rattle.betting.specs.Accounts.{account}
use Rattle.betting.specs.Sums.{risk_of}
use Rattle.course.specs.Course.{worst_risk}

-- a peak that is at least the wealth at the start
risk_low : (peak : ℕ) → 1000000000 ≤ peak → risk_of peak ≤ 1000
risk_low peak h =
    let high : 1000000000 ≤ max peak 1 = omega arith in
    let below = div_below (1000000000000 + max peak 1 - 1) (max peak 1) 1001 (omega arith) (omega arith) in
    omega arith

module _ {A P S : Type 0} (state : P → S) where
  worst_after :
      (n : ℕ) (rs : List (Record A P)) →
      fold max n (map (λ r. risk_of r.peak) rs) ≡ max n (worst_risk (map (account state) rs))
  worst_after n [] = omega arith
  worst_after n (r ∷ rs) = omega (arith, worst_after (max n (risk_of r.peak)) rs)

  pub worst_of_all :
      (rs : List (Record A P)) →
      unwrap_or (reduce max (map (λ r. risk_of r.peak) rs)) 0 ≡ worst_risk (map (account state) rs)
  worst_of_all [] = omega arith
  worst_of_all (r ∷ rs) = worst_after (risk_of r.peak) rs

  pub worst_low : (rs : List (Record A P)) → worst_risk (map (account state) rs) ≤ 1000
  worst_low [] = omega arith
  worst_low (r ∷ rs) = omega (arith, risk_low r.peak r.ranges.1, worst_low rs)
