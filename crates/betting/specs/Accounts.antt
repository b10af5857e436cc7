-- A record by its meaning, and what one card's value does to it.
use Rattle.std.specs.Prelude.{ℕ, ◌+◌, ◌≤◌, min, max, if◌then◌else◌}
use Rattle.betting.specs.declared.records.Record.{Record}
use Rattle.betting.specs.Limits.{last_tally, most_wealth}
use Rattle.betting.specs.Sums.{settled, wealth_after}

-- The policy counts by its state.
pub record Account (A S : Type 0) : Type 0 where
  pub assorter : A
  pub state : S
  pub wealth : ℕ
  pub peak : ℕ
  pub tally : ℕ

abbrev pub account : {A P S : Type 0} → (P → S) → Record A P → Account A S
account state x = record {
  assorter = x.assorter;
  state = state x.policy;
  wealth = x.wealth;
  peak = x.peak;
  tally = x.tally;
}

-- The account of an assertion that has seen no card.
abbrev pub fresh_account : {A S : Type 0} → A → S → Account A S
fresh_account a s = record { assorter = a; state = s; wealth = 1000000000; peak = 1000000000; tally = 0 }

-- The account after a bet on a card of this value; the policy is told the value after its bet.
abbrev pub moved : {A S : Type 0} → (S → ℕ) → (S → ℕ → S) → ℕ → ℕ → Account A S → Account A S
moved bet told half value x = record x {
  state = told x.state value;
  wealth = wealth_after x.wealth (bet x.state) half value;
  peak = max x.peak (wealth_after x.wealth (bet x.state) half value);
}

-- An account that is settled at the risk limit stays as it is.
abbrev pub played : {A S : Type 0} → (S → ℕ) → (S → ℕ → S) → ℕ → ℕ → ℕ → Account A S → Account A S
played bet told half value limit x = if settled x.peak limit then x else moved bet told half value x

-- The account after a card of this value in the hand count.
abbrev pub tallied : {A S : Type 0} → ℕ → Account A S → Account A S
tallied value x = record x { tally = min (x.tally + value) last_tally }

-- The account as a record can hold it. In the rules' ranges nothing is cut.
abbrev pub cut : {A S : Type 0} → Account A S → Account A S
cut x = record x { wealth = min x.wealth most_wealth; peak = min x.peak most_wealth }

-- The rules' ranges of a value and of a risk limit, as far as they keep every account uncut.
pub record InRange (value limit : ℕ) : Type 0 where
  pub low_value : value ≤ 1000
  pub some_limit : 10 ≤ limit
