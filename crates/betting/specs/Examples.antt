-- Examples that can be worked out by hand.
use Rattle.std.specs.Prelude.{◌≡◌, ℕ, List, [], ◌∷◌, replicate}
use Rattle.betting.specs.Accounts.{Account, fresh_account, played}
use Rattle.betting.specs.Shrinks.{fresh, shrinking_bet, told_all}
use Rattle.betting.specs.Sums.{risk_of, wealth_after}

-- An account that always bets so much, after these values, at a risk limit of 50.
abbrev pub after : ℕ → ℕ → List ℕ → Account ℕ ℕ → Account ℕ ℕ
after bet half [] x = x
after bet half (v ∷ vs) x = after bet half vs (played (λ _. bet) (λ s _. s) half v 50 x)

abbrev pub from_start : ℕ → ℕ → List ℕ → Account ℕ ℕ
from_start bet half vs = after bet half vs (fresh_account 0 0)

-- A pair has half 1; a win has the value 2, and a loss 0.
pub record WorkedWealth : Type 0 where
  pub win : (from_start 200 1 (2 ∷ [])).wealth ≡ 1200000000
  pub win_risk : risk_of (from_start 200 1 (2 ∷ [])).peak ≡ 834
  pub win_loss : (from_start 200 1 (2 ∷ 0 ∷ [])).wealth ≡ 960000000
  pub win_loss_peak : (from_start 200 1 (2 ∷ 0 ∷ [])).peak ≡ 1200000000
  pub win_loss_risk : risk_of (from_start 200 1 (2 ∷ 0 ∷ [])).peak ≡ 834
  pub loss : (from_start 200 1 (0 ∷ [])).wealth ≡ 800000000
  pub loss_risk : risk_of (from_start 200 1 (0 ∷ [])).peak ≡ 1000
  pub seven_wins : wealth_after 7 200 1 2 ≡ 8
  pub seven_loses : wealth_after 7 200 1 0 ≡ 6
  pub four_wins : wealth_after 4 200 1 2 ≡ 4
  pub four_loses : wealth_after 4 200 1 0 ≡ 4
  -- a share of 2/3 has half 2 and top 3, and a card without a vote the value 2
  pub share_win : (from_start 400 2 (3 ∷ [])).wealth ≡ 1200000000
  pub share_loss : (from_start 400 2 (0 ∷ [])).wealth ≡ 600000000
  pub share_blank : (from_start 400 2 (2 ∷ [])).wealth ≡ 1000000000

-- A pair's shrinking bet, of weight 100 and first bet 200, after these values.
abbrev pub bet_after : List ℕ → ℕ
bet_after vs = shrinking_bet (told_all (fresh 200 100 1 2) vs)

pub record WorkedBets : Type 0 where
  pub one_win : bet_after (2 ∷ []) ≡ 207
  pub one_loss : bet_after (0 ∷ []) ≡ 188
  pub twenty_losses : bet_after (replicate 20 0) ≡ 0
