-- What the policies of the code mean.
use Rattle.std.specs.Prelude.{ℕ, min, Some, None, Option}
use Rattle.betting.specs.declared.shrinking.Shrinking.{Shrinking}
use Rattle.betting.specs.declared.chosen.ChosenPolicy.{ChosenPolicy}
use Rattle.betting.specs.declared.chosen.ChosenPolicy.TheVariants.{Fixed as OfFixed, Shrinking as OfShrinking}
use Rattle.betting.specs.Shrinks.{Shrinks, shrinking_bet, shrinking_told}

abbrev pub shrinks : Shrinking → Shrinks
shrinks p = record {
  first = p.first;
  weight = p.weight;
  half = p.half;
  top = p.top;
  counted = p.counted;
  excess = p.excess;
}

abbrev pub in_state : Option Shrinking → Option Shrinks
in_state (Some p) = Some (shrinks p)
in_state None = None

-- A chosen policy bets the same each time, or is a shrinking one.
pub data Chosen : Type 0 where
  always : ℕ → Chosen
  shrinking : Shrinks → Chosen

abbrev pub chosen_state : ChosenPolicy → Chosen
chosen_state (OfFixed p) = always p.bet
chosen_state (OfShrinking p) = shrinking (shrinks p)

abbrev pub chosen_bet : Chosen → ℕ
chosen_bet (always b) = min b 1000
chosen_bet (shrinking s) = shrinking_bet s

abbrev pub chosen_told : Chosen → ℕ → Chosen
chosen_told (always b) v = always b
chosen_told (shrinking s) v = shrinking (shrinking_told s v)
