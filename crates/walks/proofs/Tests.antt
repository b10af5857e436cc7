-- What all records tell, as a test of each record, and a card's worth by what is shown.
use Rattle.std.proofs.Common.{◌≡◌, ℕ, ◌*◌, ◌&&◌, nat_lt, List, [], ◌∷◌, map, Some, None, Option, refl, ap}
use Rattle.std.specs.List.{list_all}
use Rattle.ballot.specs.declared.Card.{Card}
use Rattle.betting.specs.declared.records.Record.{Record}
use Rattle.betting.specs.Accounts.{account}
use Rattle.betting.specs.Sums.{settled}
use Rattle.course.specs.Course.{Rules, all_above, all_settled, shown_value}
use Rattle.walks.specs.Walks.{as_found, seen}

module _ {A P S : Type 0} (state : P → S) where
  pub settled_tests :
      (limit : ℕ) (rs : List (Record A P)) →
      list_all (λ r. settled r.peak limit) rs ≡ all_settled limit (map (account state) rs)
  settled_tests limit [] = refl
  settled_tests limit (r ∷ rs) = ap (λ b. settled r.peak limit && b) (settled_tests limit rs)

  pub above_tests :
      (R : Rules A S) (cards : ℕ) (rs : List (Record A P)) →
      list_all (λ r. nat_lt (R.half r.assorter * cards) r.tally) rs ≡ all_above R cards (map (account state) rs)
  above_tests R cards [] = refl
  above_tests R cards (r ∷ rs) = ap (λ b. nat_lt (R.half r.assorter * cards) r.tally && b) (above_tests R cards rs)

pub seen_worth :
    {A S : Type 0} (R : Rules A S) (card : Option Card) (a : A) → seen R.value card a ≡ shown_value R a (as_found card)
seen_worth R (Some x) a = refl
seen_worth R None a = refl
