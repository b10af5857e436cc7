-- The calls of an audit: what each answers, and what it leaves.
use Rattle.std.specs.Prelude.{ℕ, ◌+◌, ◌*◌, max, Bool, true, ◌&&◌, ◌||◌, List, [], ◌∷◌, map, take, drop, Some, None, Option, ◌==◌, if◌then◌else◌, nat_le, nat_lt}
use Rattle.refusal.specs.declared.Refusal.{Refusal}
use Rattle.refusal.specs.declared.Refusal.TheVariants.{NoDrawsLeft, NotTheNextPlace, CountUnfinished}
use Rattle.ballot.specs.declared.Card.{Card}
use Rattle.assorter.specs.declared.assorters.Assorter.{Ghosts as Assorting}
use Rattle.betting.specs.Accounts.{Account, played, tallied}
use Rattle.betting.specs.Sums.{risk_of, settled}
use Rattle.betting.specs.declared.policy.Policy.{Ghosts as Betting}
use Rattle.verdict.specs.declared.Finding.{Finding}
use Rattle.verdict.specs.declared.Finding.TheVariants.{Confirm, Continue, FullHandCount}
use Rattle.course.specs.Terms.{Terms, Reading, shown_refusal}

-- What assorters and policies mean.
pub record Rules (A S : Type 0) : Type 1 where
  pub half : A → ℕ
  pub value : A → Card → ℕ
  pub claim : A → List Card → Type 0
  pub bet : S → ℕ
  pub told : S → ℕ → S

-- The rules of an assorter and a policy of the code.
abbrev pub rules_of : {A P : Type 0} → Assorting A → (p : Betting P) → Rules A p.State
rules_of a p = record { half = a.halves; value = a.values; claim = a.claims; bet = p.bets; told = p.told }

-- The accounts of all assertions, how many entries were taken, and how many cards the hand count has.
pub record State (A S : Type 0) : Type 0 where
  pub accounts : List (Account A S)
  pub drawn : ℕ
  pub counted : ℕ

pub data Call : Type 0 where
  entry : Reading → Call
  verdict : Call
  escalation : Call
  hand_count : Reading → Call
  closing : Call

-- A finding comes with the draw count and each contest's risk, a closing with whether each contest is upheld.
pub data Answer : Type 0 where
  refused : Refusal → Answer
  taken : Answer
  finding : Finding → ℕ → List ℕ → Answer
  upheld : List Bool → Answer

-- The contests' parts of a list, by how many elements each has.
abbrev pub parts : {X : Type 0} → List ℕ → List X → List (List X)
parts [] xs = []
parts (n ∷ ns) xs = take n xs ∷ parts ns (drop n xs)

-- The first refusal of two.
abbrev pub first_of : Option Refusal → Option Refusal → Option Refusal
first_of (Some r) later = Some r
first_of None later = later

module _ {A S : Type 0} where
  abbrev pub all_settled : ℕ → List (Account A S) → Bool
  all_settled limit [] = true
  all_settled limit (x ∷ xs) = settled x.peak limit && all_settled limit xs

  -- The largest risk of the assertions.
  abbrev pub worst_risk : List (Account A S) → ℕ
  worst_risk [] = 0
  worst_risk (x ∷ xs) = max (risk_of x.peak) (worst_risk xs)

  abbrev pub risks : Terms → State A S → List ℕ
  risks t σ = map worst_risk (parts t.assertions σ.accounts)

  -- No assertion wants a draw, or the draws are spent.
  abbrev pub no_draws_left : Terms → State A S → Bool
  no_draws_left t σ = all_settled t.limit σ.accounts || nat_le t.draws σ.drawn

  abbrev pub found_by : Terms → State A S → Finding
  found_by t σ =
      if all_settled t.limit σ.accounts then Confirm else (if σ.drawn == t.draws then FullHandCount else Continue)

  abbrev pub refusal_of : Terms → State A S → Call → Option Refusal
  refusal_of t σ (entry e) = first_of (shown_refusal t e) (if no_draws_left t σ then Some NoDrawsLeft else None)
  refusal_of t σ verdict = None
  refusal_of t σ escalation = None
  refusal_of t σ (hand_count e) =
      first_of (shown_refusal t e) (if e.place == σ.counted + 1 then None else Some NotTheNextPlace)
  refusal_of t σ closing = if nat_lt σ.counted t.cards then Some CountUnfinished else None

  -- A refused call leaves the state as it is.
  abbrev pub unless_refused : Option Refusal → State A S → State A S × Answer → State A S × Answer
  unless_refused (Some r) σ x = (σ, refused r)
  unless_refused None σ x = x

  module _ (R : Rules A S) where
    -- A missing card has the value 0.
    abbrev pub shown_value : A → Reading → ℕ
    shown_value a e = if e.found == 0 then 0 else R.value a e.card

    abbrev pub after_entry : ℕ → Reading → Account A S → Account A S
    after_entry limit e x = played R.bet R.told (R.half x.assorter) (shown_value x.assorter e) limit x

    abbrev pub after_count : Reading → Account A S → Account A S
    after_count e x = tallied (shown_value x.assorter e) x

    -- Each assertion's tally is above a half for each of the N cards.
    abbrev pub all_above : ℕ → List (Account A S) → Bool
    all_above N [] = true
    all_above N (x ∷ xs) = nat_lt (R.half x.assorter * N) x.tally && all_above N xs

    abbrev pub answered : Terms → State A S → Call → State A S × Answer
    answered t σ (entry e) = (record σ { accounts = map (after_entry t.limit e) σ.accounts; drawn = σ.drawn + 1 }, taken)
    answered t σ verdict = (σ, finding (found_by t σ) σ.drawn (risks t σ))
    answered t σ escalation = (σ, taken)
    answered t σ (hand_count e) = (record σ { accounts = map (after_count e) σ.accounts; counted = σ.counted + 1 }, taken)
    answered t σ closing = (σ, upheld (map (all_above t.cards) (parts t.assertions σ.accounts)))

    -- What a call leaves and answers.
    abbrev pub step : Terms → State A S → Call → State A S × Answer
    step t σ c = unless_refused (refusal_of t σ c) σ (answered t σ c)

    -- What the calls leave and answer, one by one.
    abbrev pub course : Terms → State A S → List Call → List (State A S × Answer)
    course t σ [] = []
    course t σ (c ∷ cs) = step t σ c ∷ course t (step t σ c).0 cs
