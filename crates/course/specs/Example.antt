-- Audits of a contest with one seat and two candidates that can be worked out by hand.
use Rattle.std.specs.Prelude.{◌≡◌, ℕ, ◌*◌, ◌^◌, ◌≤◌, min, Bool, true, false, List, [], ◌∷◌, map, replicate, None, ◌==◌}
use Rattle.std.specs.List.{AllByRecursion}
use Rattle.ballot.specs.declared.Card.{Card}
use Rattle.ballot.specs.declared.Candidate.{Candidate}
use Rattle.ballot.specs.declared.Contest.{Contest}
use Rattle.ballot.specs.declared.Kind.TheVariants.{Plurality}
use Rattle.assertion.specs.Assertions.{Claim, Plan, planned_of}
use Rattle.assertion.specs.Values.{half_at}
use Rattle.assorter.specs.Values.{Holds, worth}
use Rattle.chance.specs.Sequences.{sequences, Counted}
use Rattle.betting.specs.Accounts.{fresh_account}
use Rattle.course.specs.Terms.{Terms}
use Rattle.course.specs.Course.{Rules, State, Answer, risks, step}
use Rattle.course.specs.Course.Call.{entry, escalation, closing}
use Rattle.course.specs.Course.Answer.{taken, upheld}
use Rattle.course.specs.Scripts.{CastCards, Move, calls, show_missing}
use Rattle.course.specs.Bounds.{Brings, Contradicted, Fits, LowRisk, Opened, WrongAnswer}
use Rattle.course.specs.Laws.{BeforeEscalation, counts_to, left_by}

-- The claims, and a bet that stays.
abbrev pub fixed_rules : Rules Claim ℕ
fixed_rules = record { half = half_at; value = worth; claim = Holds; bet = λ s. min s 1000; told = λ s v. s }

abbrev pub one_seat : Contest
one_seat = record { kind = Plurality; candidates = 2; seats = 1 }

-- So many votes are reported for the two candidates.
abbrev pub reported : ℕ → ℕ → List Candidate
reported v w = record { name = replicate 8 65; votes = v } ∷ record { name = replicate 8 66; votes = w } ∷ []

abbrev pub plans : ℕ → ℕ → List Plan
plans v w = planned_of 0 one_seat (reported v w)

abbrev pub just_opened : List Plan → State Claim ℕ
just_opened ps = record { accounts = map (λ plan. fresh_account plan.claim plan.bet) ps; drawn = 0; counted = 0 }

abbrev pub for_candidate : ℕ → Card
for_candidate i = record { marks = 2 ^ i ∷ replicate 7 0 }

abbrev pub both_found : CastCards
both_found = record { cards = for_candidate 0 ∷ for_candidate 1 ∷ []; missing = λ i. false }

-- Both cards are for the first candidate.
abbrev pub all_first : (ℕ → Bool) → CastCards
all_first missing = record { cards = for_candidate 0 ∷ for_candidate 0 ∷ []; missing = missing }

-- Two cards, one for each candidate, and both votes reported for the first. The risk limit is above all that an audit can
-- have, so that one draw may confirm.
abbrev pub two_cards : Terms
two_cards = record { cards = 2; limit = 513; draws = 10; candidates = 2 ∷ []; assertions = 1 ∷ [] }

abbrev pub both_for_first : State Claim ℕ
both_for_first = just_opened (plans 2 0)

-- One entry brings the contest's risk to p.
abbrev pub FallsTo : ℕ → List ℕ → Type 0
FallsTo p =
    Brings fixed_rules two_cards both_for_first both_found (Move.drawn ∷ []) None
    (LowRisk fixed_rules two_cards both_for_first 0 p)

-- One entry, and a verdict.
abbrev pub draw_and_ask : List (Move two_cards)
draw_and_ask = Move.drawn ∷ Move.ask ∷ []

-- Some answer to them is wrong.
abbrev pub Misled : List ℕ → Type 0
Misled =
    Brings fixed_rules two_cards both_for_first both_found draw_and_ask None
    (WrongAnswer fixed_rules two_cards both_for_first both_found)

-- What the closing answers after a hand count of both places.
abbrev pub closed : CastCards → Answer
closed b = (step fixed_rules two_cards (left_by fixed_rules two_cards both_for_first (escalation ∷ counts_to b 2)) closing).1

-- The bet is 950 and the reported winner didn't win. So many of the two draws bring the risk that low, none brings it
-- lower, and so many mislead a verdict; these are no more than the risk's share of them. A hand count upholds the contest
-- where both cards are for its winner and found.
pub record Worked (risk count : ℕ) : Type 0 where
  pub bets : map (λ plan. plan.bet) (plans 2 0) ≡ 950 ∷ []
  pub contradicted : Contradicted fixed_rules two_cards both_for_first both_found 0
  pub lowest : risk ≡ 513
  pub counted : Counted (FallsTo risk) (sequences 2 1) count
  pub none_lower : Counted (FallsTo 512) (sequences 2 1) 0
  pub misled : Counted Misled (sequences 2 1) count
  pub bounded : 1000 * count ≤ risk * 2 ^ 1
  pub fits : Fits two_cards both_found
  pub opens : Opened both_for_first
  pub before : AllByRecursion BeforeEscalation (calls two_cards both_found draw_and_ask None (1 ∷ []))
  pub lost : closed both_found ≡ upheld (false ∷ [])
  pub won : closed (all_first (λ i. false)) ≡ upheld (true ∷ [])
  pub won_but_for_one : closed (all_first (λ i. i == 2)) ≡ upheld (false ∷ [])

-- 60 and 40 votes are reported on a hundred cards.
abbrev pub hundred_cards : Terms
hundred_cards = record { cards = 100; limit = 50; draws = 400; candidates = 2 ∷ []; assertions = 1 ∷ [] }

-- The first draw names place 1, where no card is found.
abbrev pub first_missing : State Claim ℕ × Answer
first_missing = step fixed_rules hundred_cards (just_opened (plans 60 40)) (entry (show_missing 1))

-- The entry is taken, and moves the assertion to this wealth and risk.
pub record WorkedMissing (wealth risk : ℕ) : Type 0 where
  pub bets : map (λ plan. plan.bet) (plans 60 40) ≡ 200 ∷ []
  pub answer : first_missing.1 ≡ taken
  pub draws : first_missing.0.drawn ≡ 1
  pub moves : map (λ x. x.wealth) first_missing.0.accounts ≡ wealth ∷ []
  pub measured : risks hundred_cards first_missing.0 ≡ risk ∷ []
  pub less : wealth ≡ 800000000
  pub most : risk ≡ 1000
