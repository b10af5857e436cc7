-- Audits that are opened by the contests' own assertions: their bound and their hand count in terms of the outcomes.
use Rattle.std.specs.Prelude.{◌≡◌, ℕ, List}
use Rattle.std.specs.List.{AllByRecursion}
use Rattle.ballot.specs.declared.Candidate.{Candidate}
use Rattle.ballot.specs.declared.Card.{Card}
use Rattle.ballot.specs.declared.Contest.{Contest}
use Rattle.ballot.specs.Slates.{slates}
use Rattle.ballot.specs.Votes.{TrulyWon}
use Rattle.assertion.specs.declared.assertions.Assertion.{Assertion}
use Rattle.assertion.specs.Assertions.{claim_of}
use Rattle.assertion.specs.Values.{half_of}
use Rattle.assorter.specs.Law.{JustWhen}
use Rattle.assorter.specs.Values.{Holds, worth}
use Rattle.betting.specs.Policies.{Chosen, chosen_bet, chosen_told}
use Rattle.course.specs.Terms.{Terms}
use Rattle.course.specs.Course.{Rules, State, Call}
use Rattle.course.specs.Scripts.{CastCards}
use Rattle.course.specs.Bounds.{AtMostBring, Contradicted, Fits, WrongAnswer}
use Rattle.course.specs.Laws.{BeforeEscalation, ClosesBy}

-- The rules of a setup's own assertions and policies.
abbrev pub own_rules : Rules Assertion Chosen
own_rules = record {
  half = half_of;
  value = λ a. worth (claim_of a);
  claim = λ a. Holds (claim_of a);
  bet = chosen_bet;
  told = chosen_told;
}

-- Contest k, counted from 0, was truly won on the cards by its reported winners; past the last there is nothing to win.
abbrev pub Won : ℕ → List Contest → List Candidate → List Card → Type 0
Won k xs cs cards = AllByRecursion (λ s. s.number ≡ k → TrulyWon s.contest s.number s.own cards) (slates 0 xs cs)

module _ (xs : List Contest) (cs : List Candidate) (t : Terms) (σ : State Assertion Chosen) where
  -- The cards contradict a contest just when its reported winners did not truly win.
  abbrev pub ContradictedWhenLost : Type 0
  ContradictedWhenLost =
      (b : CastCards) (k : ℕ) →
      JustWhen (Contradicted own_rules t σ b k) (Won k xs cs b.cards → ⊥)

  -- Where the reported winners of some contest did not truly win, at most the risk limit's share of all draw sequences
  -- confirm, or uphold such a contest.
  abbrev pub LimitsWrongBoards : Type 0
  LimitsWrongBoards =
      (b : CastCards) → Fits t b → (k : ℕ) → (Won k xs cs b.cards → ⊥) →
      AtMostBring own_rules t σ b t.limit 1000 (WrongAnswer own_rules t σ b)

  -- A hand count that shows every card truly and found upholds a contest exactly when its reported winners truly won, and
  -- with cards missing only then, whatever was entered before it.
  abbrev pub HandCountDecides : Type 0
  HandCountDecides =
      (before : List Call) → AllByRecursion BeforeEscalation before → (b : CastCards) → Fits t b →
      ClosesBy own_rules t (λ k. Won k xs cs b.cards) σ before b
