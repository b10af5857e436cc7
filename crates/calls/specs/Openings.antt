-- What an opening answers and leaves.
use Rattle.std.specs.Prelude.{◌≡◌, ℕ, Bool, true, false, ◌⊎◌, List, map, take, drop, Ok, Err, Result}
use Rattle.refusal.specs.declared.Refusal.{Refusal}
use Rattle.refusal.specs.declared.Refusal.TheVariants.{NoRoom, NoSetup}
use Rattle.ballot.specs.declared.Candidate.{Candidate}
use Rattle.ballot.specs.declared.Contest.{Contest}
use Rattle.ballot.specs.Contests.{assertion_count}
use Rattle.setup.specs.declared.setup.PolicyChoice.{PolicyChoice}
use Rattle.setup.specs.declared.setup.PolicyChoice.TheVariants.{Fixed, Shrinking}
use Rattle.setup.specs.declared.setup.Setup.{Setup}
use Rattle.acceptance.specs.Held.{HoldsSetup}
use Rattle.assertion.specs.declared.assertions.Assertion.{Assertion}
use Rattle.assertion.specs.Assertions.{Claim, Plan, claim_of, planned}
use Rattle.assertion.specs.Values.{half_at, top_at}
use Rattle.betting.specs.Accounts.{Account, fresh_account}
use Rattle.betting.specs.Policies.{Chosen, always, shrinking}
use Rattle.betting.specs.Shrinks.{fresh}
use Rattle.course.specs.Terms as course
use Rattle.course.specs.Course.{Rules}
use Rattle.course.specs.Bounds.{Opened}
use Rattle.course.specs.Openings.{ContradictedWhenLost, HandCountDecides, LimitsWrongBoards}
use Rattle.course.specs.Promise.{Promised}
use Rattle.opening.specs.Starts.{started}
use Rattle.calls.specs.declared.opens.NotOpened.{NotOpened}
use Rattle.calls.specs.declared.drawing.Audit.{Audit}
use Rattle.calls.specs.declared.terms.Size.{Size}
use Rattle.calls.specs.Calls.{audit_state, FollowsCourse, terms_of}

abbrev pub size_of : Contest → Size
size_of x = record { candidates = x.candidates; assertions = assertion_count x }

-- The terms of an audit of this setup with these contests.
abbrev pub setup_terms : Setup → List Contest → course.Terms
setup_terms s xs = record {
  cards = s.cards;
  limit = s.terms.risk_limit;
  draws = s.terms.draw_limit;
  candidates = map (λ x. x.candidates) xs;
  assertions = map assertion_count xs;
}

-- Which answer is given, where too little is lent or not. What holds no accepted setup is refused first, then too
-- little memory; the setup is given back.
module _ (s : Setup) (xs : List Contest) (cs : List Candidate) (too_few : Bool) where
  abbrev pub Refuses : Refusal → Type 0
  Refuses e =
      ((e ≡ NoSetup) × (HoldsSetup s xs cs → ⊥)) ⊎ ((e ≡ NoRoom) × HoldsSetup s xs cs × (too_few ≡ true))

  abbrev pub Opens : Result Audit NotOpened → Type 0
  Opens (Ok audit) = HoldsSetup s xs cs × (too_few ≡ false)
  Opens (Err x) = (x.setup ≡ s) × Refuses x.refusal

-- Records past the first n stay as they are, and where nothing is opened all do.
abbrev pub KeepsOthers : {X : Type 0} → ℕ → List X → List X → Result Audit NotOpened → Type 0
KeepsOthers n before after (Ok audit) = drop n after ≡ drop n before
KeepsOthers n before after (Err x) = after ≡ before

-- ---- an audit just opened

-- It has the setup's terms, and has drawn nothing.
pub record OfSetup (s : Setup) (xs : List Contest) (audit : Audit) : Type 0 where
  pub terms : terms_of audit.terms ≡ setup_terms s xs
  pub needed : audit.terms.needed ≡ s.assertions
  pub undrawn : audit.drawn ≡ 0

module _ {A S : Type 0} (R : Rules A S) where
  -- The promise, whatever the accounts.
  abbrev pub AlwaysPromised : Audit → Type 0
  AlwaysPromised audit = (accounts : List (Account A S)) → Promised R (terms_of audit.terms) (audit_state audit accounts)

  -- An audit of the setup with these accounts, which have seen no card. Whatever calls are then made of it, each answers
  -- or refuses, and leaves every account and both counts, as the course has it; and the promise.
  pub record Begun (s : Setup) (xs : List Contest) (accounts : List (Account A S)) (audit : Audit) : Type 0 where
    pub of_setup : OfSetup s xs audit
    pub fresh : Opened (audit_state audit accounts)
    pub follows : FollowsCourse R (terms_of audit.terms) (audit_state audit accounts)
    pub promise : Promised R (terms_of audit.terms) (audit_state audit accounts)

-- ---- with the caller's own assorters and policies

-- The first n accounts are those of the assorters and the policies beside them.
abbrev pub StartsWith : {A S : Type 0} → ℕ → List A → List S → List (Account A S) → Type 0
StartsWith n assorters states accounts = take n accounts ≡ take n (started assorters states)

-- ---- with the contests' own assertions

-- The policy before the first card: the first bet stays, or a shrinking policy was told nothing yet.
abbrev pub first_policy : PolicyChoice → Plan → Chosen
first_policy Fixed plan = always plan.bet
first_policy (Shrinking weight) plan =
    shrinking (fresh plan.bet weight (half_at plan.claim) (top_at plan.claim))

abbrev pub plan_account : PolicyChoice → Plan → Account Claim Chosen
plan_account choice plan = fresh_account plan.claim (first_policy choice plan)

-- An account by what its assertion claims.
abbrev pub by_claim : Account Assertion Chosen → Account Claim Chosen
by_claim x = record {
  assorter = claim_of x.assorter;
  state = x.state;
  wealth = x.wealth;
  peak = x.peak;
  tally = x.tally;
}

module _ (s : Setup) (xs : List Contest) (cs : List Candidate) (accounts : List (Account Assertion Chosen)) where
  -- The first accounts are those of the planned assertions.
  abbrev pub AsPlanned : Type 0
  AsPlanned = map by_claim (take s.assertions accounts) ≡ map (plan_account s.terms.policy) (planned 0 xs cs)

  -- So the promise speaks of the outcomes: which contests were truly won by their reported winners.
  pub record OwnAssertions (audit : Audit) : Type 0 where
    pub as_planned : AsPlanned
    pub contradicted_when_lost : ContradictedWhenLost xs cs (terms_of audit.terms) (audit_state audit accounts)
    pub limits_wrong_boards : LimitsWrongBoards xs cs (terms_of audit.terms) (audit_state audit accounts)
    pub hand_count_decides : HandCountDecides xs cs (terms_of audit.terms) (audit_state audit accounts)
