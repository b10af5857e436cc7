-- An audit just opened.
use Rattle.std.proofs.Common.{◌≡◌, ℕ, Bool, true, false, ◌||◌, List, [], ◌∷◌, map, length, take, drop, Ok, sym, refl, ap, ◌∙◌, subst, arith}
use Rattle.std.specs.List.{AllByRecursion}
use Rattle.std.proofs.Math.Logic.{∥∥₁_elim}
use Rattle.std.proofs.Props.{props}
use Rattle.std.proofs.ByRecursion.{All-map, All-take, All-weaker}
use Rattle.std.proofs.lemmas.Simd.{map-map}
use Rattle.std.proofs.lemmas.List.{length-take-le, take_at}
use Rattle.std.proofs.lemmas.Bool.{ltb-false, or_parts}
use Rattle.ballot.specs.declared.Candidate.{Candidate}
use Rattle.ballot.specs.declared.Contest.{Contest}
use Rattle.setup.specs.declared.setup.PolicyChoice.{PolicyChoice}
use Rattle.setup.specs.declared.setup.PolicyChoice.TheVariants.{Fixed, Shrinking}
use Rattle.setup.specs.Described.{PolicyFits}
use Rattle.setup.specs.declared.setup.Setup.{Setup}
use Rattle.acceptance.specs.Held.{HoldsSetup}
use Rattle.acceptance.proofs.Opening.{each_of, OpeningFacts, opening_facts}
use Rattle.assertion.specs.declared.assertions.Assertion.{Assertion}
use Rattle.assertion.specs.Assertions.{Claim, Plan, claim_of, planned}
use Rattle.assorter.proofs.Lists.{all_from_map}
use Rattle.betting.specs.Accounts.{Account, fresh_account}
use Rattle.betting.specs.Policies.{Chosen}
use Rattle.course.specs.Terms as course
use Rattle.course.specs.Course.{Rules, State}
use Rattle.course.specs.Openings.{own_rules}
use Rattle.course.proofs.Openings.{contradicted_when_lost, hand_count_decides, limits_wrong_boards, OwnAccounts}
use Rattle.opening.specs.Starts.{after_start, any_fewer, fewer, start_answer, started}
use Rattle.opening.proofs.Fills.{started_long}
use Rattle.calls.specs.declared.drawing.Audit.{Audit}
use Rattle.calls.specs.Calls.{audit_state, terms_of}
use Rattle.calls.specs.Openings.{AlwaysPromised, AsPlanned, Begun, OfSetup, OwnAssertions, by_claim, plan_account}
use Rattle.calls.proofs.Plans.{all_of}
use Rattle.calls.proofs.Refusals.{follows_course}

-- ---- what an audit relies on

fits_prop : (choice : PolicyChoice) → IsProp (PolicyFits choice)
fits_prop Fixed = hlevel props
fits_prop (Shrinking weight) = hlevel props

-- from the fact that is kept beside a setup
pub relied_on : (s : Setup) (xs : List Contest) (cs : List Candidate) → ∥ HoldsSetup s xs cs ∥₁ → OpeningFacts s xs cs
relied_on s xs cs held = ∥∥₁_elim held (hlevel (props, fits_prop)) (opening_facts s xs cs)

-- ---- an audit that was started

-- a start that was not refused had enough
had_enough : (too_few : Bool) (done : Unit {0}) → Ok done ≡ start_answer too_few → too_few ≡ false
had_enough true done e = let z : ◌≡◌ {A = ℕ} 0 1 = cc in absurd (omega arith)
had_enough false done e = refl

module _ {A S : Type 0} where
  abbrev Fresh : Account A S → Type 0
  Fresh x = x ≡ fresh_account x.assorter x.state

  pub begun_by :
      (R : Rules A S) (s : Setup) (xs : List Contest) (accounts : List (Account A S)) (audit : Audit) → OfSetup s xs audit →
      AlwaysPromised R audit → AllByRecursion Fresh (take s.assertions accounts) → Begun R s xs accounts audit
  begun_by R s xs accounts audit o promise fresh = record {
    of_setup = o;
    fresh = record {
      fresh = subst (λ n. AllByRecursion Fresh (take n accounts)) (sym o.needed) fresh;
      undrawn = o.undrawn;
      uncounted = refl;
    };
    follows = follows_course R (terms_of audit.terms) (audit_state audit accounts);
    promise = promise accounts;
  }

  -- ---- with the caller's own assorters and policies

  started_fresh : (xs : List A) (ss : List S) → AllByRecursion Fresh (started xs ss)
  started_fresh [] ss = tt
  started_fresh (x ∷ xs) [] = tt
  started_fresh (x ∷ xs) (s ∷ ss) = (refl, started_fresh xs ss)

  -- the first n accounts were started
  with_fresh :
      (n : ℕ) (accounts : List (Account A S)) (xs : List A) (ss : List S) → take n accounts ≡ take n (started xs ss) →
      AllByRecursion Fresh (take n accounts)
  with_fresh n accounts xs ss e = subst (AllByRecursion Fresh) (sym e) (All-take Fresh n (started xs ss) (started_fresh xs ss))

module _ {A P S : Type 0} (st : P → S) (xs : List A) (ps : List P) where
  with_started :
      {R : Type 0} (n : ℕ) (rs : List R) (old new : List (Account A S)) → any_fewer n xs ps rs ≡ false →
      new ≡ after_start (any_fewer n xs ps rs) n (take n (started xs (map st ps))) old →
      take n new ≡ take n (started xs (map st ps))
  with_started n rs old new enough e =
      let b = or_parts (fewer n rs || fewer n xs) (fewer n ps) enough in
      let d = or_parts (fewer n rs) (fewer n xs) b.0 in
      let ys = started xs (map st ps) in
      ap (take n) (e ∙ ap (λ z. after_start z n (take n ys) old) enough)
      ∙ take_at (take n ys) (drop n old) n
      (length-take-le n ys (started_long st xs ps n (ltb-false (length xs) n d.1) (ltb-false (length ps) n b.1)))

  -- as many as were asked for, n of them, have seen no card
  pub fresh_start :
      {R : Type 0} (asked n : ℕ) (rs : List R) (old new : List (Account A S)) (done : Unit {0}) → asked ≡ n →
      Ok done ≡ start_answer (any_fewer asked xs ps rs) →
      new ≡ after_start (any_fewer asked xs ps rs) asked (take asked (started xs (map st ps))) old →
      AllByRecursion Fresh (take n new)
  fresh_start asked n rs old new done same answer e =
      let enough = had_enough (any_fewer asked xs ps rs) done answer in
      subst (λ k. AllByRecursion Fresh (take k new)) same
      (with_fresh asked new xs (map st ps) (with_started asked rs old new enough e))

-- ---- with the contests' own assertions

abbrev Unseen : Account Claim Chosen → Type 0
Unseen z = (z.wealth ≡ 1000000000) × (z.peak ≡ 1000000000) × (z.tally ≡ 0)

unseen_fresh : (x : Account Assertion Chosen) → Unseen (by_claim x) → x ≡ fresh_account x.assorter x.state
unseen_fresh x h =
    ap (λ w. record x { wealth = w }) h.0 ∙ ap (λ p. record x { wealth = 1000000000; peak = p }) h.1
    ∙ ap (λ n. record x { wealth = 1000000000; peak = 1000000000; tally = n }) h.2

module _ (choice : PolicyChoice) (plans : List Plan) (ys : List (Account Assertion Chosen)) (same : map by_claim ys ≡ map (plan_account choice) plans) where
  planned_fresh : AllByRecursion (λ x. x ≡ fresh_account x.assorter x.state) ys
  planned_fresh =
      All-weaker (λ x. Unseen (by_claim x)) (λ x. x ≡ fresh_account x.assorter x.state) unseen_fresh ys
      (all_from_map Unseen by_claim ys
      (subst (AllByRecursion Unseen) (sym same)
      (All-map Unseen (plan_account choice) plans (all_of (λ plan. Unseen (plan_account choice plan)) (λ _. (refl, refl, refl)) plans))))

  planned_claims : map (λ x. claim_of x.assorter) ys ≡ map (λ plan. plan.claim) plans
  planned_claims =
      let said : Account Claim Chosen → Claim = λ z. z.assorter in
      sym (map-map said by_claim ys) ∙ ap (map said) same ∙ map-map said (plan_account choice) plans

module _ (s : Setup) (xs : List Contest) (cs : List Candidate) (h : HoldsSetup s xs cs) (accounts : List (Account Assertion Chosen)) (same : AsPlanned s xs cs accounts) (audit : Audit) (o : OfSetup s xs audit) (promise : AlwaysPromised own_rules audit) where
  pub own_begun : Begun own_rules s xs accounts audit
  own_begun = begun_by own_rules s xs accounts audit o promise (planned_fresh s.terms.policy (planned 0 xs cs) (take s.assertions accounts) same)

  abbrev t : course.Terms
  t = terms_of audit.terms

  abbrev σ : State Assertion Chosen
  σ = audit_state audit accounts

  own_accounts : OwnAccounts xs cs t σ
  own_accounts = record {
    stand = each_of s xs cs (opening_facts s xs cs h);
    parts_are = ap (λ z. z.assertions) o.terms;
    claims_are =
        ap (λ n. map (λ x. claim_of x.assorter) (take n accounts)) o.needed
        ∙ planned_claims s.terms.policy (planned 0 xs cs) (take s.assertions accounts) same;
  }

  pub own_outcomes : OwnAssertions s xs cs accounts audit
  own_outcomes = record {
    as_planned = same;
    contradicted_when_lost = contradicted_when_lost xs cs t σ own_accounts;
    limits_wrong_boards = limits_wrong_boards xs cs t σ own_accounts ((promise accounts).risk_limited own_begun.fresh);
    hand_count_decides =
        hand_count_decides xs cs t σ own_accounts (promise accounts).counts_decide own_begun.fresh audit.terms.ranges.4;
  }
