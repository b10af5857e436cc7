-- The accounts in which the planned assertions start.
use Rattle.std.proofs.Common.{◌≡◌, ℕ, ◌+◌, ◌-◌, ◌*◌, ◌/◌, ◌<◌, ◌≤◌, Bool, true, false, cond, leb, List, [], ◌∷◌, ◌++◌, map, length, take, drop, Some, None, Ok, Err, sum_by, Result, sym, refl, ap, ◌∙◌, subst, arith, OnOk}
use lib.ListN.{length-map}
use Rattle.std.specs.List.{AllByRecursion}
use Rattle.std.proofs.ByRecursion.{All-append, All-map, All-weaker}
use Rattle.std.proofs.lemmas.Simd.{map-map}
use Rattle.std.proofs.lemmas.List.{take_at}
use Rattle.std.proofs.lemmas.Bool.{le-leb}
use Rattle.std.proofs.lemmas.Bool.Decides.{nat_tests}
use Rattle.refusal.specs.declared.Refusal.{Refusal}
use Rattle.refusal.specs.declared.Refusal.TheVariants.{NoRoom, NoSetup}
use Rattle.bounded.specs.Lists.{Held}
use Rattle.ballot.specs.declared.Candidate.{Candidate}
use Rattle.ballot.specs.declared.Contest.{Contest}
use Rattle.ballot.specs.declared.Kind.{Kind}
use Rattle.ballot.specs.declared.Kind.TheVariants.{Plurality, Approval, Supermajority}
use Rattle.ballot.specs.Contests.{assertion_count}
use Rattle.ballot.specs.Winners.{all_votes, losers, votes_of, winners}
use Rattle.setup.specs.declared.setup.PolicyChoice.{PolicyChoice}
use Rattle.setup.specs.declared.setup.PolicyChoice.TheVariants.{Fixed, Shrinking}
use Rattle.setup.specs.declared.setup.Setup.{Setup}
use Rattle.setup.specs.Described.{PolicyFits}
use Rattle.acceptance.proofs.Opening.{OpeningFacts, each_of}
use Rattle.assertion.specs.declared.assertions.Assertion.{Assertion}
use Rattle.assertion.specs.declared.assertions.Assertion.TheVariants.{Pair, Share}
use Rattle.assertion.specs.declared.assertions.Planned.{Planned}
use Rattle.assertion.specs.Assertions.{Plan, claim_of, list_answer, plan_of, pair_plan, pairs_of, pairs_under, planned, planned_by, planned_of, share_plan}
use Rattle.assertion.specs.Bets.{bet_range, pair_bet, share_bet}
use Rattle.assertion.specs.Values.{half_of, top_of}
use Rattle.assertion.proofs.Parts.{walked_on}
use Rattle.assertion.proofs.Totals.{count_all}
use Rattle.assorter.proofs.Lists.{all_from_map, all_joined}
use Rattle.betting.specs.Accounts.{Account, fresh_account}
use Rattle.betting.specs.Policies.{Chosen}
use Rattle.betting.specs.Shrinks.{begins_in_range, fresh}
use Rattle.opening.specs.Starts.{after_start, shrinking_or, start_answer, started_plan}
use Rattle.calls.specs.Openings.{AsPlanned, by_claim, plan_account}

-- what holds of each element holds of all
pub all_of : {X : Type 0} (P : X → Type 0) → ((x : X) → P x) → (xs : List X) → AllByRecursion P xs
all_of P each [] = tt
all_of P each (x ∷ xs) = (each x, all_of P each xs)

map_same : {X Y : Type 0} (f g : X → Y) (xs : List X) → AllByRecursion (λ x. f x ≡ g x) xs → map f xs ≡ map g xs
map_same f g [] h = refl
map_same f g (x ∷ xs) h = ap (λ y. y ∷ map f xs) h.0 ∙ ap (λ ys. g x ∷ ys) (map_same f g xs h.1)

-- ---- no first bet is above the wealth

abbrev Low : Plan → Type 0
Low plan = plan.bet ≤ 1000

range_low : (n : ℕ) → bet_range n ≤ 1000
range_low n = grind (arith, nat_tests)

pair_low : (winner loser : ℕ) → pair_bet winner loser ≤ 1000
pair_low winner loser = range_low (1000 * (winner - loser) / (winner + loser))

share_low : (p q winner all : ℕ) → share_bet p q winner all ≤ 1000
share_low p q winner all = range_low (1000 * (q * winner - p * all) / ((q - p) * all))

pairs_low : (k most : ℕ) (x : Contest) (cs : List Candidate) → AllByRecursion Low (pairs_of k most x cs)
pairs_low k most x cs =
    all_joined Low (pairs_under k most x cs) (winners x cs)
    (all_of (λ w. AllByRecursion Low (pairs_under k most x cs w))
    (λ w. All-map Low (pair_plan k most cs w) (losers x cs) (all_of (λ l. Low (pair_plan k most cs w l)) (λ l. pair_low (votes_of cs w) (votes_of cs l)) (losers x cs)))
    (winners x cs))

kind_low : (kind : Kind) (k : ℕ) (x : Contest) (cs : List Candidate) → AllByRecursion Low (planned_by kind k x cs)
kind_low Plurality k x cs = pairs_low k x.seats x cs
kind_low Approval k x cs = pairs_low k 32 x cs
kind_low (Supermajority p q) k x cs =
    All-map Low (share_plan k p q cs) (winners x cs) (all_of (λ w. Low (share_plan k p q cs w)) (λ w. share_low p q (votes_of cs w) (all_votes cs)) (winners x cs))

all_low : (k : ℕ) (xs : List Contest) (cs : List Candidate) → AllByRecursion Low (planned k xs cs)
unfolding planned
all_low k [] cs = tt
all_low k (x ∷ xs) cs =
    let own = take x.candidates cs in
    let rest = drop x.candidates cs in
    All-append Low (planned_of k x own) (planned (k + 1) xs rest) (kind_low x.kind k x own) (all_low (k + 1) xs rest)

-- ---- so a shrinking policy begins

begins : (bet w h t : ℕ) → bet ≤ 1000 → (1 ≤ w) × (w ≤ 1000) → (1 ≤ h) × (h < t) × (t ≤ 1000) → begins_in_range bet w h t ≡ true
begins bet w h t low weight spread = grind (arith, nat_tests)

spread_of : (a : Assertion) → (1 ≤ half_of a) × (half_of a < top_of a) × (top_of a ≤ 1000)
spread_of (Pair a) = (omega arith, omega arith, omega arith)
spread_of (Share a) = a.share

start_as_planned :
    (choice : PolicyChoice) → PolicyFits choice → (x : Planned) → x.first_bet ≤ 1000 →
    by_claim (started_plan choice x) ≡ plan_account choice (plan_of x)
start_as_planned Fixed fits x low = refl
start_as_planned (Shrinking w) fits x low =
    let a = x.assertion in
    let bet = x.first_bet in
    ap (λ b. fresh_account (claim_of a) (shrinking_or bet (cond b (Some (fresh bet w (half_of a) (top_of a))) None)))
    (begins bet w (half_of a) (top_of a) low fits (spread_of a))

-- ---- there is memory for all assertions

pub listed :
    (s : Setup) (xs : List Contest) (cs : List Candidate) → OpeningFacts s xs cs → (before : Held Planned) →
    256 ≤ length before.memory → list_answer xs cs before ≡ Ok tt
listed s xs cs f before room =
    let all = count_all 0 xs cs (walked_on xs cs (each_of s xs cs f)) in
    let places = length before.memory in
    ap (λ b. cond b (cond (leb (length (planned 0 xs cs)) places) (Ok tt) (Err NoRoom)) (Err NoSetup)) f.stand
    ∙ ap (λ b. cond b (Ok tt) (Err NoRoom))
    (le-leb (length (planned 0 xs cs)) places (omega (arith, all, f.assertions, f.assertions_fit)))

-- ---- the records that a start leaves

module _ (s : Setup) (xs : List Contest) (cs : List Candidate) (f : OpeningFacts s xs cs) (items : List Planned) (same : map plan_of items ≡ planned 0 xs cs) (count : length items ≡ sum_by assertion_count xs) where
  as_many : length items ≡ s.assertions
  as_many = count ∙ f.assertions

  abbrev policy : PolicyChoice
  policy = s.terms.policy

  each_starts : map (λ x. by_claim (started_plan policy x)) items ≡ map (λ x. plan_account policy (plan_of x)) items
  each_starts =
      map_same (λ x. by_claim (started_plan policy x)) (λ x. plan_account policy (plan_of x)) items
      (All-weaker (λ x. x.first_bet ≤ 1000) (λ x. by_claim (started_plan policy x) ≡ plan_account policy (plan_of x))
      (start_as_planned policy f.policy_fits) items
      (all_from_map Low plan_of items (subst (AllByRecursion Low) (sym same) (all_low 0 xs cs))))

  all_start : (old new : List (Account Assertion Chosen)) → new ≡ map (started_plan policy) items ++ drop (length items) old → AsPlanned s xs cs new
  all_start old new e =
      ap (λ ys. map by_claim (take s.assertions ys)) e
      ∙ ap (map by_claim)
      (take_at (map (started_plan policy) items) (drop (length items) old) s.assertions (length-map items (started_plan policy) ∙ as_many))
      ∙ map-map by_claim (started_plan policy) items ∙ each_starts ∙ sym (map-map (plan_account policy) plan_of items)
      ∙ ap (map (plan_account policy)) same

  pub start_planned :
      (too_few : Bool) (r : Result Unit Refusal) (old new : List (Account Assertion Chosen)) → r ≡ start_answer too_few →
      new ≡ after_start too_few (length items) (map (started_plan policy) items) old → OnOk r (AsPlanned s xs cs new)
  start_planned true r old new answer e = subst (λ o. OnOk o (AsPlanned s xs cs new)) (sym answer) tt
  start_planned false r old new answer e = subst (λ o. OnOk o (AsPlanned s xs cs new)) (sym answer) (all_start old new e)
