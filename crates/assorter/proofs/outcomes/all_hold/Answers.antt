use Rattle.std.proofs.Common.{ℕ, ◌<◌, Bool, true, false, List, [], ◌∷◌, map, length, MatchBool, Decides, refl, arith, rules}
use borrow.Author.Tests.{tests}
use Rattle.std.specs.List.{AllByRecursion, AllWithin, HoldsAt}
use Rattle.std.proofs.ByRecursion.{All-get_or, All-map, all_from_every}
use Rattle.std.proofs.lemmas.Bool.{false≢true}
use Rattle.std.proofs.lemmas.Iterator.{YieldsList-from_slice, cases_from_all}
use Rattle.ballot.proofs.Marks.{votes_add_up}
use Rattle.assertion.specs.declared.assertions.Planned.{Planned}
use Rattle.assertion.specs.Assertions.{Plan, plan_of}
use Rattle.assorter.specs.Outcomes.{AllHold}
use Rattle.assorter.specs.Values.{Holds}
use Rattle.assorter.proofs.Lists.{all_from_map}
use Rattle.assorter.proofs.Means.{claims_tell_contest, claims_tell_contests, tells_contest, tells_contests}
use Rattle.assorter.proofs.outcomes.all_hold.Goals as goal

-- P holds of every element, or fails at some place.
decided :
    (P : Planned → Type 0) (r : Bool) (xs : List Planned) →
    MatchBool r (AllWithin P xs 0 (length xs)) ((k : ℕ) × (k < length xs) × HoldsAt (λ x. P x → ⊥) xs k) →
    Decides r (AllByRecursion P xs)
decided P true xs m = (λ e. all_from_every P xs m, λ h. refl)
decided P false [] m = absurd (omega (arith, m.1))
decided P false (x ∷ xs) m = (λ e. absurd (false≢true e), λ h. absurd (m.2 x (All-get_or P (x ∷ xs) m.0 x m.1 h)))

pub returns : goal.returns
returns c =
    let assertions = c.args.assertions.now in
    let cards = c.args.cards.now in
    let r = c.all.result in
    let P : Plan → Type 0 = λ plan. Holds plan.claim cards in
    let Q : Planned → Type 0 = λ x. P (plan_of x) in
    let each =
    decided Q r assertions
    (cases_from_all _ _ r Q (λ x. Q x → ⊥) c.all.ensures.ran (YieldsList-from_slice assertions cc) (λ x q k. search (rules, tests)) (λ x q k h. search (rules, tests, false≢true))) in
    let d : Decides r (AllHold (map plan_of assertions) cards) =
    (λ t. All-map P plan_of assertions (each.0 t), λ h. each.1 (all_from_map P plan_of assertions h)) in
    record {
      decides = d;
      contest = tells_contest r assertions cards d;
      contests = tells_contests r assertions cards d;
      means = (claims_tell_contest, claims_tell_contests);
      totals = votes_add_up;
    }
