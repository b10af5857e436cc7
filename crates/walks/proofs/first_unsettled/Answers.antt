use Rattle.std.proofs.Common.{◌≡◌, ◌∙◌, ℕ, rules, map, take, not, Bool, true, false, IfSome, Some, None, if◌then◌else◌, sym, subst}
use borrow.Author.Tests.{tests}
use Rattle.std.proofs.lemmas.Iterator.{YieldsList-from_slice}
use Rattle.std.proofs.lemmas.Iterator.Search.{position_from_yields_List}
use Rattle.betting.specs.Accounts.{account}
use Rattle.betting.specs.Sums.{settled}
use Rattle.course.specs.Course.{all_settled}
use Rattle.walks.proofs.Settled.{first_is, front_settled}
use Rattle.walks.proofs.first_unsettled.Goals as goal

pub returns-clause-is : goal.returns-clause-is
returns-clause-is g c =
    position_from_yields_List (λ r. not (settled r.peak c.args.limit)) _ _ _ c.position.ensures.ran
    (YieldsList-from_slice c.args.records.now (cc)) (λ x b q k. search (rules, tests))
    ∙ first_is g.P.Policy.state c.args.limit c.args.records.now

either : {X : Type 0} (P : X → Type 0) (b : Bool) (x : X) → P x → IfSome (if b then None else Some x) P
either P true x p = tt
either P false x p = p

pub returns-clause-before : goal.returns-clause-before
returns-clause-before g c =
    let limit = c.args.limit in
    let xs = map (account {A = g.row.A.Denot} g.P.Policy.state) c.args.records.now in
    let P : ℕ → Type 0 = λ first. all_settled limit (take first xs) ≡ true in
    subst (λ o. IfSome o P) (sym (returns-clause-is g c)) (either P (all_settled limit xs) _ (front_settled limit xs))
