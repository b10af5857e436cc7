use Rattle.std.proofs.Common.{◌≡◌, ℕ, map, length, sym, subst, rules}
use lib.ListN.{length-map}
use Rattle.betting.specs.Accounts.{account}
use Rattle.course.specs.Course.{parts, worst_risk}
use Rattle.verdict.specs.Contests.{padded}
use Rattle.calls.specs.declared.terms.Size.{Size}
use Rattle.calls.proofs.Parts.{parts_padded}
use Rattle.calls.proofs.terms.contests.contest_risks.Goals as goal

abbrev made : Size → ℕ
made x = x.assertions

pub returns : goal.returns
returns g c =
    let m = account {A = g.row.A.Denot} g.P.Policy.state in
    let rs = c.args.records.now in
    let ys = c.tell_each.new.places in
    subst (λ xs. ys ≡ padded 0 (map worst_risk (parts (map made xs) (map m rs)))) c.deref.ensures.0
    (parts_padded _ m worst_risk (λ part y k. search rules) (map made c.deref.result.now) rs ys (length c.deref.result.now) 0
    (sym (length-map c.deref.result.now made)) c.tell_each.ensures.parts c.tell_each.ensures.rest)
