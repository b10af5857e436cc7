use Rattle.std.proofs.Common.{◌≡◌, ℕ, false, map, length, sym, subst, rules}
use lib.ListN.{length-map}
use Rattle.betting.specs.Accounts.{account}
use Rattle.course.specs.Course.{all_above, parts, rules_of}
use Rattle.verdict.specs.Contests.{padded}
use Rattle.calls.specs.declared.terms.Size.{Size}
use Rattle.calls.proofs.Parts.{parts_padded}
use Rattle.calls.proofs.terms.contests.contests_above.Goals as goal

abbrev made : Size → ℕ
made x = x.assertions

pub returns : goal.returns
returns g c =
    let m = account {A = g.row.A.Denot} g.P.Policy.state in
    let rs = c.args.records.now in
    let ys = c.tell_each.new.places in
    let f = all_above (rules_of g.A.Assorter g.P.Policy) c.args.terms.now.cards in
    subst (λ xs. ys ≡ padded false (map f (parts (map made xs) (map m rs)))) c.deref.ensures.0
    (parts_padded _ m f (λ part y k. search rules) (map made c.deref.result.now) rs ys (length c.deref.result.now) false
    (sym (length-map c.deref.result.now made)) c.tell_each.ensures.parts c.tell_each.ensures.rest)
