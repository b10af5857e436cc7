use Rattle.std.proofs.Common.{map, arith}
use Rattle.betting.specs.Accounts.{account}
use Rattle.course.specs.Course.{rules_of}
use Rattle.calls.proofs.Openings.{begun_by, fresh_start}
use Rattle.calls.proofs.opens.open_with.Goals as goal

pub returns-clause-begun : goal.returns-clause-begun
returns-clause-begun g c =
    let s = c.args.setup in
    let state = g.P.Policy.state in
    let m = account {A = g.row.A.Denot} state in
    let rs = c.args.records.now in
    let new = map m c.start_with.new.records in
    let told = c.in_default.ensures in
    begun_by (rules_of g.A.Assorter g.P.Policy) s c.args.contests.now new c.begin.result c.begin.ensures.terms
    c.begin.ensures.promise
    (fresh_start state c.args.assorters.now c.args.policies.now _ s.assertions rs (map m rs) new _ (omega arith) told.answer told.accounts)
