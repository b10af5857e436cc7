use Rattle.std.proofs.Common.{◌<◌, map, take, arith, rules}
use Rattle.std.proofs.lemmas.List.{drop-map, length-take-le, map-append}
use Rattle.std.proofs.lemmas.Grind.{common_steps}
use Rattle.betting.specs.Accounts.{account}
use Rattle.opening.specs.Starts.{started}
use Rattle.opening.proofs.Fills.{at_started, made_read, started_long}
use Rattle.opening.proofs.starts.start_with.Goals as goal

pub returns-clause-accounts : goal.returns-clause-accounts
returns-clause-accounts g c =
    let state = g.P.Policy.state in
    let m = account {A = g.row.A.Denot} state in
    let xs = c.args.assorters.now in
    let ps = c.args.policies.now in
    let n = c.args.count in
    let short = length-take-le n (started xs (map state ps)) (started_long state xs ps n (omega arith) (omega arith)) in
    let long = length-take-le n c.args.records.now (omega arith) in
    let read = made_read _ m _ c.start_each.new.records (take n (started xs (map state ps)))
    c.start_each.ensures (omega (arith, short, long))
    (λ i r in-ys q. let in-n : i < n = omega (arith, in-ys, short) in search (rules, at_started, arith)) in
    grind (arith, common_steps, map-append, drop-map)
