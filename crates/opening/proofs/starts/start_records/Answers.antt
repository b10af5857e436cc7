use Rattle.std.proofs.Common.{map, length, ◌<◌, arith, rules}
use lib.ListN.{length-map}
use Rattle.std.proofs.lemmas.List.{drop-map, length-take-le, map-append}
use Rattle.std.proofs.lemmas.Grind.{common_steps}
use Rattle.betting.specs.Accounts.{account}
use Rattle.betting.specs.Policies.{chosen_state}
use Rattle.opening.specs.Starts.{started_plan}
use Rattle.opening.proofs.Fills.{at_mapped, made_read}
use Rattle.opening.proofs.starts.start_records.Goals as goal

pub returns-clause-accounts : goal.returns-clause-accounts
returns-clause-accounts c =
    let xs = c.args.planned.now in
    let n = length xs in
    let f = started_plan c.args.policy in
    let long = length-take-le n c.args.records.now (omega arith) in
    let read = made_read _ (account chosen_state) _ c.start_each.new.records (map f xs)
    c.start_each.ensures (omega (arith, long, length-map xs f))
    (λ i r in-ys q. let in-xs : i < n = omega (arith, in-ys, length-map xs f) in search (rules, at_mapped, arith)) in
    grind (arith, common_steps, map-append, drop-map)
