use Rattle.std.proofs.Common.{map, get_or, option_copied, ◌∙◌, arith}
use lib.ListN.{length-map}
use Rattle.betting.specs.Accounts.{account}
use Rattle.course.specs.Course.{after_count, rules_of}
use Rattle.walks.specs.Walks.{as_found}
use Rattle.walks.proofs.Fronts.{front_more}
use Rattle.walks.proofs.Tests.{seen_worth}
use Rattle.walks.proofs.count_each.Goals as goal

pub loop-held-preserved : goal.loop-held-preserved
loop-held-preserved g c =
    let R = rules_of g.A.Assorter g.P.Policy in
    let m = account {A = g.row.A.Denot} g.P.Policy.state in
    let card = option_copied c.args.card in
    let r = get_or c.loop-held.held-items c.loop-held.held-index c.held-item.result in
    let worth = c.shown_value-value.ensures.is ∙ seen_worth R card r.assorter in
    front_more m (after_count R (as_found card)) c.loop-held.held-index c.loop-held.held-items (map m c.args.records.now)
    c.held-item.result c.add_to_tally.new.self (omega arith) (omega (arith, length-map c.args.records.now m))
    c.loop-held.invariant (grind (arith, worth, c.add_to_tally.ensures))
