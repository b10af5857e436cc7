use Rattle.std.proofs.Common.{◌<◌, map, length, option_copied, arith}
use lib.ListN.{length-map}
use Rattle.betting.specs.Accounts.{account}
use Rattle.course.specs.Course.{after_entry, rules_of}
use Rattle.walks.specs.Walks.{as_found, entered}
use Rattle.walks.proofs.Fronts.{front_more}
use Rattle.walks.proofs.enter_each.Goals as goal

pub loop-held-preserved : goal.loop-held-preserved
loop-held-preserved g c =
    let R = rules_of g.A.Assorter g.P.Policy in
    let m = account g.P.Policy.state in
    let e = as_found (option_copied c.args.card) in
    let i = c.loop-held.held-index in
    let rs = c.loop-held.held-items in
    let xs = map m c.args.records.now in
    let in-xs : i < length xs = omega (arith, length-map c.args.records.now m) in
    record {
      moves =
          front_more m (entered R c.args.limit e) i rs xs c.held-item.result c.enter_one.new.held (omega arith) in-xs
          c.loop-held.invariant.moves c.enter_one.ensures.moves;
      rules = λ h.
          front_more m (after_entry R c.args.limit e) i rs xs c.held-item.result c.enter_one.new.held (omega arith) in-xs
          (c.loop-held.invariant.rules h) (c.enter_one.ensures.rules h);
    }
