use Rattle.std.proofs.Common.{◌≡◌, ◌≤◌, map, option_copied}
use Rattle.betting.specs.Accounts.{account}
use Rattle.course.specs.Course.{after_entry, rules_of}
use Rattle.walks.specs.Walks.{as_found, entered}
use Rattle.walks.proofs.Fronts.{on_front}
use Rattle.walks.proofs.enter_each.Given as goal

abbrev pub invariant-loop-held : goal.invariant-loop-held
invariant-loop-held g l =
    let R = rules_of g.A.Assorter g.P.Policy in
    let m = account {A = g.row.A.Denot} g.P.Policy.state in
    let e = as_found (option_copied l.card) in
    let from = map m l.initial.held-items in
    record {
      moves : map m l.held-items ≡ on_front (entered R l.limit e) l.held-index from;
      rules : 10 ≤ l.limit → map m l.held-items ≡ on_front (after_entry R l.limit e) l.held-index from;
    }
