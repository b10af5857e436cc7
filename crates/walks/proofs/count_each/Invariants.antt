use Rattle.std.proofs.Common.{◌≡◌, map, option_copied}
use Rattle.betting.specs.Accounts.{account}
use Rattle.course.specs.Course.{after_count, rules_of}
use Rattle.walks.specs.Walks.{as_found}
use Rattle.walks.proofs.Fronts.{on_front}
use Rattle.walks.proofs.count_each.Given as goal

abbrev pub invariant-loop-held : goal.invariant-loop-held
invariant-loop-held g l =
    let m = account {A = g.row.A.Denot} g.P.Policy.state in
    map m l.held-items
    ≡ on_front (after_count (rules_of g.A.Assorter g.P.Policy) (as_found (option_copied l.card))) l.held-index
    (map m l.initial.held-items)
