use Rattle.std.proofs.Common.{◌≡◌, ◌+◌, ◌≤◌, map, length, None, Ok, ap, arith, rules}
use Rattle.std.proofs.lemmas.Grind.{common_steps}
use Rattle.betting.specs.Accounts.{account}
use Rattle.course.specs.Course.{after_count, answered, rules_of, unless_refused}
use Rattle.course.specs.Course.Call.{hand_count}
use Rattle.calls.specs.declared.answers.Answer.TheVariants.{Taken}
use Rattle.calls.specs.Calls.{called, count_state, first_refusal, in_code, reading_of, terms_of}
use Rattle.calls.proofs.Moves.{count_moved}
use Rattle.calls.proofs.counting.HandCount.count.Goals as goal

pub returns-clause-course : goal.returns-clause-course
returns-clause-course g c =
    let h = c.args.self.now in
    let t = terms_of h.terms in
    let e = reading_of c.args.shown.now in
    let R = rules_of g.A.Assorter g.P.Policy in
    let m = account {A = g.row.A.Denot} g.P.Policy.state in
    let rs = c.args.records.now in
    let σ = count_state h (map m rs) in
    let lent : h.terms.needed ≤ length rs = grind (arith, common_steps) in
    let moved =
    count_moved R e _ (search rules) m h.terms.needed rs c.count_each.new.records lent c.count_each.auto.records
    c.count_each.ensures in
    let granted : first_refusal t (length rs) σ (hand_count e) ≡ None = grind (arith, common_steps) in
    let answer : in_code (called R t (length rs) σ (hand_count e))
    ≡ (record σ { accounts = map (after_count R e) σ.accounts; counted = σ.counted + 1 }, Ok Taken) =
    ap (λ o. in_code (unless_refused o σ (answered R t σ (hand_count e)))) granted in
    grind (arith, common_steps, moved, answer)
