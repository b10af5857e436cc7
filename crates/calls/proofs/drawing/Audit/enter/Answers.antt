use Rattle.std.proofs.Common.{◌≡◌, ◌+◌, ◌≤◌, map, length, None, Ok, ap, arith, rules}
use Rattle.std.proofs.lemmas.Grind.{common_steps}
use Rattle.std.proofs.lemmas.List.{take-map}
use Rattle.betting.specs.Accounts.{account}
use Rattle.course.specs.Course.{after_entry, answered, rules_of, unless_refused}
use Rattle.course.specs.Course.Call.{entry}
use Rattle.calls.specs.declared.answers.Answer.TheVariants.{Taken}
use Rattle.calls.specs.Calls.{audit_state, called, first_refusal, in_code, reading_of, terms_of}
use Rattle.calls.proofs.Moves.{entry_moved}
use Rattle.calls.proofs.drawing.Audit.enter.Goals as goal

pub returns-clause-course : goal.returns-clause-course
returns-clause-course g c =
    let a = c.args.self.now in
    let t = terms_of a.terms in
    let e = reading_of c.args.shown.now in
    let R = rules_of g.A.Assorter g.P.Policy in
    let m = account {A = g.row.A.Denot} g.P.Policy.state in
    let rs = c.args.records.now in
    let σ = audit_state a (map m rs) in
    let lent : a.terms.needed ≤ length rs = grind (arith, common_steps) in
    let settled = rw take-map at c.in_ok-first.ensures.before in
    let moved =
    entry_moved R e _ (search rules) m a.terms.needed rs c.enter_from.new.records lent c.enter_from.auto.records
    _ t.limit _ (omega arith) a.terms.ranges.0 settled c.enter_from.ensures.rules in
    let granted : first_refusal t (length rs) σ (entry e) ≡ None = grind (arith, c.in_ok-first.ensures.refuses) in
    let answer : in_code (called R t (length rs) σ (entry e))
    ≡ (record σ { accounts = map (after_entry R t.limit e) σ.accounts; drawn = σ.drawn + 1 }, Ok Taken) =
    ap (λ o. in_code (unless_refused o σ (answered R t σ (entry e)))) granted in
    grind (arith, common_steps, moved, answer)
