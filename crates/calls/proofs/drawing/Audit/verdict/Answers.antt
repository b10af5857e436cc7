use Rattle.std.proofs.Common.{◌≡◌, length, map, None, Ok, sum, sym, ap, ◌∙◌, arith}
use lib.ListN.{length-map}
use Rattle.std.proofs.lemmas.Bool.Decides.{nat_tests}
use Rattle.std.proofs.lemmas.Grind.{common_steps}
use Rattle.std.proofs.lemmas.List.{length-take, take-map}
use Rattle.betting.specs.Accounts.{account}
use Rattle.course.specs.Course.{answered, found_by, risks, rules_of, unless_refused, worst_risk}
use Rattle.course.specs.Course.Call.{verdict}
use Rattle.verdict.specs.Contests.{verdict_on}
use Rattle.calls.specs.declared.answers.Answer.TheVariants.{Finding}
use Rattle.calls.specs.Calls.{audit_state, called, first_refusal, in_code, terms_of}
use Rattle.calls.proofs.Parts.{length_told}
use Rattle.calls.proofs.Verdicts.{confirms, counts_entries, draws_within}
use Rattle.calls.proofs.drawing.Audit.verdict.Goals as goal

pub returns-clause-course : goal.returns-clause-course
returns-clause-course g c =
    let a = c.args.self.now in
    let t = terms_of a.terms in
    let R = rules_of g.A.Assorter g.P.Policy in
    let m = account {A = g.row.A.Denot} g.P.Policy.state in
    let rs = c.args.records.now in
    let σ = audit_state a (map m rs) in
    let granted : first_refusal t (length rs) σ verdict ≡ None = grind (arith, common_steps, nat_tests) in
    let answer : in_code (called R t (length rs) σ verdict) ≡ (σ, Ok (Finding (verdict_on (found_by t σ) σ.drawn (risks t σ)))) =
    ap (λ o. in_code (unless_refused o σ (answered R t σ verdict))) granted in
    let count = length_told (worst_risk {A = g.row.A.Denot} {S = g.P.Policy.State}) t.assertions σ.accounts in
    grind (arith, common_steps, take-map, length-map, answer, count)

pub returns-clause-confirms : goal.returns-clause-confirms
returns-clause-confirms g c =
    let a = c.args.self.now in
    let t = terms_of a.terms in
    let R = rules_of g.A.Assorter g.P.Policy in
    let m = account {A = g.row.A.Denot} g.P.Policy.state in
    let rs = c.args.records.now in
    let σ = audit_state a (map m rs) in
    let there : sum t.assertions ≡ length σ.accounts =
    sym a.terms.total ∙ omega (arith, length-take a.terms.needed (map m rs), length-map rs m, c.in_ok-own.ensures.0) in
    confirms R t σ (length rs) σ _ (returns-clause-course g c) there (omega (arith, a.terms.ranges.1))

pub returns-clause-bounded : goal.returns-clause-bounded
returns-clause-bounded g c =
    let a = c.args.self.now in
    let σ = audit_state a (map (account {A = g.row.A.Denot} g.P.Policy.state) c.args.records.now) in
    draws_within (rules_of g.A.Assorter g.P.Policy) (terms_of a.terms) σ (length c.args.records.now) σ _
    (returns-clause-course g c) a.terms.draw_limit a.spent

pub returns-clause-draws : goal.returns-clause-draws
returns-clause-draws g c =
    let a = c.args.self.now in
    let σ = audit_state a (map (account {A = g.row.A.Denot} g.P.Policy.state) c.args.records.now) in
    counts_entries (rules_of g.A.Assorter g.P.Policy) (terms_of a.terms) σ (length c.args.records.now) σ _ (returns-clause-course g c)
