use Rattle.std.proofs.Common.{◌≡◌, length, map, None, Ok, ap, arith}
use lib.ListN.{length-map}
use Rattle.std.proofs.lemmas.Bool.Decides.{nat_tests}
use Rattle.std.proofs.lemmas.Grind.{common_steps}
use Rattle.std.proofs.lemmas.List.{take-map}
use Rattle.betting.specs.Accounts.{account}
use Rattle.course.specs.Course.{all_above, answered, parts, rules_of, unless_refused}
use Rattle.course.specs.Course.Call.{closing}
use Rattle.verdict.specs.Contests.{closing_on}
use Rattle.calls.specs.declared.answers.Answer.TheVariants.{Upheld}
use Rattle.calls.specs.Calls.{called, count_state, first_refusal, in_code, terms_of}
use Rattle.calls.proofs.Parts.{length_told}
use Rattle.calls.proofs.counting.HandCount.close.Goals as goal

pub returns : goal.returns
returns g c =
    let h = c.args.self.now in
    let t = terms_of h.terms in
    let R = rules_of g.A.Assorter g.P.Policy in
    let m = account {A = g.row.A.Denot} g.P.Policy.state in
    let rs = c.args.records.now in
    let σ = count_state h (map m rs) in
    let us = map (all_above R t.cards) (parts t.assertions σ.accounts) in
    let granted : first_refusal t (length rs) σ closing ≡ None = grind (arith, common_steps, nat_tests) in
    let answer : in_code (called R t (length rs) σ closing) ≡ (σ, Ok (Upheld (closing_on us))) =
    ap (λ o. in_code (unless_refused o σ (answered R t σ closing))) granted in
    let count = length_told (all_above R t.cards) t.assertions σ.accounts in
    grind (arith, common_steps, take-map, length-map, answer, count)
