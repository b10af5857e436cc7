use Rattle.std.proofs.Common.{◌≡◌, map, length, sum, sym, ap, ◌∙◌, arith, rules}
use lib.ListN.{length-map}
use Rattle.std.proofs.lemmas.List.{drop-set-lt, get_or-map}
use Rattle.betting.specs.Accounts.{account}
use Rattle.course.specs.Course.{rules_of, step}
use Rattle.calls.specs.Calls.{in_code, terms_of}
use Rattle.conduct.proofs.Conducts.{as_step, so_far_more}
use Rattle.conduct.proofs.conducting.answer_all.Goals as goal

pub loop-i-preserved : goal.loop-i-preserved
loop-i-preserved g c =
    let R = rules_of g.A.Assorter g.P.Policy in
    let m = account {A = g.row.A.Denot} g.P.Policy.state in
    let S = g.S.Stage in
    let t = S.terms c.args.stage.now in
    let calls = c.args.calls.now in
    let call = c.index-calls-i.result in
    let σ = S.state _ _ c.loop-i.stage (map m c.loop-i.records) in
    let σ' = S.state _ _ c.answer.new.self (map m c.answer.new.records) in
    let total : t.needed ≡ sum (terms_of t).assertions = search rules in
    let new = as_step R (S.terms c.loop-i.stage) t t.needed (length c.loop-i.records) σ (S.asked call) (σ', c.answer.result)
    c.loop-i.invariant.terms total (omega (arith, c.loop-i.auto.records, c.requires.records)) c.answer.ensures.course in
    let asked = ap S.asked c.index-calls-i.is ∙ sym (get_or-map S.asked calls c.loop-i.i call (S.asked call) c.loop-i-test.true) in
    record {
      so_far =
          so_far_more R (terms_of t) (S.state _ _ c.args.stage.now (map m c.args.records.now)) (map S.asked calls) c.loop-i.i σ σ' c.loop-i.answers
          (S.asked call) c.answer.result (omega (arith, length-map calls S.asked)) (omega (arith, c.loop-i.auto.answers, c.requires.places))
          c.loop-i.invariant.so_far (new ∙ ap (λ x. in_code (step R (terms_of t) σ x)) asked);
      terms = search rules;
      beyond = search rules;
      places = search (rules, drop-set-lt);
    }
