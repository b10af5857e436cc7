use Rattle.std.proofs.Common.{unwrap_or, sym, ap, ◌∙◌, arith, rules}
use Rattle.std.proofs.lemmas.Iterator.{YieldsList-from_map, YieldsList-from_slice}
use Rattle.std.proofs.lemmas.Iterator.Consumers.{max_from_yields_List}
use Rattle.std.proofs.lemmas.Iterator.Adapters.{option_map_id}
use Rattle.betting.specs.Sums.{risk_of}
use Rattle.walks.proofs.Risks.{worst_low, worst_of_all}
use Rattle.walks.proofs.worst_risk.Goals as goal

pub returns-clause-is : goal.returns-clause-is
returns-clause-is g c =
    let rs = c.args.records.now in
    c.unwrap_or.ensures
    ∙ ap (λ o. unwrap_or o 0) (
    sym (option_map_id c.max.result)
    ∙ max_from_yields_List _ _ c.max.ensures.ran
    (YieldsList-from_map _ (λ r. risk_of r.peak) (YieldsList-from_slice rs (cc)) c.map.ensures.closure
    (λ x r q k. search rules))
    )
    ∙ worst_of_all g.P.Policy.state rs

pub returns-clause-low : goal.returns-clause-low
returns-clause-low g c = omega (arith, returns-clause-is g c, worst_low {A = g.row.A.Denot} g.P.Policy.state c.args.records.now)
