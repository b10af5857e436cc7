use Rattle.course.specs.Course.{rules_of}
use Rattle.course.proofs.BoundsAndLaws.{promised}
use Rattle.course.proofs.Rules.{lawful_by}
use Rattle.calls.proofs.accepted.Accepted.begin.Goals as goal

pub returns-clause-promise : goal.returns-clause-promise
returns-clause-promise g c = λ accounts.
    promised (rules_of g.A.Assorter g.P.Policy)
    (lawful_by g.A.Assorter g.P.Policy g.met.A.Assorter.bounds g.met.A.Assorter.capped g.met.A.Assorter.exact
    g.met.P.Policy.modest)
    _ _
