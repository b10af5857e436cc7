use Rattle.course.specs.Course.{rules_of}
use Rattle.course.proofs.Rules.{Lawful, lawful_by}
use Rattle.course.proofs.Closings.{counts_decide}
use Rattle.course.proofs.Runs.{confirms_by_risk, counts_draws, settled_stays}
use Rattle.course.proofs.Theorem.{never_upholds_wrongly}
use Rattle.course.proofs.promises.laws_stand.Given as given
use Rattle.course.proofs.promises.laws_stand.Goals as goal

lawful : (g : given.Over) → Lawful (rules_of g.A.Assorter g.P.Policy)
lawful g =
    lawful_by g.A.Assorter g.P.Policy g.met.A.Assorter.bounds g.met.A.Assorter.capped g.met.A.Assorter.exact g.met.P.Policy.modest

pub returns : goal.returns
returns g c = record {
  confirms = confirms_by_risk (rules_of g.A.Assorter g.P.Policy);
  draws = counts_draws (rules_of g.A.Assorter g.P.Policy);
  settles = settled_stays (rules_of g.A.Assorter g.P.Policy);
  upholds = never_upholds_wrongly (rules_of g.A.Assorter g.P.Policy) (lawful g);
  decides = counts_decide (rules_of g.A.Assorter g.P.Policy) (lawful g);
}
