use Rattle.course.specs.Course.{rules_of}
use Rattle.course.proofs.Deciding.{counts_exist}
use Rattle.course.proofs.Rules.{Lawful, lawful_by}
use Rattle.course.proofs.Theorem.{limits_risk, measures_risk}
use Rattle.course.proofs.promises.bounds_stand.Given as given
use Rattle.course.proofs.promises.bounds_stand.Goals as goal

lawful : (g : given.Over) → Lawful (rules_of g.A.Assorter g.P.Policy)
lawful g =
    lawful_by g.A.Assorter g.P.Policy g.met.A.Assorter.bounds g.met.A.Assorter.capped g.met.A.Assorter.exact g.met.P.Policy.modest

pub returns : goal.returns
returns g c = record {
  measured = measures_risk (rules_of g.A.Assorter g.P.Policy) (lawful g);
  limited = limits_risk (rules_of g.A.Assorter g.P.Policy) (lawful g);
  counted = counts_exist (rules_of g.A.Assorter g.P.Policy) (lawful g);
}
