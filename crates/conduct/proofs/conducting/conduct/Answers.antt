use Rattle.course.specs.Course.{rules_of}
use Rattle.course.proofs.BoundsAndLaws.{promised}
use Rattle.course.proofs.Rules.{Lawful, lawful_by}
use Rattle.conduct.proofs.conducting.conduct.Given as given
use Rattle.conduct.proofs.conducting.conduct.Goals as goal

lawful : (g : given.Over) → Lawful (rules_of g.A.Assorter g.P.Policy)
lawful g =
    lawful_by g.A.Assorter g.P.Policy g.met.A.Assorter.bounds g.met.A.Assorter.capped g.met.A.Assorter.exact g.met.P.Policy.modest

pub returns-then-records-records_needed-clause-promise : goal.returns-then-records-records_needed-clause-promise
returns-then-records-records_needed-clause-promise g c = promised _ (lawful g) _ _

pub returns-clause-promise : goal.returns-clause-promise
returns-clause-promise g c = promised _ (lawful g) _ _
