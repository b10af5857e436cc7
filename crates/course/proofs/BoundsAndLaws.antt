-- The bounds and the laws together.
use Rattle.course.specs.Terms.{Terms}
use Rattle.course.specs.Course.{Rules, State}
use Rattle.course.proofs.Rules.{Lawful}
use Rattle.course.specs.Promise.{Promised}
use Rattle.course.proofs.Closings.{counts_decide}
use Rattle.course.proofs.Deciding.{counts_exist}
use Rattle.course.proofs.Runs.{confirms_by_risk, counts_draws, settled_stays}
use Rattle.course.proofs.Theorem.{limits_risk, measures_risk, never_upholds_wrongly}

pub promised : {A S : Type 0} (R : Rules A S) → Lawful R → (t : Terms) (σ : State A S) → Promised R t σ
promised R lawful t σ = record {
  risk_measured = measures_risk R lawful t σ;
  risk_limited = limits_risk R lawful t σ;
  counts_exist = counts_exist R lawful t σ;
  confirms_by_risk = confirms_by_risk R;
  counts_draws = counts_draws R;
  settled_stays = settled_stays R;
  counts_decide = counts_decide R lawful;
  never_upholds_wrongly = never_upholds_wrongly R lawful;
}
