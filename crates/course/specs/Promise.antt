-- What is promised of an audit, whatever its assorters and policies.
use Rattle.course.specs.Terms.{Terms}
use Rattle.course.specs.Course.{Rules, State}
use Rattle.course.specs.Scripts.{CastCards}
use Rattle.course.specs.Bounds.{HasCounts, Opened, RiskLimited, RiskMeasured}
use Rattle.course.specs.Laws.{ConfirmsByRisk, CountsDecide, CountsDraws, NeverUpholdsWrongly, SettledStays}

-- Both bounds hold of an audit just opened, and their events have their counts; the laws hold over every run of every
-- audit by these rules.
pub record Promised {A S : Type 0} (R : Rules A S) (t : Terms) (σ : State A S) : Type 0 where
  pub risk_measured : Opened σ → RiskMeasured R t σ
  pub risk_limited : Opened σ → RiskLimited R t σ
  pub counts_exist : (b : CastCards) → HasCounts R t σ b
  pub confirms_by_risk : ConfirmsByRisk R
  pub counts_draws : CountsDraws R
  pub settled_stays : SettledStays R
  pub counts_decide : CountsDecide R
  pub never_upholds_wrongly : NeverUpholdsWrongly R
