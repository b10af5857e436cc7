use Rattle.std.proofs.Common.{◌-◌, ◌*◌, ◌/◌, ◌≤◌, min, ap, ◌∙◌, arith}
use Rattle.std.proofs.lemmas.Int.{ints}
use Rattle.betting.specs.declared.shrinking.Shrinking.{Shrinking}
use Rattle.betting.specs.Policies.{shrinks}
use Rattle.betting.specs.Shrinks.{divisor}
use Rattle.betting.proofs.Quotients.{base_le, dividend_or_0}
use Rattle.betting.proofs.policies.ShrinkingPolicy.bet.Goals as goal

small : (s : Shrinking) → s.weight * s.first * (s.top - s.half) ≤ 1000000000
small s = base_le s.weight s.first (s.top - s.half) (omega arith) (omega arith) (omega arith)

pub overflow_add-dividend : goal.overflow_add-dividend
overflow_add-dividend c = omega (arith, ints, small c.args.self.now)

pub returns : goal.returns
returns c =
    let s = c.args.self.now in
    c.min.ensures
    ∙ ap (λ n. min (n / divisor (shrinks s)) 950) (
    c.unwrap_or.ensures
    ∙ dividend_or_0 (s.weight * s.first * (s.top - s.half)) s.counted s.excess _ (small s) s.bounds.0 s.bounds.1
    s.bounds.2 c.try_from.ensures
    )
