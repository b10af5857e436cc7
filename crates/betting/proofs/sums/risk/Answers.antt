use Rattle.std.proofs.Common.{max, arith}
use Rattle.betting.proofs.Pencil.{risk_at, rounded}
use Rattle.betting.proofs.sums.risk.Goals as goal

pub returns-clause-is : goal.returns-clause-is
returns-clause-is c = let up = rounded 1000000000000 (max c.args.peak 1) (omega arith) in grind (arith, up)

pub returns-clause-pencil : goal.returns-clause-pencil
returns-clause-pencil c = risk_at c.args.peak _ (returns-clause-is c)
