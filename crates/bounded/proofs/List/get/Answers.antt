use Rattle.std.proofs.Common.{rules}
use Rattle.bounded.proofs.Places.{lent_item}
use Rattle.bounded.proofs.List.get.Goals as goal

pub returns : goal.returns
returns g c = search (rules, lent_item)
