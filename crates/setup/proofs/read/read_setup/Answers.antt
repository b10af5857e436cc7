use Rattle.setup.proofs.Accepted.{reads_alike}
use Rattle.setup.proofs.read.read_setup.Goals as goal

pub returns-clause-setups : goal.returns-clause-setups
returns-clause-setups c = reads_alike _ _ _ c.read_emptied.ensures.value
