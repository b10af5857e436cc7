use Rattle.std.proofs.Common.{◌≡◌}
use Rattle.bounded.specs.Lists.{held}
use Rattle.setup.specs.Steps.{HeldLists, held_lists}
use Rattle.acceptance.specs.TwoThirds.{memory}
use Rattle.acceptance.proofs.TwoThirds.{read_back}
use Rattle.acceptance.proofs.worked.read.Goals as goal

pub returns : goal.returns
returns c =
    let e : ◌≡◌ {A = HeldLists} (record { batches = held c.over.result; contests = held c.over-2.result; candidates = held c.over-3.result }) memory =
    cc (c.over.ensures.holds, c.over-2.ensures.holds, c.over-3.ensures.holds) in
    read_back c.args.first c.args.second _ c.read_setup.result (held_lists c.read_setup.new.lists) e c.read_setup.ensures.value
