use Rattle.std.proofs.Common.{◌∙◌}
use Rattle.acceptance.proofs.TwoThirds.{shown}
use Rattle.acceptance.proofs.worked.worked_two_thirds.Goals as goal

pub returns : goal.returns
returns c =
    record { refused = c.read.ensures ∙ shown.refused_at_60; accepted = c.read-2.ensures ∙ shown.accepted_at_61; shown = shown }
