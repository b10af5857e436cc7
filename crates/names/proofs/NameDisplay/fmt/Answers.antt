use Rattle.std.proofs.Common.{rules}
use Rattle.std.proofs.Output.{has_written_append, has_written_of_eq}
use Rattle.names.proofs.Signs.{one_sign_more}
use Rattle.names.proofs.NameDisplay.fmt.Goals as goal

pub loop-b-preserved : goal.loop-b-preserved
loop-b-preserved g c = λ plain.
    has_written_of_eq _ _ _ _ _ (one_sign_more c.without_blanks-b-items.result.now c.loop-b.b-index c.loop-b-test.true)
    (has_written_append _ _ _ _ _ _ (c.loop-b.invariant plain) (search rules))
