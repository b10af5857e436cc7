use Rattle.std.proofs.Common.{◌≡◌, ◌-◌, ◌++◌, length, replicate}
use Rattle.names.specs.Shown.{without_blanks}
use Rattle.names.proofs.without_blanks.Given as goal

abbrev pub invariant-loop-left : goal.invariant-loop-left
invariant-loop-left l = record {
  same : without_blanks l.left ≡ without_blanks l.bytes;
  blanks : l.bytes ≡ l.left ++ replicate (length l.bytes - length l.left) 32;
}

abbrev pub decreases-loop-left : goal.decreases-loop-left
decreases-loop-left l = length l.left
