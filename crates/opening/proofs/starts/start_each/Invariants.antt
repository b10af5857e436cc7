use Rattle.std.proofs.Common.{take}
use Rattle.std.specs.List.{AllZip, range_with_len}
use Rattle.opening.proofs.starts.start_each.Given as goal

abbrev pub invariant-loop-i : goal.invariant-loop-i
invariant-loop-i g l = AllZip (goal.F-post g l.start) (range_with_len 0 l.i) (take l.i l.records)
