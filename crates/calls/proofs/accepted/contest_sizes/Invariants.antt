use Rattle.std.proofs.Common.{◌≡◌, map, take}
use Rattle.calls.specs.Openings.{size_of}
use Rattle.calls.proofs.accepted.contest_sizes.Given as goal

abbrev pub invariant-loop-contest : goal.invariant-loop-contest
invariant-loop-contest l = l.sizes.items ≡ map size_of (take l.contest-index l.contests)
