use Rattle.std.proofs.Common.{◌≡◌, map, length, drop}
use Rattle.std.specs.Fn.{FnReturnsAt}
use Rattle.calls.proofs.Parts.{Told}
use Rattle.calls.proofs.terms.contests.tell_each.Given as goal

abbrev pub invariant-loop-i : goal.invariant-loop-i
invariant-loop-i g l = record {
  told : Told (FnReturnsAt g.F.Fn l.tell) (map (λ x. x.assertions) l.sizes) l.records l.i l.rest l.places;
  others : drop (length l.sizes) l.places ≡ drop (length l.sizes) l.initial.places;
}
