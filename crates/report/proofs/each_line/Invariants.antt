use Rattle.std.proofs.Common.{◌≡◌, ℕ, ◌*◌, ◌≤◌, List, take}
use Rattle.arrayvec.specs.ArrayString.{array_string_len}
use Rattle.report.specs.Lines.{numbered, WritesLine}
use Rattle.report.proofs.each_line.Given as goal

abbrev pub invariant-loop-i : goal.invariant-loop-i
invariant-loop-i g l = record {
  so_far : (item : ℕ → _ → List ℕ) → WritesLine (goal.F-post g l.line) item → l.text.bytes ≡ numbered item 1 (take l.i l.items);
  room : array_string_len l.text ≤ 23 * l.i;
}
