-- What the printed lines of an answer tell.
use Rattle.std.specs.Prelude.{◌≡◌, ◌^◌, ◌<◌, All}
use Rattle.verdict.specs.Contests.{contest_risks, contests_upheld}
use Rattle.verdict.specs.declared.Verdict.{Verdict}
use Rattle.verdict.specs.declared.Closing.{Closing}
use Rattle.report.specs.Lines.{verdict_lines, closing_lines}

-- Its numbers have 16 bits, as the program's have.
abbrev pub HasNumbersOf16Bits : Verdict → Type 0
HasNumbersOf16Bits v = (v.draws < 2 ^ 16) × All (λ risk. risk < 2 ^ 16) (contest_risks v)

-- Verdicts that print the same lines are on as many contests, and have the same risk of each, draws and finding.
abbrev pub VerdictLinesTell : Verdict → Type 0
VerdictLinesTell v =
    (w : Verdict) → HasNumbersOf16Bits v → HasNumbersOf16Bits w → verdict_lines v ≡ verdict_lines w
    → (contest_risks v ≡ contest_risks w) × (v.draws ≡ w.draws) × (v.finding ≡ w.finding)

-- Closings that print the same lines are on as many contests, and uphold the same of them.
abbrev pub ClosingLinesTell : Closing → Type 0
ClosingLinesTell c = (d : Closing) → closing_lines c ≡ closing_lines d → contests_upheld c ≡ contests_upheld d
