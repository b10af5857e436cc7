-- What the functions for C answer and leave.
use Rattle.std.specs.Prelude.{◌≡◌, ℕ, ◌^◌, ◌-◌, ◌⊎◌, List, length, Ok, Err, Result}
use Rattle.refusal.specs.declared.Fault.{Fault}
use Rattle.refusal.specs.Numbers.{number}
use Rattle.setup.specs.declared.setup.Setup.{Setup}
use Rattle.setup.specs.Accepted.{ReadsSetups}
use Rattle.setup.specs.Steps.{Outcome}
use Rattle.report.specs.Lines.{reported}
use Rattle.intake.specs.declared.memory.Memory.{Memory}
use Rattle.intake.specs.Memories.{Blank, empty_lists}
use Rattle.transcript.specs.Transcripts.{Tells}

-- The answer is how many bytes the report has, and it is at the front of its memory if it fits there. Where memory ran
-- out the answer is the largest number of 64 bits, and nothing is written.
abbrev pub Reports : List ℕ → List ℕ → List ℕ → ℕ → List ℕ → Type 0
Reports setup draws before answer after =
    ((text : List ℕ) × Tells setup draws text × (answer ≡ length text) × (after ≡ reported text before))
    ⊎ ((answer ≡ 2 ^ 64 - 1) × (after ≡ before))

-- An accepted setup answers 0 and leaves the offset as it was; a refused one answers the number of its fault, and
-- leaves its offset.
abbrev pub setup_judged : ℕ → Result Setup Fault → ℕ × ℕ
setup_judged before (Ok s) = (0, before)
setup_judged before (Err f) = (number f.refusal, f.offset)

-- So by what the rules have for the setup, read into memory for whatever the limits allow.
abbrev pub JudgesSetup : List ℕ → ℕ → ℕ → ℕ → Type 0
JudgesSetup setup before answer after =
    (m : Memory) × Blank m × (o : Outcome) × ReadsSetups (empty_lists m) setup o
    × ((answer, after) ≡ setup_judged before o.answer)
