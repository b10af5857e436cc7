-- The text of a whole audit.
use Rattle.std.specs.Prelude.{◌≡◌, ℕ, List, [], ◌++◌, Some, None, Ok, Err, Option, Result}
use Rattle.std.specs.List.{flat_map}
use Rattle.refusal.specs.declared.Fault.{Fault}
use Rattle.refusal.specs.Numbers.{fault_line}
use Rattle.ballot.specs.declared.Candidate.{Candidate}
use Rattle.ballot.specs.declared.Contest.{Contest}
use Rattle.setup.specs.declared.setup.Setup.{Setup}
use Rattle.setup.specs.Accepted.{ReadsSetups}
use Rattle.setup.specs.Steps.{HeldLists, Outcome}
use Rattle.assertion.specs.declared.assertions.Assertion.{Assertion}
use Rattle.betting.specs.Accounts.{Account}
use Rattle.betting.specs.Policies.{Chosen}
use Rattle.course.specs.Course.{State}
use Rattle.course.specs.Openings.{own_rules}
use Rattle.calls.specs.declared.answers.Answer.{Answer}
use Rattle.calls.specs.declared.answers.Answer.TheVariants.{Taken, Finding, Upheld}
use Rattle.calls.specs.declared.answers.Standing.{Standing}
use Rattle.calls.specs.declared.drawing.Audit.{Audit}
use Rattle.calls.specs.Calls.{audit_state, terms_of}
use Rattle.calls.specs.Openings.{Begun, OwnAssertions}
use Rattle.replay.specs.Replays.{Replays}
use Rattle.report.specs.Lines.{closing_lines, line, verdict_lines}
use Rattle.intake.specs.declared.memory.Memory.{Memory}
use Rattle.intake.specs.Memories.{Blank, empty_lists}

-- ---- the lines

-- The lines of an answer: what is only taken has none.
abbrev pub answer_lines : Answer → List ℕ
answer_lines Taken = []
answer_lines (Finding v) = verdict_lines v
answer_lines (Upheld c) = closing_lines c

abbrev pub fault_lines : Option Fault → List ℕ
fault_lines None = []
fault_lines (Some f) = line (fault_line f)

-- The lines of the answers, in their order, and behind them that of the fault.
abbrev pub transcript : List Answer → Option Fault → List ℕ
transcript answers fault = flat_map answer_lines answers ++ fault_lines fault

-- ---- two files

-- The text is how an audit of the setup, just opened with the assertions of its contests, answers the draws file; and with it
-- stands what is promised of every audit that is opened so.
pub record TextOf (s : Setup) (xs : List Contest) (cs : List Candidate) (draws text : List ℕ) : Type 0 where
  pub audit : Audit
  pub accounts : List (Account Assertion Chosen)
  pub begun : Begun own_rules s xs accounts audit
  pub own : OwnAssertions s xs cs accounts audit
  pub answers : List Answer
  pub fault : Option Fault
  pub standing : Standing
  pub after : State Assertion Chosen
  pub replays : Replays own_rules (terms_of audit.terms) (audit_state audit accounts) draws answers fault standing after
  pub text_is : text ≡ transcript answers fault

-- A refused setup has the line of its fault alone, and its draws file is not followed.
abbrev pub TextIfRead : HeldLists → List ℕ → List ℕ → Result Setup Fault → Type 0
TextIfRead ls draws text (Ok s) = TextOf s ls.contests.items ls.candidates.items draws text
TextIfRead ls draws text (Err f) = text ≡ fault_lines (Some f)

abbrev pub TextByOutcome : Outcome → List ℕ → List ℕ → Type 0
TextByOutcome o draws text = TextIfRead o.lists draws text o.answer

-- The text for a setup file and a draws file. The setup is read, as the rules have it, into memory for whatever the limits
-- allow.
pub record Tells (setup draws text : List ℕ) : Type 0 where
  pub memory : Memory
  pub blank : Blank memory
  pub outcome : Outcome
  pub read : ReadsSetups (empty_lists memory) setup outcome
  pub text_is : TextByOutcome outcome draws text
