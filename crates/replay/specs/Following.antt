-- One command of a draws file, in the words of an audit's course.
use Rattle.std.specs.Prelude.{◌≡◌, ℕ, ◌-◌, List, length, Some, None, Ok, Err, Option, Result}
use Rattle.refusal.specs.declared.File.TheVariants.{Draws}
use Rattle.refusal.specs.declared.Refusal.{Refusal}
use Rattle.format.specs.declared.command.Phase.{Phase}
use Rattle.format.specs.declared.command.Phase.TheVariants as at
use Rattle.course.specs.Terms.{Terms}
use Rattle.course.specs.Course.{Rules, State, Call, step}
use Rattle.calls.specs.declared.answers.Answer.{Answer}
use Rattle.calls.specs.declared.answers.Standing.{Standing}
use Rattle.calls.specs.declared.answers.Standing.TheVariants.{Drawing, Counting}
use Rattle.calls.specs.declared.answers.DrawCall.{DrawCall}
use Rattle.calls.specs.Calls.{draw_call, in_code}
use Rattle.replay.specs.declared.draws.Replayed.{Replayed}
use Rattle.replay.specs.Replays.{StandsAt}

-- A call was asked, and this is what it leaves and answers.
abbrev pub Asked : {A S : Type 0} → Rules A S → Terms → State A S → Option Call → State A S × Result Answer Refusal → Type 0
Asked R t σ (Some c) x = x ≡ in_code (step R t σ c)
Asked R t σ None x = ⊥

-- A call of the drawing; none stands for the escalation.
abbrev pub draw_or_escalation : Option DrawCall → Call
draw_or_escalation (Some c) = draw_call c
draw_or_escalation None = Call.escalation

abbrev pub standing_phase : Standing → Phase
standing_phase (Drawing audit) = at.Drawing
standing_phase (Counting hand) = at.Counting

-- Where a command was accepted, the audit stands at this phase.
abbrev pub StandsAfter : Result Answer Refusal → Phase → Standing → Type 0
StandsAfter (Ok a) ph standing = StandsAt ph standing
StandsAfter (Err e) ph standing = Unit {0}

-- Stopped by a refusal where the bytes rest begin, the last of a draws file of n bytes.
abbrev pub stopped_at : Standing → ℕ → ℕ → List ℕ → Refusal → Replayed
stopped_at standing answered n rest e =
    record {
      answered = answered;
      fault = Some (record { refusal = e; file = Draws; offset = n - length rest });
      standing = standing;
    }
