-- How far a draws file is followed on an audit, and with which answers.
use Rattle.std.specs.Prelude.{◌≡◌, ℕ, ◌+◌, ◌*◌, ◌≤◌, true, ◌⊎◌, List, [], ◌∷◌, map, length, Some, None, Ok, Err, sum, Option, slice_index}
use Rattle.std.specs.Option.{option_to_list}
use Rattle.std.specs.List.{flat_map}
use Rattle.refusal.specs.declared.Fault.{Fault}
use Rattle.refusal.specs.declared.File.TheVariants.{Draws}
use Rattle.refusal.specs.declared.Refusal.{Refusal}
use Rattle.refusal.specs.declared.Refusal.TheVariants.{NoRoom}
use Rattle.ballot.specs.declared.Card.{Card}
use Rattle.format.specs.declared.command.Phase.{Phase}
use Rattle.format.specs.declared.command.Phase.TheVariants as at
use Rattle.format.specs.Format.{Cmd, entry, verdict, escalate, count, close, allowed, code, next}
use Rattle.format.specs.Counted.{commands_begun}
use Rattle.setup.specs.Described.{WrittenBefore}
use Rattle.course.specs.Terms.{Terms}
use Rattle.course.specs.Course.{Rules, State, Call, course, step}
use Rattle.course.specs.Course.Answer.{refused}
use Rattle.course.specs.Laws.{left_by}
use Rattle.calls.specs.declared.drawing.Audit.{Audit}
use Rattle.calls.specs.declared.answers.Answer.{Answer}
use Rattle.calls.specs.declared.answers.Standing.{Standing}
use Rattle.calls.specs.declared.answers.Standing.TheVariants.{Drawing, Counting}
use Rattle.calls.specs.Calls.{code_answer, reading}

-- ---- commands and calls

-- The number in the four bytes at i, the most significant first.
abbrev pub four : List ℕ → ℕ → ℕ
four bs i = slice_index bs i * 16777216 + slice_index bs (i + 1) * 65536 + slice_index bs (i + 2) * 256 + slice_index bs (i + 3)

-- The card whose marks these 32 bytes are, four for each of eight contests.
abbrev pub card_of : List ℕ → Card
card_of bs =
    let m = four bs in
    record { marks = m 0 ∷ m 4 ∷ m 8 ∷ m 12 ∷ m 16 ∷ m 20 ∷ m 24 ∷ m 28 ∷ [] }

-- What a command asks of an audit; a command of the setup file asks nothing.
abbrev pub call_of : Cmd → Option Call
call_of (entry place found marks) = Some (Call.entry (reading place found (card_of marks)))
call_of verdict = Some Call.verdict
call_of escalate = Some Call.escalation
call_of (count place found marks) = Some (Call.hand_count (reading place found (card_of marks)))
call_of close = Some Call.closing
call_of _ = None

abbrev pub calls_of : List Cmd → List Call
calls_of ms = flat_map (λ m. option_to_list (call_of m)) ms

-- ---- order

-- The phase after a command: an escalation begins the counting, a close ends the file.
abbrev pub phase_after : Phase → Cmd → Phase
phase_after ph escalate = at.Counting
phase_after ph close = at.Closed
phase_after ph _ = ph

-- Each command may stand where it stands; the first is at the phase p, and q is the phase after the last.
abbrev pub InOrder : Phase → List Cmd → Phase → Type 0
InOrder p [] q = p ≡ q
InOrder p (m ∷ ms) q = (allowed p (code m) ≡ true) × InOrder (phase_after p m) ms q

-- Cards are drawn up to the escalation, and counted after it.
abbrev pub StandsAt : Phase → Standing → Type 0
StandsAt ph (Drawing audit) = ph ≡ at.Drawing
StandsAt ph (Counting hand) = (ph ≡ at.Counting) ⊎ (ph ≡ at.Closed)

-- ---- a draws file

module _ {A S : Type 0} (R : Rules A S) (t : Terms) where
  -- The commands of the file before the bytes rest are accepted, one by one, with these answers, none of them a refusal,
  -- and leave the audit at this phase and in the state after.
  pub record Followed
      (before : State A S) (file rest : List ℕ) (ph : Phase) (answers : List Answer) (after : State A S) : Type 0 where
    pub commands : List Cmd
    pub written : WrittenBefore commands file rest
    pub in_order : InOrder at.Drawing commands ph
    pub answers_are : map Ok answers ≡ map (λ x. code_answer x.1) (course R t before (calls_of commands))
    pub left : after ≡ left_by R t before (calls_of commands)

  -- A command that is read is refused with the refusal of the call that it asks.
  abbrev pub CallRefused : State A S → Refusal → Option Call → Type 0
  CallRefused σ e (Some c) = (step R t σ c).1 ≡ refused e
  CallRefused σ e None = ⊥

  -- What begins with the bytes rest is refused: it is no command that may stand there, or no whole one, or its call is
  -- refused.
  abbrev pub RefusedAt : Phase → State A S → List ℕ → Refusal → Type 0
  RefusedAt ph σ rest e =
      (next ph rest ≡ Err e)
      ⊎ ((m : Cmd) × (after : List ℕ) × (next ph rest ≡ Ok (record { command = m; rest = after }))
      × CallRefused σ e (call_of m))

  -- The file is followed to its end, or up to a fault at the first refusal.
  abbrev pub Stops : List ℕ → List ℕ → Phase → State A S → Option Fault → Type 0
  Stops file rest ph σ None = rest ≡ []
  Stops file rest ph σ (Some f) =
      (1 ≤ length rest) × (f.file ≡ Draws) × (f.offset + length rest ≡ length file)
      × RefusedAt ph σ rest f.refusal

  -- A whole draws file, followed from the state before.
  pub record Replays
      (before : State A S) (file : List ℕ) (answers : List Answer) (fault : Option Fault) (standing : Standing)
      (after : State A S) : Type 0 where
    pub rest : List ℕ
    pub at : Phase
    pub followed : Followed before file rest at answers after
    pub stands : StandsAt at standing
    pub stops : Stops file rest at after fault

-- There is a record for each assertion, and a place for an answer to each command that begins in the file.
pub record HasRoom (t : Terms) (records : ℕ) (file : List ℕ) (places : ℕ) : Type 0 where
  pub for_records : sum t.assertions ≤ records
  pub for_answers : commands_begun file ≤ places

-- Without room nothing is read and nothing changes.
pub record Unread {X Y : Type 0}
    (audit : Audit) (answered : ℕ) (fault : Option Fault) (standing : Standing) (records records_after : List X)
    (answers answers_after : List Y) : Type 0 where
  pub none_answered : answered ≡ 0
  pub no_room : fault ≡ Some (record { refusal = NoRoom; file = Draws; offset = 0 })
  pub same_audit : standing ≡ Drawing audit
  pub same_records : records_after ≡ records
  pub same_answers : answers_after ≡ answers
