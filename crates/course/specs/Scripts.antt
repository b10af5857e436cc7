-- Scripts: the calls of an audit, up to the places drawn.
use Rattle.std.specs.Prelude.{◌≡◌, ℕ, suc, ◌-◌, Bool, List, [], ◌∷◌, map, Some, None, Option, if◌then◌else◌, slice_index_or}
use Rattle.refusal.specs.declared.Refusal.{Refusal}
use Rattle.ballot.specs.declared.Card.{Card}
use Rattle.course.specs.Terms.{Terms, Reading, blank_card, shown_refusal}
use Rattle.course.specs.Course.{Call}
use Rattle.course.specs.Course.Call.{entry, verdict, escalation, hand_count, closing}

-- The cards that were cast, and the places where none is found whenever they are drawn.
pub record CastCards : Type 0 where
  pub cards : List Card
  pub missing : ℕ → Bool

-- The card at a place, shown truly.
abbrev pub show_card : CastCards → ℕ → Reading
show_card b i = record { place = i; found = 1; card = slice_index_or b.cards (i - 1) blank_card }

abbrev pub show_missing : ℕ → Reading
show_missing i = record { place = i; found = 0; card = blank_card }

-- What the draw of a place shows.
abbrev pub show_drawn : CastCards → ℕ → Reading
show_drawn b i = if b.missing i then show_missing i else show_card b i

-- A call before the escalation: an entry of a drawn card, an entry that is refused for what it shows, or a verdict.
pub data Move (t : Terms) : Type 0 where
  drawn : Move t
  misread : (e : Reading) (r : Refusal) → shown_refusal t e ≡ Some r → Move t
  ask : Move t

-- A call after it: a count of the card at a place, found or missing, a count that is refused for what it shows, or a
-- closing.
pub data Hand (t : Terms) : Type 0 where
  see : ℕ → Hand t
  miss : ℕ → Hand t
  misread : (e : Reading) (r : Refusal) → shown_refusal t e ≡ Some r → Hand t
  finish : Hand t

abbrev pub draws_in : {t : Terms} → List (Move t) → ℕ
draws_in [] = 0
draws_in (Move.drawn ∷ ms) = suc (draws_in ms)
draws_in (Move.misread e r h ∷ ms) = draws_in ms
draws_in (Move.ask ∷ ms) = draws_in ms

module _ (t : Terms) (b : CastCards) where
  abbrev pub hand_call : Hand t → Call
  hand_call (Hand.see i) = hand_count (show_card b i)
  hand_call (Hand.miss i) = hand_count (show_missing i)
  hand_call (Hand.misread e r h) = hand_count e
  hand_call Hand.finish = closing

  -- After an escalation come the calls of the hand count.
  abbrev pub hand_calls : Option (List (Hand t)) → List Call
  hand_calls None = []
  hand_calls (Some hs) = escalation ∷ map hand_call hs

  -- The calls of the script where the draws name these places.
  abbrev pub calls : List (Move t) → Option (List (Hand t)) → List ℕ → List Call
  calls [] hs s = hand_calls hs
  calls (Move.drawn ∷ ms) hs [] = []
  calls (Move.drawn ∷ ms) hs (i ∷ s) = entry (show_drawn b i) ∷ calls ms hs s
  calls (Move.misread e r h ∷ ms) hs s = entry e ∷ calls ms hs s
  calls (Move.ask ∷ ms) hs s = verdict ∷ calls ms hs s
