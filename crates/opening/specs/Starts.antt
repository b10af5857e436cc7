-- The accounts in which an audit begins, and what a start leaves.
use Rattle.std.specs.Prelude.{◌≡◌, ℕ, Bool, if◌then◌else◌, ◌||◌, List, [], ◌∷◌, ◌++◌, length, drop, Some, None, Ok, Err, Option, Result, nat_lt}
use Rattle.refusal.specs.declared.Refusal.{Refusal}
use Rattle.refusal.specs.declared.Refusal.TheVariants.{NoRoom}
use Rattle.assertion.specs.declared.assertions.Assertion.{Assertion}
use Rattle.assertion.specs.declared.assertions.Planned.{Planned}
use Rattle.assertion.specs.Values.{half_of, top_of}
use Rattle.betting.specs.Accounts.{Account, fresh_account}
use Rattle.betting.specs.Policies.{Chosen, always, shrinking}
use Rattle.betting.specs.Shrinks.{Shrinks, shrinking_from}
use Rattle.setup.specs.declared.setup.PolicyChoice.{PolicyChoice}
use Rattle.setup.specs.declared.setup.PolicyChoice.TheVariants.{Fixed, Shrinking}

-- Where no shrinking policy begins, which happens in no accepted setup, the bet stays the first.
abbrev pub shrinking_or : ℕ → Option Shrinks → Chosen
shrinking_or bet (Some s) = shrinking s
shrinking_or bet None = always bet

-- The state of the policy before the first card.
abbrev pub first_state : PolicyChoice → Planned → Chosen
first_state Fixed x = always x.first_bet
first_state (Shrinking weight) x =
    shrinking_or x.first_bet (shrinking_from x.first_bet weight (half_of x.assertion) (top_of x.assertion))

-- The account of a planned assertion, of which no card has been seen.
abbrev pub started_plan : PolicyChoice → Planned → Account Assertion Chosen
started_plan choice x = fresh_account x.assertion (first_state choice x)

-- One account for each assorter and the policy beside it.
abbrev pub started : {A S : Type 0} → List A → List S → List (Account A S)
started [] ss = []
started (a ∷ xs) [] = []
started (a ∷ xs) (s ∷ ss) = fresh_account a s ∷ started xs ss

-- There are fewer than n.
abbrev pub fewer : {X : Type 0} → ℕ → List X → Bool
fewer n xs = nat_lt (length xs) n

-- Of assorters, policies or records there are fewer than n.
abbrev pub any_fewer : {A P R : Type 0} → ℕ → List A → List P → List R → Bool
any_fewer n xs ps rs = fewer n rs || fewer n xs || fewer n ps

-- A start is refused where there are too few places.
abbrev pub start_answer : Bool → Result Unit Refusal
start_answer too_few = if too_few then Err NoRoom else Ok tt

-- The new accounts in place of the first n; a refusal leaves all accounts as they are.
abbrev pub after_start : {X : Type 0} → Bool → ℕ → List X → List X → List X
after_start too_few n new old = if too_few then old else new ++ drop n old

-- A refusal changes nothing.
abbrev pub RefusedUnchanged : {X : Type 0} → Result Unit Refusal → List X → List X → Type 0
RefusedUnchanged (Ok done) before after = Unit
RefusedUnchanged (Err e) before after = after ≡ before
