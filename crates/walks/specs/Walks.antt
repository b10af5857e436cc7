-- A card that is shown to the records, and what it does to one of them.
use Rattle.std.specs.Prelude.{ℕ, List, Some, None, Option}
use Rattle.std.specs.List.{prefix_len}
use Rattle.ballot.specs.declared.Card.{Card}
use Rattle.betting.specs.Accounts.{Account, cut}
use Rattle.betting.specs.Sums.{settled}
use Rattle.course.specs.Terms.{Reading, blank_card}
use Rattle.course.specs.Course.{Rules, after_entry}

-- A card that was found, or none where it is missing; its place moves nothing.
abbrev pub as_found : Option Card → Reading
as_found (Some x) = record { place = 0; found = 1; card = x }
as_found None = record { place = 0; found = 0; card = blank_card }

-- What a card is worth by these values; a missing one is worth nothing.
abbrev pub seen : {A : Type 0} → (A → Card → ℕ) → Option Card → A → ℕ
seen worth (Some x) a = worth a x
seen worth None a = 0

-- How many accounts in front are settled at the risk limit.
abbrev pub settled_front : {A S : Type 0} → ℕ → List (Account A S) → ℕ
settled_front limit xs = prefix_len (λ x. settled x.peak limit) xs

-- The account after an entry, as a record can hold it.
abbrev pub entered : {A S : Type 0} → Rules A S → ℕ → Reading → Account A S → Account A S
entered R limit e x = cut (after_entry R limit e x)
