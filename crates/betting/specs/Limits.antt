-- Where a record and a policy stop.
use Rattle.std.specs.Prelude.{ℕ}

-- No record's wealth or peak is higher.
abbrev pub most_wealth : ℕ
most_wealth = 100000000000000

-- The tally of a hand count stops here.
abbrev pub last_tally : ℕ
last_tally = 65535000

-- So many values are counted; after them a shrinking policy stands still.
abbrev pub last_counted : ℕ
last_counted = 20000
