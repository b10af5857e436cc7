-- What an answer of the audit says of each contest, first to last.
use Rattle.std.specs.Prelude.{ℕ, ◌-◌, Bool, false, List, ◌++◌, length, take, replicate}
use Rattle.verdict.specs.declared.Verdict.{Verdict}
use Rattle.verdict.specs.declared.Closing.{Closing}
use Rattle.verdict.specs.declared.Finding.{Finding}

-- The risk of each contest, in thousandths.
abbrev pub contest_risks : Verdict → List ℕ
contest_risks v = take v.contests v.risks

-- Whether the hand count upholds each contest's reported winners.
abbrev pub contests_upheld : Closing → List Bool
contests_upheld c = take c.contests c.upheld

-- ---- an answer, whole

-- These, and x in the other places up to eight.
abbrev pub padded : {X : Type 0} → X → List X → List X
padded x xs = xs ++ replicate (8 - length xs) x

-- The verdict on contests with these risks.
abbrev pub verdict_on : Finding → ℕ → List ℕ → Verdict
verdict_on f drawn rs = record { finding = f; contests = length rs; draws = drawn; risks = padded 0 rs }

-- The closing on contests of which these are upheld.
abbrev pub closing_on : List Bool → Closing
closing_on us = record { contests = length us; upheld = padded false us }
