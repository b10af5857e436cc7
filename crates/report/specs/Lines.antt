-- The printed lines of a report, as bytes.
use Rattle.std.specs.Prelude.{◌≡◌, ℕ, ◌+◌, Bool, true, false, if◌then◌else◌, List, [], ◌∷◌, ◌++◌, length, drop, Ok, Err, codes, decimal, count_by, Result, nat_eq, nat_le}
use Rattle.arrayvec.specs.ArrayString.{ArrayString}
use Rattle.refusal.specs.declared.Refusal.{Refusal}
use Rattle.refusal.specs.declared.Refusal.TheVariants.{ReportTooLong}
use Rattle.verdict.specs.Contests.{contest_risks, contests_upheld}
use Rattle.verdict.specs.declared.Verdict.{Verdict}
use Rattle.verdict.specs.declared.Closing.{Closing}
use Rattle.verdict.specs.declared.Finding.{Finding}
use Rattle.verdict.specs.declared.Finding.TheVariants.{Confirm, Continue, FullHandCount}

-- A line ends with the byte 10.
abbrev pub line : List ℕ → List ℕ
line text = text ++ 10 ∷ []

-- The lines of items that are numbered from n on.
abbrev pub numbered : {A : Type 0} → (ℕ → A → List ℕ) → ℕ → List A → List ℕ
numbered item n [] = []
numbered item n (x ∷ xs) = item n x ++ numbered item (n + 1) xs

-- Every text that `made` allows for a number and an item is the item's line.
abbrev pub WritesLine : {A : Type 0} → (ℕ → A → ArrayString → Type 0) → (ℕ → A → List ℕ) → Type 0
WritesLine made item = (n : ℕ) (x : _) (text : ArrayString) → made n x text → text.bytes ≡ item n x

-- "contest 1 risk 46"
abbrev pub risk_line : ℕ → ℕ → List ℕ
risk_line contest risk = line (codes "contest " ++ decimal contest ++ codes " risk " ++ decimal risk)

-- "draws 17"
abbrev pub draws_line : ℕ → List ℕ
draws_line draws = line (codes "draws " ++ decimal draws)

-- What the members are to do next, in words.
abbrev pub finding_line : Finding → List ℕ
finding_line Confirm = line (codes "confirm")
finding_line Continue = line (codes "continue")
finding_line FullHandCount = line (codes "full hand count")

-- What a line of a close says of a contest.
abbrev pub outcome : Bool → List ℕ
outcome true = codes " upheld"
outcome false = codes " not upheld"

-- "contest 1 upheld"
abbrev pub outcome_line : ℕ → Bool → List ℕ
outcome_line contest upheld = line (codes "contest " ++ decimal contest ++ outcome upheld)

-- A line for each contest from 1, then the draws, then the finding.
abbrev pub verdict_lines : Verdict → List ℕ
verdict_lines v = numbered risk_line 1 (contest_risks v) ++ draws_line v.draws ++ finding_line v.finding

-- A line for each contest from 1.
abbrev pub closing_lines : Closing → List ℕ
closing_lines c = numbered outcome_line 1 (contests_upheld c)

-- How many lines a text has.
abbrev pub line_count : List ℕ → ℕ
line_count text = count_by (λ b. nat_eq b 10) text

-- What a call that reports `lines` into a buffer answers: their length, or that they do not fit.
abbrev pub report_answer : List ℕ → List ℕ → Result ℕ Refusal
report_answer lines buffer = if nat_le (length lines) (length buffer) then Ok (length lines) else Err ReportTooLong

-- What it leaves in the buffer: the lines, and behind them what was there; or all as it was.
abbrev pub reported : List ℕ → List ℕ → List ℕ
reported lines buffer = if nat_le (length lines) (length buffer) then lines ++ drop (length lines) buffer else buffer
