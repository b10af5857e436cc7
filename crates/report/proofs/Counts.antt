-- Each printed line is one line.
use Rattle.std.proofs.Common.{◌≡◌, ℕ, zero, suc, ◌+◌, ◌/◌, ◌%◌, Bool, true, false, cond, eqb, List, [], ◌∷◌, ◌++◌, length, codes, decimal, refl, ◌∙◌, arith}
use Rattle.std.specs.Fmt.{digit_glyph, digits, digits_onto}
use Rattle.std.proofs.lemmas.List.Sums.{sum_by-append}
use Rattle.std.proofs.lemmas.Bool.Decides.{nat_tests}
use Rattle.verdict.specs.declared.Finding.{Finding}
use Rattle.verdict.specs.declared.Finding.TheVariants.{Confirm, Continue, FullHandCount}
use Rattle.verdict.specs.declared.Verdict.{Verdict}
use Rattle.verdict.specs.declared.Closing.{Closing}
use Rattle.verdict.specs.Contests.{contest_risks, contests_upheld}
use Rattle.report.specs.Lines.{line, line_count, numbered, outcome, risk_line, draws_line, outcome_line, finding_line, verdict_lines, closing_lines}

pub count_append : (xs ys : List ℕ) → line_count (xs ++ ys) ≡ line_count xs + line_count ys
count_append xs ys = sum_by-append (λ b. cond (eqb b 10) 1 0) xs ys

quiet_append : (xs ys : List ℕ) → line_count xs ≡ 0 → line_count ys ≡ 0 → line_count (xs ++ ys) ≡ 0
quiet_append xs ys p q = count_append xs ys ∙ omega arith

quiet_line : (xs : List ℕ) → line_count xs ≡ 0 → line_count (line xs) ≡ 1
quiet_line xs p = let end : line_count (10 ∷ []) ≡ 1 = refl in count_append xs (10 ∷ []) ∙ omega arith

-- A digit is no line end.
glyph_quiet : (d : ℕ) (ds : List ℕ) → line_count ds ≡ 0 → line_count (digit_glyph false d ∷ ds) ≡ 0
glyph_quiet d ds p = let one : line_count (digit_glyph false d ∷ []) ≡ 0 = grind (arith, nat_tests) in quiet_append (digit_glyph false d ∷ []) ds one p

cond_quiet : (b : Bool) (xs ys : List ℕ) → line_count xs ≡ 0 → line_count ys ≡ 0 → line_count (cond b xs ys) ≡ 0
cond_quiet true xs ys p q = p
cond_quiet false xs ys p q = q

digits_quiet : (k n : ℕ) (ds : List ℕ) → line_count ds ≡ 0 → line_count (digits_onto k 10 false n ds) ≡ 0
digits_quiet zero n ds p = p
digits_quiet (suc k) n ds p =
    let more = glyph_quiet (n % 10) ds p in
    cond_quiet (eqb (n / 10) 0) _ (digits_onto k 10 false (n / 10) (digit_glyph false (n % 10) ∷ ds)) more (digits_quiet k (n / 10) _ more)

decimal_quiet : (n : ℕ) → line_count (decimal n) ≡ 0
unfolding digits
decimal_quiet n = digits_quiet 64 n [] refl

outcome_quiet : (upheld : Bool) → line_count (outcome upheld) ≡ 0
outcome_quiet true = refl
outcome_quiet false = refl

pub draws_quiet : (draws : ℕ) → line_count (codes "draws " ++ decimal draws) ≡ 0
draws_quiet draws = quiet_append (codes "draws ") (decimal draws) refl (decimal_quiet draws)

contest_quiet : (contest : ℕ) → line_count (codes "contest " ++ decimal contest) ≡ 0
contest_quiet contest = quiet_append (codes "contest ") (decimal contest) refl (decimal_quiet contest)

-- The text of a risk line before its number.
abbrev pub risk_front : ℕ → List ℕ
risk_front contest = codes "contest " ++ decimal contest ++ codes " risk "

pub risk_quiet : (contest risk : ℕ) → line_count (risk_front contest ++ decimal risk) ≡ 0
risk_quiet contest risk =
    let front = quiet_append (codes "contest " ++ decimal contest) (codes " risk ") (contest_quiet contest) refl in
    quiet_append (risk_front contest) (decimal risk) front (decimal_quiet risk)

-- The text of an outcome's line before its words.
abbrev pub outcome_front : ℕ → List ℕ
outcome_front contest = codes "contest " ++ decimal contest

pub outcome_text_quiet : (contest : ℕ) (upheld : Bool) → line_count (outcome_front contest ++ outcome upheld) ≡ 0
outcome_text_quiet contest upheld = quiet_append (outcome_front contest) (outcome upheld) (contest_quiet contest) (outcome_quiet upheld)

draws_line_one : (draws : ℕ) → line_count (draws_line draws) ≡ 1
draws_line_one draws = quiet_line (codes "draws " ++ decimal draws) (draws_quiet draws)

risk_line_one : (contest risk : ℕ) → line_count (risk_line contest risk) ≡ 1
risk_line_one contest risk = quiet_line (risk_front contest ++ decimal risk) (risk_quiet contest risk)

outcome_line_one : (contest : ℕ) (upheld : Bool) → line_count (outcome_line contest upheld) ≡ 1
outcome_line_one contest upheld = quiet_line (outcome_front contest ++ outcome upheld) (outcome_text_quiet contest upheld)

finding_line_one : (finding : Finding) → line_count (finding_line finding) ≡ 1
finding_line_one Confirm = refl
finding_line_one Continue = refl
finding_line_one FullHandCount = refl

numbered_count : {A : Type 0} (item : ℕ → A → List ℕ) → ((n : ℕ) (x : A) → line_count (item n x) ≡ 1) →
    (n : ℕ) (xs : List A) → line_count (numbered item n xs) ≡ length xs
numbered_count item one n [] = refl
numbered_count item one n (x ∷ xs) =
    count_append (item n x) (numbered item (n + 1) xs) ∙ omega (arith, one n x, numbered_count item one (n + 1) xs)

-- A verdict has a line for each contest and two more.
pub verdict_count : (v : Verdict) → line_count (verdict_lines v) ≡ length (contest_risks v) + 2
verdict_count v =
    let contests = numbered risk_line 1 (contest_risks v) in
    let first = count_append contests (draws_line v.draws) in
    let risks = numbered_count risk_line risk_line_one 1 (contest_risks v) in
    count_append (contests ++ draws_line v.draws) (finding_line v.finding)
    ∙ omega (arith, first, risks, draws_line_one v.draws, finding_line_one v.finding)

-- A close has a line for each contest.
pub closing_count : (c : Closing) → line_count (closing_lines c) ≡ length (contests_upheld c)
closing_count c = numbered_count outcome_line outcome_line_one 1 (contests_upheld c)
