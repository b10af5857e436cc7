-- The printed lines of a verdict tell its risks, draws and finding, and those of a closing what it upholds.
use Rattle.std.proofs.Common.{◌≡◌, ℕ, ◌+◌, ◌^◌, ◌<◌, Bool, true, false, cond, eqb, List, [], ◌∷◌, ◌++◌, length, codes, decimal, sym, refl, ap, ◌∙◌, arith, All}
use Rattle.std.proofs.lemmas.Fmt.{decimal_injective}
use Rattle.std.proofs.lemmas.List.{append_assoc, append_cancel_left}
use Rattle.std.proofs.lemmas.List.Elements.{All-head, All-tail}
use Rattle.std.proofs.lemmas.List.Sums.{sum_by-cons}
use Rattle.verdict.specs.Contests.{contest_risks, contests_upheld}
use Rattle.verdict.specs.declared.Verdict.{Verdict}
use Rattle.verdict.specs.declared.Closing.{Closing}
use Rattle.verdict.specs.declared.Finding.{Finding}
use Rattle.verdict.specs.declared.Finding.TheVariants.{Confirm, Continue, FullHandCount}
use Rattle.report.specs.Lines.{line, line_count, numbered, risk_line, outcome, draws_line, finding_line, closing_lines}
use Rattle.report.specs.Told.{VerdictLinesTell, ClosingLinesTell}
use Rattle.report.proofs.Counts.{draws_quiet, risk_front, risk_quiet, outcome_front, outcome_text_quiet, verdict_count, closing_count}

rest_quiet : (x : ℕ) (xs : List ℕ) → line_count (x ∷ xs) ≡ 0 → line_count xs ≡ 0
rest_quiet x xs p = let s = sum_by-cons (λ b. cond (eqb b 10) 1 0) x xs in omega arith

ends : (xs : List ℕ) → line_count (10 ∷ xs) ≡ 0 → ⊥
ends xs p = let s = sum_by-cons (λ b. cond (eqb b 10) 1 0) 10 xs in omega arith

first_of : (x y : ℕ) (xs ys : List ℕ) → ◌≡◌ {A = List ℕ} (x ∷ xs) (y ∷ ys) → x ≡ y
first_of x y xs ys e = cc

rest_of : (x y : ℕ) (xs ys : List ℕ) → ◌≡◌ {A = List ℕ} (x ∷ xs) (y ∷ ys) → xs ≡ ys
rest_of x y xs ys e = cc

-- The first line of a text, and what follows it.
first_line : (xs ys a b : List ℕ) → line_count xs ≡ 0 → line_count ys ≡ 0 → line xs ++ a ≡ line ys ++ b → (xs ≡ ys) × (a ≡ b)
first_line [] [] a b p q e = (refl, rest_of 10 10 a b e)
first_line [] (y ∷ ys) a b p q e =
    let h = first_of 10 y a (line ys ++ b) e in absurd (ends ys (ap (λ k. line_count (k ∷ ys)) h ∙ q))
first_line (x ∷ xs) [] a b p q e =
    let h = first_of x 10 (line xs ++ a) b e in absurd (ends xs (ap (λ k. line_count (k ∷ xs)) (sym h) ∙ p))
first_line (x ∷ xs) (y ∷ ys) a b p q e =
    let h = first_of x y (line xs ++ a) (line ys ++ b) e in
    let r = first_line xs ys a b (rest_quiet x xs p) (rest_quiet y ys q) (rest_of x y (line xs ++ a) (line ys ++ b) e) in
    let t = r.0 in (cc, r.1)

-- Lines of items, of which each is one line, and tells its item.
module _ {A : Type 0} (P : A → Type 0) (text : ℕ → A → List ℕ)
    (quiet : (n : ℕ) (x : A) → line_count (text n x) ≡ 0)
    (tells : (n : ℕ) (x y : A) → P x → P y → text n x ≡ text n y → x ≡ y) where
  items_told : (n : ℕ) (xs ys : List A) (a b : List ℕ) → length xs ≡ length ys → All P xs → All P ys →
      numbered (λ k x. line (text k x)) n xs ++ a ≡ numbered (λ k x. line (text k x)) n ys ++ b → (xs ≡ ys) × (a ≡ b)
  items_told n [] [] a b l p q e = (refl, e)
  items_told n [] (y ∷ ys) a b l p q e = absurd (omega arith)
  items_told n (x ∷ xs) [] a b l p q e = absurd (omega arith)
  items_told n (x ∷ xs) (y ∷ ys) a b l p q e =
      let xt = numbered (λ k x. line (text k x)) (n + 1) xs in
      let yt = numbered (λ k x. line (text k x)) (n + 1) ys in
      let e1 = sym (append_assoc (line (text n x)) xt a) ∙ (e ∙ append_assoc (line (text n y)) yt b) in
      let f = first_line (text n x) (text n y) (xt ++ a) (yt ++ b) (quiet n x) (quiet n y) e1 in
      let s = tells n x y (All-head P x xs p) (All-head P y ys q) f.0 in
      let r = items_told (n + 1) xs ys a b (omega arith) (All-tail P x xs p) (All-tail P y ys q) f.1 in
      let t = r.0 in (cc, r.1)

risk_told : (n x y : ℕ) → x < 2 ^ 16 → y < 2 ^ 16 → risk_front n ++ decimal x ≡ risk_front n ++ decimal y → x ≡ y
risk_told n x y p q e =
    decimal_injective x y (omega arith) (omega arith) (append_cancel_left (risk_front n) (decimal x) (decimal y) e)

outcome_told : (n : ℕ) (u w : Bool) → Unit {0} → Unit {0} → outcome_front n ++ outcome u ≡ outcome_front n ++ outcome w → u ≡ w
outcome_told n u w p q e = by u w (append_cancel_left (outcome_front n) (outcome u) (outcome w) e) where
  by : (u w : Bool) → outcome u ≡ outcome w → u ≡ w
  by true true h = refl
  by true false h = absurd (omega (arith, ap length h))
  by false true h = absurd (omega (arith, ap length h))
  by false false h = refl

finding_told : (f g : Finding) → finding_line f ≡ finding_line g → f ≡ g
finding_told Confirm Confirm e = refl
finding_told Confirm Continue e = absurd (omega (arith, ap length e))
finding_told Confirm FullHandCount e = absurd (omega (arith, ap length e))
finding_told Continue Confirm e = absurd (omega (arith, ap length e))
finding_told Continue Continue e = refl
finding_told Continue FullHandCount e = absurd (omega (arith, ap length e))
finding_told FullHandCount Confirm e = absurd (omega (arith, ap length e))
finding_told FullHandCount Continue e = absurd (omega (arith, ap length e))
finding_told FullHandCount FullHandCount e = refl

pub verdict_lines_tell : (v : Verdict) → VerdictLinesTell v
verdict_lines_tell v w p q e =
    let vt = numbered risk_line 1 (contest_risks v) in
    let wt = numbered risk_line 1 (contest_risks w) in
    let l : length (contest_risks v) ≡ length (contest_risks w) = omega (arith, ap line_count e, verdict_count v, verdict_count w) in
    let e1 =
    sym (append_assoc vt (draws_line v.draws) (finding_line v.finding))
    ∙ (e ∙ append_assoc wt (draws_line w.draws) (finding_line w.finding)) in
    let r =
    items_told
    (λ risk. risk < 2 ^ 16)
    (λ n risk. risk_front n ++ decimal risk)
    risk_quiet
    risk_told
    1
    (contest_risks v)
    (contest_risks w)
    (draws_line v.draws ++ finding_line v.finding)
    (draws_line w.draws ++ finding_line w.finding)
    l
    p.1
    q.1
    e1 in
    let f =
    first_line
    (codes "draws " ++ decimal v.draws)
    (codes "draws " ++ decimal w.draws)
    (finding_line v.finding)
    (finding_line w.finding)
    (draws_quiet v.draws)
    (draws_quiet w.draws)
    r.1 in
    let d = append_cancel_left (codes "draws ") (decimal v.draws) (decimal w.draws) f.0 in (
      r.0,
      decimal_injective v.draws w.draws (omega (arith, p.0)) (omega (arith, q.0)) d,
      finding_told v.finding w.finding f.1,
    )

all_of : (us : List Bool) → All (λ u. Unit {0}) us
all_of us k d h = tt

pub closing_lines_tell : (c : Closing) → ClosingLinesTell c
closing_lines_tell c d e =
    let us = contests_upheld c in
    let ws = contests_upheld d in
    let l : length us ≡ length ws = omega (arith, ap line_count e, closing_count c, closing_count d) in
    let e1 : closing_lines c ++ [] ≡ closing_lines d ++ [] = ap (λ (text : List ℕ). text ++ []) e in
    (items_told (λ u. Unit {0}) (λ n u. outcome_front n ++ outcome u) outcome_text_quiet outcome_told 1 us ws [] [] l (all_of us) (all_of ws) e1).0
