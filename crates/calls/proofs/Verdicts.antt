-- A verdict that is answered as the course has it.
use Rattle.std.proofs.Common.{◌≡◌, ℕ, ◌^◌, ◌<◌, ◌≤◌, [], length, sum, Some, None, Ok, Err, Option, Result, replicate, ◌-◌, sym, refl, ap, ◌∙◌, subst}
use Rattle.std.specs.List.{AllByRecursion}
use Rattle.std.proofs.lemmas.List.{take_at}
use Rattle.refusal.specs.declared.Refusal.{Refusal}
use Rattle.assorter.specs.Law.{JustWhen}
use Rattle.verdict.specs.declared.Finding.TheVariants.{Confirm}
use Rattle.verdict.specs.declared.Verdict.{Verdict}
use Rattle.verdict.specs.Contests.{contest_risks, verdict_on}
use Rattle.course.specs.Terms.{Terms}
use Rattle.course.specs.Course.{Rules, State, answered, found_by, risks, unless_refused}
use Rattle.course.specs.Course.Call.{verdict}
use Rattle.course.specs.Laws.{left_by}
use Rattle.course.proofs.Runs.{confirms_by_risk, counts_draws}
use Rattle.calls.specs.declared.answers.Answer.{Answer}
use Rattle.calls.specs.declared.answers.Answer.TheVariants.{Finding}
use Rattle.calls.specs.Answers.{ConfirmedByRisk, CountsEntries}
use Rattle.calls.specs.Calls.{called, first_refusal, in_code}

module _ {A S : Type 0} (R : Rules A S) (t : Terms) (σ : State A S) where
  abbrev found : Verdict
  found = verdict_on (found_by t σ) σ.drawn (risks t σ)

  is_found :
      (o : Option Refusal) (τ : State A S) (v : Verdict) →
      (τ, Ok (Finding v)) ≡ in_code (unless_refused o σ (answered R t σ verdict)) → v ≡ found
  is_found (Some e) τ v same = let no : ◌≡◌ {A = Result Answer Refusal} (Ok (Finding v)) (Err e) = ap (λ x. x.1) same in cc
  is_found None τ v same = let is : ◌≡◌ {A = Result Answer Refusal} (Ok (Finding v)) (Ok (Finding found)) = ap (λ x. x.1) same in cc

  module _ (lent : ℕ) (τ : State A S) (v : Verdict) (same : (τ, Ok (Finding v)) ≡ in_code (called R t lent σ verdict)) where
    answers : v ≡ found
    answers = is_found (first_refusal t lent σ verdict) τ v same

    pub confirms : sum t.assertions ≡ length σ.accounts → t.limit < 2 ^ 16 → ConfirmedByRisk t.limit (Ok v)
    confirms there low =
        let rs = risks t σ in
        let own : rs ≡ contest_risks found = sym (take_at rs (replicate (8 - length rs) 0) (length rs) refl) in
        subst (λ w. JustWhen (w.finding ≡ Confirm) (AllByRecursion (λ r. r ≤ t.limit) (contest_risks w))) (sym answers)
        (subst (λ xs. JustWhen (found_by t σ ≡ Confirm) (AllByRecursion (λ r. r ≤ t.limit) xs)) own
        (confirms_by_risk R t σ there low [] (found_by t σ) σ.drawn rs refl))

    pub draws_within : (most : ℕ) → σ.drawn ≤ most → v.draws ≤ most
    draws_within most h = subst (λ w. w.draws ≤ most) (sym answers) h

    pub counts_entries : CountsEntries R t σ (Ok v)
    counts_entries = λ start fresh cs stands.
        let end = left_by R t start cs in
        ap (λ w. w.draws) answers ∙ sym (ap (λ s. s.drawn) stands)
        ∙ counts_draws R t start fresh cs (found_by t end) end.drawn (risks t end) refl
