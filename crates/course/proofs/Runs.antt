-- Laws over runs: draw counts, confirmations, and settled accounts.
use Rattle.std.proofs.Common.{◌≡◌, ℕ, zero, suc, ◌+◌, ◌^◌, ◌<◌, ◌≤◌, Bool, true, false, cond, ◌&&◌, eqb, List, [], ◌∷◌, map, length, get_or, take, drop, Decides, sum, sym, refl, ap, ◌∙◌, subst, arith, length-drop}
use lib.ListN.{length-map}
use Rattle.std.specs.List.{AllByRecursion}
use Rattle.std.proofs.lemmas.List.{get_or-map}
use Rattle.std.proofs.lemmas.List.Sums.{sum_by-cons}
use Rattle.std.proofs.lemmas.Bool.{and_from, and_parts, cond-true}
use Rattle.betting.specs.Accounts.{Account, moved}
use Rattle.betting.specs.Sums.{settled}
use Rattle.betting.proofs.Pencil.{settled_pencil}
use Rattle.verdict.specs.declared.Finding.TheVariants.{Confirm, Continue, FullHandCount}
use Rattle.course.specs.Terms.{Terms}
use Rattle.course.specs.Course.{Rules, State, Call, after_count, after_entry, all_settled, found_by, parts, risks, shown_value, step, worst_risk}
use Rattle.course.specs.Course.Call.{entry, verdict, escalation, hand_count, closing}
use Rattle.course.specs.Laws.{ConfirmsByRisk, CountsDraws, SettledStays, SameGame, left_by, taken_entries, taken_entry}
use Rattle.course.proofs.Steps.{by_step}

and_assoc : (a b c d : Bool) → b ≡ (c && d) → (a && b) ≡ ((a && c) && d)
and_assoc true b c d e = e
and_assoc false b c d e = refl

module _ {A S : Type 0} where
  -- settled accounts, by their worst risk
  settled_worst : (limit : ℕ) → limit < 2 ^ 16 → (xs : List (Account A S)) → Decides (all_settled limit xs) (worst_risk xs ≤ limit)
  settled_worst limit h [] = (λ _. omega arith, λ _. refl)
  settled_worst limit h (x ∷ xs) =
      let first = settled_pencil x.peak limit h in
      let rest = settled_worst limit h xs in (
        λ e. let both = and_parts (settled x.peak limit) (all_settled limit xs) e in
            omega (arith, first.0 both.0, rest.0 both.1),
        λ low. and_from (settled x.peak limit) (all_settled limit xs) (first.1 (omega arith)) (rest.1 (omega arith)),
      )

  settled_parts : (limit n : ℕ) (xs : List (Account A S)) → all_settled limit xs ≡ (all_settled limit (take n xs) && all_settled limit (drop n xs))
  settled_parts limit zero [] = refl
  settled_parts limit zero (x ∷ xs) = refl
  settled_parts limit (suc n) [] = refl
  settled_parts limit (suc n) (x ∷ xs) = and_assoc (settled x.peak limit) _ _ _ (settled_parts limit n xs)

  -- all accounts are settled just when each contest's risk is low
  settled_risks : (limit : ℕ) → limit < 2 ^ 16 → (ns : List ℕ) (xs : List (Account A S)) → length xs ≤ sum ns → Decides (all_settled limit xs) (AllByRecursion (λ r. r ≤ limit) (map worst_risk (parts ns xs)))
  settled_risks limit h [] [] few = (λ _. tt, λ _. refl)
  settled_risks limit h [] (x ∷ xs) few = absurd (omega arith)
  settled_risks limit h (n ∷ ns) xs few =
      let first = settled_worst limit h (take n xs) in
      let rest = settled_risks limit h ns (drop n xs) (omega (arith, length-drop n xs, sum_by-cons (λ (m : ℕ). m) n ns)) in
      let e = settled_parts limit n xs in (
        λ all. let both = and_parts (all_settled limit (take n xs)) (all_settled limit (drop n xs)) (sym e ∙ all) in
            (first.0 both.0, rest.0 both.1),
        λ low. e ∙ and_from (all_settled limit (take n xs)) (all_settled limit (drop n xs)) (first.1 low.0) (rest.1 low.1),
      )

confirm_is : (v u : Bool) → Decides v (cond v Confirm (cond u FullHandCount Continue) ≡ Confirm)
confirm_is true u = (λ _. refl, λ _. refl)
confirm_is false true = (λ e. cc, λ e. cc)
confirm_is false false = (λ e. cc, λ e. cc)

module _ {A S : Type 0} (R : Rules A S) where
  -- every call keeps the number of accounts
  pub step_length : (t : Terms) (σ : State A S) (c : Call) → length (step R t σ c).0.accounts ≡ length σ.accounts
  step_length t σ (entry e) = by_step R t (λ x. length x.0.accounts ≡ length σ.accounts) σ (entry e) (λ _. length-map σ.accounts (after_entry R t.limit e)) (λ r. refl)
  step_length t σ verdict = refl
  step_length t σ escalation = refl
  step_length t σ (hand_count e) = by_step R t (λ x. length x.0.accounts ≡ length σ.accounts) σ (hand_count e) (λ _. length-map σ.accounts (after_count R e)) (λ r. refl)
  step_length t σ closing = by_step R t (λ x. length x.0.accounts ≡ length σ.accounts) σ closing (λ _. refl) (λ r. refl)

  pub left_length : (t : Terms) (σ : State A S) (cs : List Call) → length (left_by R t σ cs).accounts ≡ length σ.accounts
  left_length t σ [] = refl
  left_length t σ (c ∷ cs) = left_length t (step R t σ c).0 cs ∙ step_length t σ c

  pub confirms_by_risk : ConfirmsByRisk R
  confirms_by_risk t σ whole h cs f d rs e =
      let τ = left_by R t σ cs in
      let all = settled_risks t.limit h t.assertions τ.accounts (omega (arith, left_length t σ cs)) in
      let is = confirm_is (all_settled t.limit τ.accounts) (eqb τ.drawn t.draws) in
      let same-finding : found_by t τ ≡ f = cc in
      let same-risks : risks t τ ≡ rs = cc in (
        λ c. subst (AllByRecursion (λ r. r ≤ t.limit)) same-risks (all.0 (is.1 (same-finding ∙ c))),
        λ low. sym same-finding ∙ is.0 (all.1 (subst (AllByRecursion (λ r. r ≤ t.limit)) (sym same-risks) low)),
      )

  -- only a taken entry adds to the draw count
  step_drawn : (t : Terms) (σ : State A S) (c : Call) → (step R t σ c).0.drawn ≡ σ.drawn + taken_entry c (step R t σ c).1
  step_drawn t σ (entry e) = by_step R t (λ x. x.0.drawn ≡ σ.drawn + taken_entry (entry e) x.1) σ (entry e) (λ _. refl) (λ r. omega arith)
  step_drawn t σ verdict = omega arith
  step_drawn t σ escalation = omega arith
  step_drawn t σ (hand_count e) = by_step R t (λ x. x.0.drawn ≡ σ.drawn + 0) σ (hand_count e) (λ _. omega arith) (λ r. omega arith)
  step_drawn t σ closing = by_step R t (λ x. x.0.drawn ≡ σ.drawn + 0) σ closing (λ _. omega arith) (λ r. omega arith)

  pub left_drawn : (t : Terms) (σ : State A S) (cs : List Call) → (left_by R t σ cs).drawn ≡ σ.drawn + taken_entries R t σ cs
  left_drawn t σ [] = omega arith
  left_drawn t σ (c ∷ cs) = omega (arith, left_drawn t (step R t σ c).0 cs, step_drawn t σ c)

  pub counts_draws : CountsDraws R
  counts_draws t σ o cs f d rs e =
      let τ = left_by R t σ cs in
      let same : τ.drawn ≡ d = cc in
      omega (arith, left_drawn t σ cs, o.undrawn)

  same_as : (x y : Account A S) → x ≡ y → SameGame x y
  same_as x y e = record {
    same_assorter = ap (λ (z : Account A S). z.assorter) e;
    same_state = ap (λ (z : Account A S). z.state) e;
    same_wealth = ap (λ (z : Account A S). z.wealth) e;
    same_peak = ap (λ (z : Account A S). z.peak) e;
  }

  same_then : (x y z : Account A S) → SameGame x y → SameGame y z → SameGame x z
  same_then x y z p q = record {
    same_assorter = p.same_assorter ∙ q.same_assorter;
    same_state = p.same_state ∙ q.same_state;
    same_wealth = p.same_wealth ∙ q.same_wealth;
    same_peak = p.same_peak ∙ q.same_peak;
  }

  module _ (t : Terms) (j : ℕ) (x : Account A S) where
    abbrev at : State A S → Account A S
    at σ = get_or σ.accounts j x

    settled_step : (σ : State A S) (c : Call) → j < length σ.accounts → settled (at σ).peak t.limit ≡ true → SameGame (at (step R t σ c).0) (at σ)
    settled_step σ (entry e) h s =
        by_step R t (λ y. SameGame (at y.0) (at σ)) σ (entry e)
        (λ _. same_as _ _ (get_or-map (after_entry R t.limit e) σ.accounts j x x h ∙ cond-true (settled (at σ).peak t.limit) (at σ) (moved R.bet R.told (R.half (at σ).assorter) (shown_value R (at σ).assorter e) (at σ)) s))
        (λ r. same_as _ _ refl)
    settled_step σ verdict h s = same_as _ _ refl
    settled_step σ escalation h s = same_as _ _ refl
    settled_step σ (hand_count e) h s =
        by_step R t (λ y. SameGame (at y.0) (at σ)) σ (hand_count e)
        (λ _. same_then _ (after_count R e (at σ)) _ (same_as _ _ (get_or-map (after_count R e) σ.accounts j x x h)) (record { same_assorter = refl; same_state = refl; same_wealth = refl; same_peak = refl }))
        (λ r. same_as _ _ refl)
    settled_step σ closing h s = by_step R t (λ y. SameGame (at y.0) (at σ)) σ closing (λ _. same_as _ _ refl) (λ r. same_as _ _ refl)

    settled_run : (σ : State A S) (cs : List Call) → j < length σ.accounts → settled (at σ).peak t.limit ≡ true → SameGame (at (left_by R t σ cs)) (at σ)
    settled_run σ [] h s = same_as _ _ refl
    settled_run σ (c ∷ cs) h s =
        let one = settled_step σ c h s in
        let still : settled (at (step R t σ c).0).peak t.limit ≡ true = subst (λ p. settled p t.limit ≡ true) (sym one.same_peak) s in
        let inside : j < length (step R t σ c).0.accounts = omega (arith, step_length t σ c) in
        same_then _ (at (step R t σ c).0) _ (settled_run (step R t σ c).0 cs inside still) one

  pub settled_stays : SettledStays R
  settled_stays t σ cs j x h s = settled_run t j x σ cs h s
