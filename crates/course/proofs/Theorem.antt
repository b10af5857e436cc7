-- Both bounds: a script is a tree of calls in which the account of a false claim plays a fair game.
use Rattle.std.proofs.Common.{◌≡◌, ℕ, ◌+◌, ◌-◌, ◌*◌, ◌<◌, ◌≤◌, max, Bool, true, false, cond, eqb, List, [], ◌∷◌, map, length, get_or, take, Some, None, sum_by, Option, sym, refl, ap, ◌∙◌, subst, inl, inr, ⊎_elim, zero-le, le_trans, le_of_eq, le_refl, mul-le-mul_right, mul_comm, mul-le-mul_left, mul_right_comm, arith, take_all}
use native.Mathlib.Nat.{le-max_left}
use Rattle.std.proofs.Math.ListN
use lib.ListN.{length-map}
use Rattle.std.specs.List.{AllByRecursion}
use Rattle.std.proofs.ByRecursion.{All-get_or}
use Rattle.std.proofs.lemmas.List.{get_or-map}
use Rattle.std.proofs.lemmas.List.Sums.{sum_by_more}
use Rattle.std.proofs.lemmas.Bool.{cases_lt}
use Rattle.refusal.specs.declared.Refusal.{Refusal}
use Rattle.refusal.specs.declared.Refusal.TheVariants.{NoDrawsLeft}
use Rattle.chance.specs.Sequences.{places, sequences, AtMostIn}
use Rattle.chance.specs.Tree.{Tree, Meets, Fair}
use Rattle.chance.specs.Tree.Tree.{done, call, draw}
use Rattle.chance.proofs.Counts.{counted_le, length_places}
use Rattle.chance.proofs.Games.{event_bounded}
use Rattle.betting.specs.Accounts.{Account, fresh_account}
use Rattle.betting.proofs.Pencil.{risk_pencil}
use Rattle.verdict.specs.declared.Finding.TheVariants.{Confirm, Continue, FullHandCount}
use Rattle.course.specs.Terms.{Terms, Reading, blank_card}
use Rattle.course.specs.Course.{Rules, State, Call, Answer, after_count, after_entry, all_above, all_settled, answered, course, first_of, no_draws_left, parts, refusal_of, risks, shown_value, step, worst_risk}
use Rattle.course.specs.Course.Call.{entry, verdict, escalation, hand_count, closing}
use Rattle.course.specs.Course.Answer.{taken}
use Rattle.course.specs.Scripts.{CastCards, Move, Hand, calls, draws_in, hand_call, hand_calls, show_card, show_drawn, show_missing}
use Rattle.course.specs.Bounds.{Any, AtMostBring, accounts_of, Contradicted, Fits, LimitsRisk, LowRisk, MeasuresRisk, Opened, WrongAnswer}
use Rattle.course.specs.Laws.{NeverUpholdsWrongly, UpholdsTruly}
use Rattle.course.proofs.Steps.{by_step, closed_all, counted_place, drawn_shown, misread_count, misread_entry, some_not_none, taken_step}
use Rattle.course.proofs.Deciding.{all_or_any, claim_or_not}
use Rattle.course.proofs.Fairness.{cards_sum, entry_assorter, entry_fair, entry_highest, entry_rises, entry_tally, sum_const, sum_places_le}
use Rattle.course.proofs.Parts.{InPart, part_above, part_any, part_worst, settled_at}
use Rattle.course.proofs.Rules.{Lawful}

module _ {A S : Type 0} (R : Rules A S) (t : Terms) (b : CastCards) where
  abbrev After : Type 0
  After = State A S × Answer

  -- what may come of the calls after an escalation, which draw nothing
  abbrev chain : State A S → List Call → (n : ℕ) → Tree After n
  chain σ [] n = done
  chain σ (c ∷ cs) n = call (step R t σ c) (chain (step R t σ c).0 cs n)

  -- what may come of a script
  abbrev tree : State A S → (ms : List (Move t)) → Option (List (Hand t)) → Tree After (draws_in ms)
  tree σ [] hs = chain σ (hand_calls t b hs) 0
  tree σ (Move.drawn ∷ ms) hs = draw (λ i. step R t σ (entry (show_drawn b i))) (λ i. tree (step R t σ (entry (show_drawn b i))).0 ms hs)
  tree σ (Move.misread e r h ∷ ms) hs = call (step R t σ (entry e)) (tree (step R t σ (entry e)).0 ms hs)
  tree σ (Move.ask ∷ ms) hs = call (step R t σ verdict) (tree (step R t σ verdict).0 ms hs)

  -- a course along a draw sequence is a way through the tree; K is what every call keeps
  module _ (K : State A S → Type 0) (keep-entry : (σ : State A S) (e : Reading) → K σ → K (step R t σ (entry e)).0) (keep-hand : (σ : State A S) (h : Hand t) → K σ → K (step R t σ (hand_call t b h)).0) (Q Q' : After → Type 0) (up : (σ : State A S) (c : Call) → K σ → K (step R t σ c).0 → Q (step R t σ c) → Q' (step R t σ c)) where
    chain_meets : (σ : State A S) (hs : List (Hand t)) (n : ℕ) (s : List ℕ) → K σ → Any Q (course R t σ (map (hand_call t b) hs)) → Meets Q' (chain σ (map (hand_call t b) hs) n) s
    chain_meets σ [] n s k m = m
    chain_meets σ (h ∷ hs) n s k m =
        let k' = keep-hand σ h k in
        ⊎_elim (λ q. inl (up σ (hand_call t b h) k k' q)) (λ q. inr (chain_meets (step R t σ (hand_call t b h)).0 hs n s k' q)) m

    pub tree_meets : (σ : State A S) (ms : List (Move t)) (hs : Option (List (Hand t))) (s : List ℕ) → K σ → Any Q (course R t σ (calls t b ms hs s)) → Meets Q' (tree σ ms hs) s
    tree_meets σ [] None s k m = m
    tree_meets σ [] (Some hs) s k m = ⊎_elim (λ q. inl (up σ escalation k k q)) (λ q. inr (chain_meets σ hs 0 s k q)) m
    tree_meets σ (Move.drawn ∷ ms) hs [] k m = m
    tree_meets σ (Move.drawn ∷ ms) hs (i ∷ s) k m =
        let k' = keep-entry σ (show_drawn b i) k in
        ⊎_elim (λ q. inl (up σ (entry (show_drawn b i)) k k' q)) (λ q. inr (tree_meets (step R t σ (entry (show_drawn b i))).0 ms hs s k' q)) m
    tree_meets σ (Move.misread e r g ∷ ms) hs s k m =
        let k' = keep-entry σ e k in
        ⊎_elim (λ q. inl (up σ (entry e) k k' q)) (λ q. inr (tree_meets (step R t σ (entry e)).0 ms hs s k' q)) m
    tree_meets σ (Move.ask ∷ ms) hs s k m = ⊎_elim (λ q. inl (up σ verdict k k q)) (λ q. inr (tree_meets σ ms hs s k q)) m

  -- what every answer of a script has, where K is what every call keeps
  module _ (K : State A S → Type 0) (keep-entry : (σ : State A S) (e : Reading) → K σ → K (step R t σ (entry e)).0) (keep-hand : (σ : State A S) (h : Hand t) → K σ → K (step R t σ (hand_call t b h)).0) (Q : After → Type 0) (up : (σ : State A S) (c : Call) → K σ → Q (step R t σ c)) where
    hands_all : (σ : State A S) (hs : List (Hand t)) → K σ → AllByRecursion Q (course R t σ (map (hand_call t b) hs))
    hands_all σ [] k = tt
    hands_all σ (h ∷ hs) k = (up σ (hand_call t b h) k, hands_all (step R t σ (hand_call t b h)).0 hs (keep-hand σ h k))

    pub script_all : (σ : State A S) (ms : List (Move t)) (hs : Option (List (Hand t))) (s : List ℕ) → K σ → AllByRecursion Q (course R t σ (calls t b ms hs s))
    script_all σ [] None s k = tt
    script_all σ [] (Some hs) s k = (up σ escalation k, hands_all σ hs k)
    script_all σ (Move.drawn ∷ ms) hs [] k = tt
    script_all σ (Move.drawn ∷ ms) hs (i ∷ s) k = (up σ (entry (show_drawn b i)) k, script_all (step R t σ (entry (show_drawn b i))).0 ms hs s (keep-entry σ (show_drawn b i) k))
    script_all σ (Move.misread e r g ∷ ms) hs s k = (up σ (entry e) k, script_all (step R t σ (entry e)).0 ms hs s (keep-entry σ e k))
    script_all σ (Move.ask ∷ ms) hs s k = (up σ verdict k, script_all σ ms hs s k)

  -- a draw of a place is refused only where every draw is
  drawn_refusal : Fits t b → (σ : State A S) (i : ℕ) → 1 ≤ i → i ≤ t.cards → refusal_of t σ (entry (show_drawn b i)) ≡ cond (no_draws_left t σ) (Some NoDrawsLeft) None
  drawn_refusal fits σ i lo hi = ap (λ (o : Option Refusal). first_of o (cond (no_draws_left t σ) (Some NoDrawsLeft) None)) (drawn_shown t b fits i lo hi)

  module _ (law : Lawful R) (fits : Fits t b) (a : A) (untrue : R.claim a b.cards → ⊥) (j : ℕ) (x₀ : Account A S) where
    -- the account of the false claim
    abbrev at : State A S → Account A S
    at σ = get_or σ.accounts j x₀

    -- what every call keeps of it
    record Kept (σ : State A S) : Type 0 where
      inside : j < length σ.accounts
      same : (at σ).assorter ≡ a
      positive : 1 ≤ (at σ).peak
      few : σ.counted ≤ t.cards
      little : (at σ).tally ≤ sum_by (R.value a) (take σ.counted b.cards)

    entered_kept : (σ : State A S) (e : Reading) → Kept σ → Kept (answered R t σ (entry e)).0
    entered_kept σ e k =
        let is : get_or (map (after_entry R t.limit e) σ.accounts) j x₀ ≡ after_entry R t.limit e (at σ) = get_or-map (after_entry R t.limit e) σ.accounts j x₀ x₀ k.inside in
        record {
          inside = subst (λ n. j < n) (sym (length-map σ.accounts (after_entry R t.limit e))) k.inside;
          same = ap (λ (x : Account A S). x.assorter) is ∙ entry_assorter R t.limit e (at σ) ∙ k.same;
          positive = subst (λ (x : Account A S). 1 ≤ x.peak) (sym is) (le_trans k.positive (entry_rises R t.limit e (at σ)));
          few = k.few;
          little = subst (λ (x : Account A S). x.tally ≤ sum_by (R.value a) (take σ.counted b.cards)) (sym is) (subst (λ n. n ≤ sum_by (R.value a) (take σ.counted b.cards)) (sym (entry_tally R t.limit e (at σ))) k.little);
        }

    entry_kept : (σ : State A S) (e : Reading) → Kept σ → Kept (step R t σ (entry e)).0
    entry_kept σ e k = by_step R t (λ x. Kept x.0) σ (entry e) (λ _. entered_kept σ e k) (λ r. k)

    count_kept : (σ : State A S) (e : Reading) → Kept σ → (refusal_of t σ (hand_count e) ≡ None → shown_value R a e ≤ R.value a (get_or b.cards (e.place - 1) blank_card)) → Kept (step R t σ (hand_count e)).0
    count_kept σ e k honest = by_step R t (λ x. Kept x.0) σ (hand_count e) yes_case (λ r. k)
      where
        yes_case : refusal_of t σ (hand_count e) ≡ None → Kept (answered R t σ (hand_count e)).0
        yes_case ok =
            let next = counted_place R t σ e ok in
            let is : get_or (map (after_count R e) σ.accounts) j x₀ ≡ after_count R e (at σ) = get_or-map (after_count R e) σ.accounts j x₀ x₀ k.inside in
            let idx : e.place - 1 ≡ σ.counted = omega (arith, next.0) in
            let v : shown_value R a e ≤ R.value a (get_or b.cards σ.counted blank_card) = subst (λ n. shown_value R a e ≤ R.value a (get_or b.cards n blank_card)) idx (honest ok) in
            let vs : shown_value R (at σ).assorter e ≤ R.value a (get_or b.cards σ.counted blank_card) = subst (λ x. shown_value R x e ≤ R.value a (get_or b.cards σ.counted blank_card)) (sym k.same) v in
            let more = sum_by_more (R.value a) b.cards σ.counted blank_card (omega (arith, next.0, next.1, fits.number)) in
            record {
              inside = subst (λ n. j < n) (sym (length-map σ.accounts (after_count R e))) k.inside;
              same = ap (λ (x : Account A S). x.assorter) is ∙ k.same;
              positive = subst (λ (x : Account A S). 1 ≤ x.peak) (sym is) k.positive;
              few = omega (arith, next.0, next.1);
              little = subst (λ (x : Account A S). x.tally ≤ sum_by (R.value a) (take (σ.counted + 1) b.cards)) (sym is) (omega (arith, k.little, vs, more));
            }

    hand_kept : (σ : State A S) (h : Hand t) → Kept σ → Kept (step R t σ (hand_call t b h)).0
    hand_kept σ (Hand.see i) k = count_kept σ (show_card b i) k (λ _. le_refl _)
    hand_kept σ (Hand.miss i) k = count_kept σ (show_missing i) k (λ _. zero-le)
    hand_kept σ (Hand.misread e r g) k = subst (λ (x : After). Kept x.0) (sym (misread_count R t σ e r g)) k
    hand_kept σ Hand.finish k = by_step R t (λ x. Kept x.0) σ closing (λ _. k) (λ r. k)

    abbrev wealth : After → ℕ
    wealth x = (at x.0).wealth

    abbrev peak : After → ℕ
    peak x = (at x.0).peak

    entered_at : (σ : State A S) (e : Reading) → Kept σ → at (answered R t σ (entry e)).0 ≡ after_entry R t.limit e (at σ)
    entered_at σ e k = get_or-map (after_entry R t.limit e) σ.accounts j x₀ x₀ k.inside

    drawn_fair : (σ : State A S) → Kept σ → sum_by (λ i. wealth (step R t σ (entry (show_drawn b i)))) (places t.cards) ≤ t.cards * (at σ).wealth
    drawn_fair σ k = go (no_draws_left t σ) refl
      where
        go : (v : Bool) → no_draws_left t σ ≡ v → sum_by (λ i. wealth (step R t σ (entry (show_drawn b i)))) (places t.cards) ≤ t.cards * (at σ).wealth
        go true e =
            le_trans
            (sum_places_le _ (λ i. (at σ).wealth) t.cards (λ i lo hi. let r : refusal_of t σ (entry (show_drawn b i)) ≡ Some NoDrawsLeft = drawn_refusal fits σ i lo hi ∙ ap (λ (v : Bool). cond v (Some NoDrawsLeft) None) e in by_step R t (λ x. wealth x ≤ (at σ).wealth) σ (entry (show_drawn b i)) (λ z. absurd (some_not_none NoDrawsLeft (sym r ∙ z))) (λ _. le_refl _)))
            (le_of_eq (sum_const (at σ).wealth (places t.cards) ∙ ap (λ n. n * (at σ).wealth) (length_places t.cards)))
        go false e =
            le_trans
            (sum_places_le _ (λ i. (after_entry R t.limit (show_drawn b i) (at σ)).wealth) t.cards (λ i lo hi. let r : refusal_of t σ (entry (show_drawn b i)) ≡ None = drawn_refusal fits σ i lo hi ∙ ap (λ (v : Bool). cond v (Some NoDrawsLeft) None) e in le_of_eq (ap wealth (taken_step R t σ (entry (show_drawn b i)) r) ∙ ap (λ (x : Account A S). x.wealth) (entered_at σ (show_drawn b i) k))))
            (entry_fair R law t b fits a untrue t.limit (at σ) k.same)

    entry_peak : (σ : State A S) (e : Reading) → Kept σ → peak (step R t σ (entry e)) ≤ max (at σ).peak (wealth (step R t σ (entry e)))
    entry_peak σ e k = by_step R t (λ x. peak x ≤ max (at σ).peak (wealth x)) σ (entry e) (λ _. subst (λ (x : Account A S). x.peak ≤ max (at σ).peak x.wealth) (sym (entered_at σ e k)) (entry_highest R t.limit e (at σ))) (λ r. le-max_left (at σ).peak (at σ).wealth)

    count_same : (σ : State A S) (e : Reading) → Kept σ → (wealth (step R t σ (hand_count e)) ≡ (at σ).wealth) × (peak (step R t σ (hand_count e)) ≡ (at σ).peak)
    count_same σ e k =
        let is : get_or (map (after_count R e) σ.accounts) j x₀ ≡ after_count R e (at σ) = get_or-map (after_count R e) σ.accounts j x₀ x₀ k.inside in
        by_step R t (λ x. (wealth x ≡ (at σ).wealth) × (peak x ≡ (at σ).peak)) σ (hand_count e) (λ _. (ap (λ (x : Account A S). x.wealth) is, ap (λ (x : Account A S). x.peak) is)) (λ r. (refl, refl))

    -- counts and closings keep wealth and peak
    hand_same : (σ : State A S) (h : Hand t) → Kept σ → (wealth (step R t σ (hand_call t b h)) ≡ (at σ).wealth) × (peak (step R t σ (hand_call t b h)) ≡ (at σ).peak)
    hand_same σ (Hand.see i) k = count_same σ (show_card b i) k
    hand_same σ (Hand.miss i) k = count_same σ (show_missing i) k
    hand_same σ (Hand.misread e r g) k = count_same σ e k
    hand_same σ Hand.finish k = by_step R t (λ x. (wealth x ≡ (at σ).wealth) × (peak x ≡ (at σ).peak)) σ closing (λ _. (refl, refl)) (λ r. (refl, refl))

    chain_fair : (σ : State A S) (hs : List (Hand t)) (n : ℕ) (ans : Answer) → Kept σ → Fair t.cards wealth peak (σ, ans) (chain σ (map (hand_call t b) hs) n)
    chain_fair σ [] n ans k = tt
    chain_fair σ (h ∷ hs) n ans k =
        let s = hand_same σ h k in
        (s.0, s.1, chain_fair (step R t σ (hand_call t b h)).0 hs n _ (hand_kept σ h k))

    tree_fair : (σ : State A S) (ms : List (Move t)) (hs : Option (List (Hand t))) (ans : Answer) → Kept σ → Fair t.cards wealth peak (σ, ans) (tree σ ms hs)
    tree_fair σ [] None ans k = tt
    tree_fair σ [] (Some hs) ans k = (refl, refl, chain_fair σ hs 0 taken k)
    tree_fair σ (Move.drawn ∷ ms) hs ans k = (
      record { on_average = drawn_fair σ k; highest = λ i. entry_peak σ (show_drawn b i) k },
      λ i. tree_fair (step R t σ (entry (show_drawn b i))).0 ms hs _ (entry_kept σ (show_drawn b i) k),
    )
    tree_fair σ (Move.misread e r g ∷ ms) hs ans k =
        let e₀ = ap (λ (x : After). x.0) (misread_entry R t σ e r g) in
        (ap (λ (x : State A S). (at x).wealth) e₀, ap (λ (x : State A S). (at x).peak) e₀, tree_fair (step R t σ (entry e)).0 ms hs _ (subst Kept (sym e₀) k))
    tree_fair σ (Move.ask ∷ ms) hs ans k = (refl, refl, tree_fair (step R t σ verdict).0 ms hs _ k)

    -- an event that shows the account at a peak of 10^12 / p is counted at most p × N^n / 1,000 times
    bounded : (σ : State A S) (ms : List (Move t)) (hs : Option (List (Hand t))) (p : ℕ) (E : List ℕ → Type 0) → Kept σ → (at σ).wealth ≡ 1000000000 → (at σ).peak ≡ 1000000000 → ((s : List ℕ) → E s → Meets (λ x. 1000000000000 ≤ p * peak x) (tree σ ms hs) s) → AtMostIn p 1000 (sequences t.cards (draws_in ms)) E
    bounded σ ms hs p E k w₀ p₀ to m c =
        ⊎_elim
        (λ small.
        let M : ℕ = length (sequences t.cards (draws_in ms)) in
        let big : 1000000000000 * m ≤ p * (at σ).wealth * M = event_bounded t.cards p 1000000000000 wealth peak (σ, taken) (tree σ ms hs) E (tree_fair σ ms hs taken k) (omega (arith, p₀, ap (λ n. p * n) p₀)) to m c in
        let e : p * (at σ).wealth * M ≡ p * M * 1000000000 = ap (λ w. p * w * M) w₀ ∙ mul_right_comm p 1000000000 M in
        omega (arith, big, e))
        (λ large. le_trans (mul-le-mul_left 1000 (counted_le c)) (mul-le-mul_right (length (sequences t.cards (draws_in ms))) large))
        (cases_lt p 1000)

    -- where the contest's risk is low, so is the account's
    low_risk : (k p : ℕ) → InPart t.assertions k j → (τ : State A S) → Kept τ → get_or (risks t τ) k 0 ≤ p → 1000000000000 ≤ p * (at τ).peak
    low_risk k p i τ kept low =
        (risk_pencil (at τ).peak kept.positive p).0
        (le_trans (part_worst t.assertions τ.accounts k j x₀ i kept.inside) (subst (λ n. n ≤ p) (ListN.get_or-map worst_risk (parts t.assertions τ.accounts) k []) low))

    -- a hand count never upholds the contest
    not_upheld : (k : ℕ) → InPart t.assertions k j → (τ : State A S) → Kept τ → refusal_of t τ closing ≡ None → get_or (map (all_above R t.cards) (parts t.assertions τ.accounts)) k false ≡ true → ⊥
    not_upheld k i τ kept ok up =
        let above = part_above R t.cards t.assertions τ.accounts k j x₀ i kept.inside up in
        let all : τ.counted ≡ t.cards = omega (arith, closed_all R t τ ok, kept.few) in
        let sum : sum_by (R.value a) (take τ.counted b.cards) ≤ R.half a * t.cards = subst (λ cs. sum_by (R.value a) cs ≤ R.half a * t.cards) (sym (take_all τ.counted b.cards (omega (arith, fits.number)))) (cards_sum R law t b fits a untrue) in
        let above' : R.half a * t.cards < (at τ).tally = subst (λ x. R.half x * t.cards < (at τ).tally) kept.same above in
        omega (arith, above', kept.little, sum)

confirms_all : (v u : Bool) → cond v Confirm (cond u FullHandCount Continue) ≡ Confirm → v ≡ true
confirms_all true u c = refl
confirms_all false true c = cc
confirms_all false false c = cc

first_in : {X : Type 0} (xs : List X) (n : ℕ) → n < length xs → X
first_in [] n h = absurd (omega arith)
first_in (x ∷ xs) n h = x

module _ {A S : Type 0} (R : Rules A S) (t : Terms) (law : Lawful R) (σ : State A S) (o : Opened σ) (b : CastCards) (fits : Fits t b) where
  -- a false claim of contest k, with the index of its account
  record False (k : ℕ) : Type 0 where
    j : ℕ
    part : InPart t.assertions k j
    inside : j < length σ.accounts
    first : Account A S
    untrue : R.claim (get_or σ.accounts j first).assorter b.cards → ⊥

  false_at : (k : ℕ) → Contradicted R t σ b k → False k
  false_at k bad =
      let r = part_any (λ x. R.claim x.assorter b.cards → ⊥) t.assertions σ.accounts k bad in
      let x₀ = first_in σ.accounts r.0 r.2 in
      record { j = r.0; part = r.1; inside = r.2; first = x₀; untrue = r.3 x₀ }

  -- an account just opened
  fresh_at : (k : ℕ) (f : False k) → get_or σ.accounts f.j f.first ≡ fresh_account (get_or σ.accounts f.j f.first).assorter (get_or σ.accounts f.j f.first).state
  fresh_at k f = All-get_or (λ x. x ≡ fresh_account x.assorter x.state) σ.accounts f.j f.first f.inside o.fresh

  abbrev Keeps : (k : ℕ) → False k → State A S → Type 0
  Keeps k f τ = Kept R t b law fits (get_or σ.accounts f.j f.first).assorter f.untrue f.j f.first τ

  start : (k : ℕ) (f : False k) → Keeps k f σ
  start k f =
      let g = fresh_at k f in
      record {
        inside = f.inside;
        same = refl;
        positive = omega (arith, ap (λ (x : Account A S). x.peak) g);
        few = omega (arith, o.uncounted);
        little = omega (arith, ap (λ (x : Account A S). x.tally) g);
      }

  share_bounded : (k : ℕ) (f : False k) (ms : List (Move t)) (hs : Option (List (Hand t))) (p : ℕ) (E : List ℕ → Type 0) → ((s : List ℕ) → E s → Meets (λ x. 1000000000000 ≤ p * (get_or x.0.accounts f.j f.first).peak) (tree R t b σ ms hs) s) → AtMostIn p 1000 (sequences t.cards (draws_in ms)) E
  share_bounded k f ms hs p E to =
      let g = fresh_at k f in
      bounded R t b law fits (get_or σ.accounts f.j f.first).assorter f.untrue f.j f.first σ ms hs p E (start k f) (ap (λ (x : Account A S). x.wealth) g) (ap (λ (x : Account A S). x.peak) g) to

  keeps_entry : (k : ℕ) (f : False k) (τ : State A S) (e : Reading) → Keeps k f τ → Keeps k f (step R t τ (entry e)).0
  keeps_entry k f = entry_kept R t b law fits _ f.untrue f.j f.first

  keeps_hand : (k : ℕ) (f : False k) (τ : State A S) (h : Hand t) → Keeps k f τ → Keeps k f (step R t τ (hand_call t b h)).0
  keeps_hand k f = hand_kept R t b law fits _ f.untrue f.j f.first

  pub measured : (k : ℕ) → Contradicted R t σ b k → (p : ℕ) → AtMostBring R t σ b p 1000 (LowRisk R t σ k p)
  measured k bad p ms hs =
      let f = false_at k bad in
      share_bounded k f ms hs p _ (λ s met. tree_meets R t b (Keeps k f) (keeps_entry k f) (keeps_hand k f) (LowRisk R t σ k p) _ (λ τ c' kτ kn q. low_risk R t b law fits _ f.untrue f.j f.first k p f.part (step R t τ c').0 kn q.1) σ ms hs s (start k f) met)

  -- what every call keeps of every false claim
  abbrev KeepsAll : State A S → Type 0
  KeepsAll τ = (k : ℕ) (f : False k) → Keeps k f τ

  -- a wrong answer is a confirmation
  wrong : (k : ℕ) (f : False k) (τ : State A S) (c : Call) → KeepsAll τ → WrongAnswer R t σ b (step R t τ c) → 1000000000000 ≤ t.limit * (get_or (step R t τ c).0.accounts f.j f.first).peak
  wrong k f τ (entry e) ks w = absurd (by_step R t (λ x. WrongAnswer R t σ b x → ⊥) τ (entry e) (λ _ m. m) (λ _ m. m) w)
  wrong k f τ verdict ks w =
      let all = confirms_all (all_settled t.limit τ.accounts) (eqb τ.drawn t.draws) w in
      subst (λ n. 1000000000000 ≤ n) (mul_comm _ t.limit) (settled_at t.limit τ.accounts f.j f.first (ks k f).inside all)
  wrong k f τ escalation ks w = elim w [ ]
  wrong k f τ (hand_count e) ks w = absurd (by_step R t (λ x. WrongAnswer R t σ b x → ⊥) τ (hand_count e) (λ _ m. m) (λ _ m. m) w)
  wrong k f τ closing ks w = absurd (by_step R t (λ x. WrongAnswer R t σ b x → ⊥) τ closing (λ ok u. let g = false_at u.0 u.1 in not_upheld R t b law fits _ g.untrue g.j g.first u.0 g.part τ (ks u.0 g) ok u.2) (λ _ m. m) w)

  pub limited : (k : ℕ) → Contradicted R t σ b k → AtMostBring R t σ b t.limit 1000 (WrongAnswer R t σ b)
  limited k bad ms hs =
      let f = false_at k bad in
      share_bounded k f ms hs t.limit _ (λ s met. tree_meets R t b KeepsAll (λ τ e ks k' f'. keeps_entry k' f' τ e (ks k' f')) (λ τ h ks k' f'. keeps_hand k' f' τ h (ks k' f')) (WrongAnswer R t σ b) _ (λ τ c' kτ kn q. wrong k f τ c' kτ q) σ ms hs s (λ k' f'. start k' f') met)

  truly : (τ : State A S) (c : Call) → KeepsAll τ → UpholdsTruly R t σ b (step R t τ c)
  truly τ (entry e) ks = by_step R t (UpholdsTruly R t σ b) τ (entry e) (λ _. tt) (λ _. tt)
  truly τ verdict ks = tt
  truly τ escalation ks = tt
  truly τ (hand_count e) ks = by_step R t (UpholdsTruly R t σ b) τ (hand_count e) (λ _. tt) (λ _. tt)
  truly τ closing ks =
      by_step R t (UpholdsTruly R t σ b) τ closing
      (λ ok k u.
      ⊎_elim
      (λ all. all)
      (λ bad. let g = false_at k bad in absurd (not_upheld R t b law fits _ g.untrue g.j g.first k g.part τ (ks k g) ok u))
      (all_or_any (λ x. R.claim x.assorter b.cards) (λ x. claim_or_not R law x.assorter b.cards) (accounts_of R t σ k)))
      (λ _. tt)

  pub all_truly : (ms : List (Move t)) (hs : Option (List (Hand t))) (s : List ℕ) → AllByRecursion (UpholdsTruly R t σ b) (course R t σ (calls t b ms hs s))
  all_truly ms hs s = script_all R t b KeepsAll (λ τ e ks k' f'. keeps_entry k' f' τ e (ks k' f')) (λ τ h ks k' f'. keeps_hand k' f' τ h (ks k' f')) (UpholdsTruly R t σ b) truly σ ms hs s (λ k' f'. start k' f')

module _ {A S : Type 0} (R : Rules A S) (law : Lawful R) where
  pub measures_risk : MeasuresRisk R
  measures_risk t σ o b fits = measured R t law σ o b fits

  pub limits_risk : LimitsRisk R
  limits_risk t σ o b fits = limited R t law σ o b fits

  pub never_upholds_wrongly : NeverUpholdsWrongly R
  never_upholds_wrongly t σ o b fits ms hs s = all_truly R t law σ o b fits ms hs s
