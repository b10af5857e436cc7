-- A hand count of all places decides each contest.
use Rattle.std.proofs.Common.{◌≡◌, ℕ, zero, suc, ◌+◌, ◌-◌, ◌*◌, ◌<◌, ◌≤◌, Bool, true, false, cond, eqb, ltb, List, [], ◌∷◌, ◌++◌, map, length, get_or, take, drop, Some, None, sum_by, Option, sym, refl, ap, ◌∙◌, subst, le_trans, le_of_eq, le_refl, arith, take_all}
use Rattle.std.specs.List.{AllZip, AllByRecursion}
use Rattle.std.proofs.lemmas.List.Sums.{sum_by-cons}
use Rattle.std.proofs.lemmas.Bool.{and_from, and_parts, cond-false, eq-eqb, le-ltb, lt-ltb, ltb-true}
use Rattle.refusal.specs.declared.Refusal.{Refusal}
use Rattle.refusal.specs.declared.Refusal.TheVariants.{NotTheNextPlace}
use Rattle.chance.specs.Sequences.{places}
use Rattle.chance.proofs.Counts.{length_places}
use Rattle.betting.specs.Limits.{last_tally}
use Rattle.betting.specs.Accounts.{Account, fresh_account}
use Rattle.course.specs.Terms.{Terms, Reading, blank_card}
use Rattle.course.specs.Course.{Rules, State, Call, Answer, after_count, after_entry, all_above, first_of, parts, refusal_of, shown_value, step}
use Rattle.course.specs.Course.Call.{entry, verdict, escalation, hand_count, closing}
use Rattle.course.specs.Course.Answer.{upheld}
use Rattle.course.specs.Scripts.{CastCards, show_card, show_drawn, show_missing}
use Rattle.course.specs.Bounds.{Fits, Opened}
use Rattle.course.specs.Laws.{BeforeEscalation, ClaimsHold, ClosesBy, CountsDecide, counts_to, left_by}
use Rattle.course.proofs.Steps.{by_cond, by_step, drawn_shown, taken_step}
use Rattle.course.proofs.Fairness.{entry_assorter, entry_tally, sum_const, sum_le, sum_places}
use Rattle.course.proofs.Rules.{Lawful}

-- two lists whose elements are related one by one
module _ {X : Type 0} where
  each_map : (P Q : X → X → Type 0) (f : X → X) → ((x y : X) → P x y → Q x (f y)) → (xs ys : List X) → AllZip P xs ys → AllZip Q xs (map f ys)
  each_map P Q f to [] [] h = tt
  each_map P Q f to [] (y ∷ ys) h = elim h [ ]
  each_map P Q f to (x ∷ xs) [] h = elim h [ ]
  each_map P Q f to (x ∷ xs) (y ∷ ys) h = (to x y h.0, each_map P Q f to xs ys h.1)

  module _ (P : X → X → Type 0) where
    each_same : (xs : List X) → AllByRecursion (λ x. P x x) xs → AllZip P xs xs
    each_same [] h = tt
    each_same (x ∷ xs) h = (h.0, each_same xs h.1)

    each_take : (n : ℕ) (xs ys : List X) → AllZip P xs ys → AllZip P (take n xs) (take n ys)
    each_take zero [] [] h = tt
    each_take zero [] (y ∷ ys) h = elim h [ ]
    each_take zero (x ∷ xs) [] h = elim h [ ]
    each_take zero (x ∷ xs) (y ∷ ys) h = tt
    each_take (suc n) [] [] h = tt
    each_take (suc n) [] (y ∷ ys) h = elim h [ ]
    each_take (suc n) (x ∷ xs) [] h = elim h [ ]
    each_take (suc n) (x ∷ xs) (y ∷ ys) h = (h.0, each_take n xs ys h.1)

    each_drop : (n : ℕ) (xs ys : List X) → AllZip P xs ys → AllZip P (drop n xs) (drop n ys)
    each_drop zero xs ys h = h
    each_drop (suc n) [] [] h = tt
    each_drop (suc n) [] (y ∷ ys) h = elim h [ ]
    each_drop (suc n) (x ∷ xs) [] h = elim h [ ]
    each_drop (suc n) (x ∷ xs) (y ∷ ys) h = each_drop n xs ys h.1

    -- a test of each contest's part, by what it tells of related parts
    part_decided : (f : List X → Bool) (D : Bool → List X → Type 0) → ((xs ys : List X) → AllZip P xs ys → D (f ys) xs) → (ns : List ℕ) (xs ys : List X) (k : ℕ) → k < length ns → AllZip P xs ys → D (get_or (map f (parts ns ys)) k false) (get_or (parts ns xs) k [])
    part_decided f D to [] xs ys k h e = absurd (omega arith)
    part_decided f D to (n ∷ ns) xs ys zero h e = to (take n xs) (take n ys) (each_take n xs ys e)
    part_decided f D to (n ∷ ns) xs ys (suc k) h e = part_decided f D to ns (drop n xs) (drop n ys) k (omega arith) (each_drop n xs ys e)

module _ {A S : Type 0} (R : Rules A S) (t : Terms) where
  left_append : (σ : State A S) (cs ds : List Call) → left_by R t σ (cs ++ ds) ≡ left_by R t (left_by R t σ cs) ds
  left_append σ [] ds = refl
  left_append σ (c ∷ cs) ds = left_append (step R t σ c).0 cs ds

  module _ (b : CastCards) where
    -- the values of the first n places, as they are shown
    abbrev total : A → ℕ → ℕ
    total a n = sum_by (λ i. shown_value R a (show_drawn b i)) (places n)

    abbrev TalliedTo : ℕ → Account A S → Account A S → Type 0
    TalliedTo n x y = (y.assorter ≡ x.assorter) × (y.tally ≡ total x.assorter n)

    -- the state after n counts, by the accounts as they were opened
    record CountedTo (xs : List (Account A S)) (n : ℕ) (τ : State A S) : Type 0 where
      number : τ.counted ≡ n
      tallies : AllZip (TalliedTo n) xs τ.accounts

    -- an entry or a verdict changes neither
    before_step : (xs : List (Account A S)) (σ : State A S) (c : Call) → BeforeEscalation c → CountedTo xs 0 σ → CountedTo xs 0 (step R t σ c).0
    before_step xs σ (entry e) h k =
        by_step R t (λ y. CountedTo xs 0 y.0) σ (entry e)
        (λ _. record {
          number = k.number;
          tallies = each_map (TalliedTo 0) (TalliedTo 0) (after_entry R t.limit e) (λ x y r. (entry_assorter R t.limit e y ∙ r.0, entry_tally R t.limit e y ∙ r.1)) xs σ.accounts k.tallies;
        })
        (λ r. k)
    before_step xs σ verdict h k = k
    before_step xs σ escalation h k = elim h [ ]
    before_step xs σ (hand_count e) h k = elim h [ ]
    before_step xs σ closing h k = elim h [ ]

    before_run : (xs : List (Account A S)) (σ : State A S) (cs : List Call) → AllByRecursion BeforeEscalation cs → CountedTo xs 0 σ → CountedTo xs 0 (left_by R t σ cs)
    before_run xs σ [] h k = k
    before_run xs σ (c ∷ cs) h k = before_run xs (step R t σ c).0 cs h.1 (before_step xs σ c h.0 k)

    module _ (law : Lawful R) (fits : Fits t b) (few : t.cards ≤ 65535) where
      shown_low : (a : A) (e : Reading) → shown_value R a e ≤ 1000
      shown_low a e = by_cond (λ n. n ≤ 1000) (eqb e.found 0) (λ _. omega arith) (λ _. law.low_value a e.card)

      total_low : (a : A) (n : ℕ) → n ≤ t.cards → total a n ≤ last_tally
      total_low a n h =
          let all = sum_le (λ i. shown_value R a (show_drawn b i)) (λ i. 1000) (places n) (λ i. shown_low a (show_drawn b i)) in
          let c = sum_const 1000 (places n) in
          omega (arith, length_places n)

      count_refusal : (σ : State A S) (n : ℕ) → n < t.cards → σ.counted ≡ n → refusal_of t σ (hand_count (show_drawn b (suc n))) ≡ None
      count_refusal σ n h e =
          let clean = drawn_shown t b fits (suc n) (omega arith) h in
          let place : (show_drawn b (suc n)).place ≡ suc n = by_cond (λ (s : Reading). s.place ≡ suc n) (b.missing (suc n)) (λ _. refl) (λ _. refl) in
          let next : eqb (show_drawn b (suc n)).place (σ.counted + 1) ≡ true = eq-eqb _ _ (omega (arith, place)) in
          ap (λ (o : Option Refusal). first_of o (cond (eqb (show_drawn b (suc n)).place (σ.counted + 1)) None (Some NotTheNextPlace))) clean ∙ ap (λ (v : Bool). cond v None (Some NotTheNextPlace)) next

      count_step : (xs : List (Account A S)) (σ : State A S) (n : ℕ) → n < t.cards → CountedTo xs n σ → CountedTo xs (suc n) (step R t σ (hand_count (show_drawn b (suc n)))).0
      count_step xs σ n h k =
          let e : Reading = show_drawn b (suc n) in
          let one : (x y : Account A S) → TalliedTo n x y → TalliedTo (suc n) x (after_count R e y) =
          λ x y r.
          let more = sum_by-cons (λ i. shown_value R x.assorter (show_drawn b i)) (suc n) (places n) in
          let low = total_low x.assorter (suc n) h in
          let same : shown_value R y.assorter e ≡ shown_value R x.assorter e = ap (λ a. shown_value R a e) r.0 in
          (r.0, omega (arith, r.1, same, more, low)) in
          subst (λ (y : State A S × Answer). CountedTo xs (suc n) y.0) (sym (taken_step R t σ (hand_count e) (count_refusal σ n h k.number)))
          (record { number = omega (arith, k.number); tallies = each_map (TalliedTo n) (TalliedTo (suc n)) (after_count R e) one xs σ.accounts k.tallies })

      count_run : (xs : List (Account A S)) (σ : State A S) (n : ℕ) → n ≤ t.cards → CountedTo xs 0 σ → CountedTo xs n (left_by R t σ (counts_to b n))
      count_run xs σ zero h k = k
      count_run xs σ (suc n) h k =
          subst (CountedTo xs (suc n)) (sym (left_append σ (counts_to b n) (hand_count (show_drawn b (suc n)) ∷ [])))
          (count_step xs (left_by R t σ (counts_to b n)) n h (count_run xs σ n (omega arith) k))

      -- the values shown come to no more than the cards', and with no card missing to as much
      cards_total : (a : A) → sum_by (λ i. R.value a (get_or b.cards (i - 1) blank_card)) (places t.cards) ≡ sum_by (R.value a) b.cards
      cards_total a =
          sum_places (R.value a) blank_card b.cards t.cards (le_of_eq (sym fits.number))
          ∙ ap (sum_by (R.value a)) (take_all t.cards b.cards (le_of_eq fits.number))

      total_le : (a : A) → total a t.cards ≤ sum_by (R.value a) b.cards
      total_le a =
          le_trans
          (sum_le _ (λ i. R.value a (get_or b.cards (i - 1) blank_card)) (places t.cards) (λ i. by_cond (λ (e : Reading). shown_value R a e ≤ R.value a (get_or b.cards (i - 1) blank_card)) (b.missing i) (λ _. omega arith) (λ _. le_refl _)))
          (le_of_eq (cards_total a))

      total_ge : ((i : ℕ) → b.missing i ≡ false) → (a : A) → sum_by (R.value a) b.cards ≤ total a t.cards
      total_ge found a =
          le_trans
          (le_of_eq (sym (cards_total a)))
          (sum_le (λ i. R.value a (get_or b.cards (i - 1) blank_card)) _ (places t.cards) (λ i. le_of_eq (sym (ap (shown_value R a) (cond-false (b.missing i) (show_missing i) (show_card b i) (found i))))))

      -- one contest's part
      only_true : (xs ys : List (Account A S)) → AllZip (TalliedTo t.cards) xs ys → all_above R t.cards ys ≡ true → AllByRecursion (λ x. R.claim x.assorter b.cards) xs
      only_true [] [] h e = tt
      only_true [] (y ∷ ys) h e = elim h [ ]
      only_true (x ∷ xs) [] h e = elim h [ ]
      only_true (x ∷ xs) (y ∷ ys) h e =
          let both = and_parts (ltb (R.half y.assorter * t.cards) y.tally) (all_above R t.cards ys) e in
          let above : R.half x.assorter * length b.cards < y.tally = subst (λ a. R.half a * length b.cards < y.tally) h.0.0 (subst (λ n. R.half y.assorter * n < y.tally) (sym fits.number) (ltb-true _ _ both.0)) in
          ((law.exact x.assorter b.cards).1 (omega (arith, above, h.0.1, total_le x.assorter)), only_true xs ys h.1 both.1)

      all_true : ((i : ℕ) → b.missing i ≡ false) → (xs ys : List (Account A S)) → AllZip (TalliedTo t.cards) xs ys → AllByRecursion (λ x. R.claim x.assorter b.cards) xs → all_above R t.cards ys ≡ true
      all_true found [] [] h c = refl
      all_true found [] (y ∷ ys) h c = elim h [ ]
      all_true found (x ∷ xs) [] h c = elim h [ ]
      all_true found (x ∷ xs) (y ∷ ys) h c =
          let sums : R.half x.assorter * length b.cards < sum_by (R.value x.assorter) b.cards = (law.exact x.assorter b.cards).0 c.0 in
          let above : R.half x.assorter * length b.cards < y.tally = omega (arith, sums, h.0.1, total_ge found x.assorter) in
          let half : R.half y.assorter * t.cards < y.tally = subst (λ n. R.half y.assorter * n < y.tally) fits.number (subst (λ a. R.half a * length b.cards < y.tally) (sym h.0.0) above) in
          and_from (ltb (R.half y.assorter * t.cards) y.tally) (all_above R t.cards ys) (lt-ltb _ _ half) (all_true found xs ys h.1 c.1)

      fresh_tallies : (xs : List (Account A S)) → AllByRecursion (λ x. x ≡ fresh_account x.assorter x.state) xs → AllByRecursion (λ x. TalliedTo 0 x x) xs
      fresh_tallies [] h = tt
      fresh_tallies (x ∷ xs) h = ((refl, ap (λ (y : Account A S). y.tally) h.0), fresh_tallies xs h.1)

      closes_rightly : (σ : State A S) → Opened σ → (before : List Call) → AllByRecursion BeforeEscalation before → ClosesBy R t (ClaimsHold R t σ b) σ before b
      closes_rightly σ o before h =
          let xs = σ.accounts in
          let start : CountedTo xs 0 σ = record { number = o.uncounted; tallies = each_same (TalliedTo 0) xs (fresh_tallies xs o.fresh) } in
          let entered : CountedTo xs 0 (left_by R t σ before) = before_run xs σ before h start in
          let τ : State A S = left_by R t (left_by R t σ before) (counts_to b t.cards) in
          let all : CountedTo xs t.cards τ = count_run xs (left_by R t σ before) t.cards (le_refl _) entered in
          let us : List Bool = map (all_above R t.cards) (parts t.assertions τ.accounts) in
          let ended : (step R t τ closing).1 ≡ upheld us = ap (λ (y : State A S × Answer). y.1) (taken_step R t τ closing (cond-false _ _ _ (le-ltb τ.counted t.cards (omega (arith, all.number))))) in
          let whole : left_by R t σ (before ++ (escalation ∷ counts_to b t.cards)) ≡ τ = left_append σ before (escalation ∷ counts_to b t.cards) in
          let only : (k : ℕ) → k < length t.assertions → get_or us k false ≡ true → ClaimsHold R t σ b k =
          λ k lt. part_decided (TalliedTo t.cards) (all_above R t.cards) (λ v ys. v ≡ true → AllByRecursion (λ x. R.claim x.assorter b.cards) ys) only_true t.assertions xs τ.accounts k lt all.tallies in
          record {
            outcomes = us;
            answer = ap (λ (y : State A S). (step R t y closing).1) whole ∙ ended;
            only_if = only;
            just_when = λ found k lt. (
              only k lt,
              part_decided (TalliedTo t.cards) (all_above R t.cards) (λ v ys. AllByRecursion (λ x. R.claim x.assorter b.cards) ys → v ≡ true) (all_true found) t.assertions xs τ.accounts k lt all.tallies,
            );
          }

pub counts_decide : {A S : Type 0} (R : Rules A S) → Lawful R → CountsDecide R
counts_decide R law t σ o few before h b fits = closes_rightly R t b law fits few σ o before h
