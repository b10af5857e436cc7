-- A call is answered or refused, and what each refusal tells.
use Rattle.std.proofs.Common.{◌≡◌, ℕ, zero, suc, ◌+◌, ◌-◌, ◌^◌, ◌≤◌, Bool, true, false, cond, eqb, ltb, ◌⊎◌, List, [], ◌∷◌, get_or, replicate, Some, None, Option, refl, ap, inl, inr, arith, pow_pos}
use Rattle.std.proofs.ByRecursion.{All-get_or}
use Rattle.std.proofs.lemmas.Bool.{and_from, eqb-true, lt-ltb, ltb-false}
use Rattle.std.proofs.lemmas.Bool.Decides.{nat_tests}
use Rattle.refusal.specs.declared.Refusal.{Refusal}
use Rattle.refusal.specs.declared.Refusal.TheVariants.{BadPlace, BadFound, BadMarks, NoDrawsLeft, NotTheNextPlace, CountUnfinished}
use Rattle.course.specs.Terms.{Terms, Reading, bad_place, bad_marks, blank, blank_card, marks_fit, shown_refusal}
use Rattle.course.specs.Course.{Rules, State, Call, Answer, answered, first_of, no_draws_left, refusal_of, step, unless_refused}
use Rattle.course.specs.Course.Call.{entry, hand_count, closing}
use Rattle.course.specs.Course.Answer.{refused}
use Rattle.course.specs.Scripts.{CastCards, show_card, show_drawn, show_missing}
use Rattle.course.specs.Bounds.{Fits}

pub some_not_none : {X : Type 0} (x : X) → Some x ≡ None → ⊥
some_not_none x e = let z : ◌≡◌ {A = ℕ} 0 1 = cc in omega arith

pub none_unless : (b : Bool) (r : Refusal) → cond b (Some r) None ≡ None → b ≡ false
none_unless true r e = absurd (some_not_none r e)
none_unless false r e = refl

pub none_if : (b : Bool) (r : Refusal) → cond b None (Some r) ≡ None → b ≡ true
none_if true r e = refl
none_if false r e = absurd (some_not_none r e)

pub first_none : (a b : Option Refusal) → first_of a b ≡ None → (a ≡ None) × (b ≡ None)
first_none (Some r) b e = absurd (some_not_none r e)
first_none None b e = (refl, e)

-- a later test is reached only where the first fails
pub later_none : (b : Bool) (r : Refusal) (o : Option Refusal) → cond b (Some r) o ≡ None → (b ≡ false) × (o ≡ None)
later_none true r o e = absurd (some_not_none r e)
later_none false r o e = (refl, e)

-- what is shown at no place of the audit is refused
pub shown_place : (t : Terms) (e : Reading) → shown_refusal t e ≡ None → (1 ≤ e.place) × (e.place ≤ t.cards)
shown_place t e ok =
    let place : bad_place t e ≡ false = (later_none (bad_place t e) BadPlace (cond (ltb 1 e.found) (Some BadFound) (cond (bad_marks t e) (Some BadMarks) None)) ok).0 in
    (grind (arith, nat_tests), grind (arith, nat_tests))

pub nothing_refused : (t : Terms) (e : Reading) → 1 ≤ e.place → e.place ≤ t.cards → marks_fit t.candidates e.card.marks ≡ true → (e.found ≡ 1) ⊎ ((e.found ≡ 0) × (blank e.card.marks ≡ true)) → shown_refusal t e ≡ None
nothing_refused t e lo hi legal how =
    let place : bad_place t e ≡ false = grind (arith, nat_tests) in
    let byte : ltb 1 e.found ≡ false = grind (arith, nat_tests) in
    let marks : bad_marks t e ≡ false = grind (arith, nat_tests) in
    simp (place, byte, marks)

-- a card with no marks is marked for candidates alone
pub blank_fits : (cs : List ℕ) (n : ℕ) → marks_fit cs (replicate n 0) ≡ true
blank_fits [] zero = refl
blank_fits [] (suc n) = blank_fits [] n
blank_fits (c ∷ cs) zero = refl
blank_fits (c ∷ cs) (suc n) = and_from _ _ (lt-ltb 0 (2 ^ c) (pow_pos c)) (blank_fits cs n)

pub by_cond : {X : Type 0} (Q : X → Type 0) (v : Bool) {x y : X} → (v ≡ true → Q x) → (v ≡ false → Q y) → Q (cond v x y)
by_cond Q true h k = h refl
by_cond Q false h k = k refl

by_refusal : {A S : Type 0} (Q : State A S × Answer → Type 0) (o : Option Refusal) (σ : State A S) (x : State A S × Answer) → (o ≡ None → Q x) → ((r : Refusal) → Q (σ, refused r)) → Q (unless_refused o σ x)
by_refusal Q (Some r) σ x yes_case no-case = no-case r
by_refusal Q None σ x yes_case no-case = yes_case refl

module _ {A S : Type 0} (R : Rules A S) (t : Terms) where
  -- a step is an answer, or a refusal that leaves the state
  pub by_step : (Q : State A S × Answer → Type 0) (σ : State A S) (c : Call) → (refusal_of t σ c ≡ None → Q (answered R t σ c)) → ((r : Refusal) → Q (σ, refused r)) → Q (step R t σ c)
  by_step Q σ c = by_refusal Q (refusal_of t σ c) σ (answered R t σ c)

  pub taken_step : (σ : State A S) (c : Call) → refusal_of t σ c ≡ None → step R t σ c ≡ answered R t σ c
  taken_step σ c r = ap (λ (o : Option Refusal). unless_refused o σ (answered R t σ c)) r

  pub refused_step : (σ : State A S) (c : Call) (r : Refusal) → refusal_of t σ c ≡ Some r → step R t σ c ≡ (σ, refused r)
  refused_step σ c r e = ap (λ (o : Option Refusal). unless_refused o σ (answered R t σ c)) e

  -- a count that is taken shows the next place
  pub counted_place : (σ : State A S) (e : Reading) → refusal_of t σ (hand_count e) ≡ None → (e.place ≡ σ.counted + 1) × (e.place ≤ t.cards)
  counted_place σ e ok =
      let both = first_none (shown_refusal t e) (cond (eqb e.place (σ.counted + 1)) None (Some NotTheNextPlace)) ok in
      (eqb-true _ _ (none_if (eqb e.place (σ.counted + 1)) NotTheNextPlace both.1), (shown_place t e both.0).1)

  pub misread_entry : (σ : State A S) (e : Reading) (r : Refusal) → shown_refusal t e ≡ Some r → step R t σ (entry e) ≡ (σ, refused r)
  misread_entry σ e r h = refused_step σ (entry e) r (ap (λ (o : Option Refusal). first_of o (cond (no_draws_left t σ) (Some NoDrawsLeft) None)) h)

  pub misread_count : (σ : State A S) (e : Reading) (r : Refusal) → shown_refusal t e ≡ Some r → step R t σ (hand_count e) ≡ (σ, refused r)
  misread_count σ e r h = refused_step σ (hand_count e) r (ap (λ (o : Option Refusal). first_of o (cond (eqb e.place (σ.counted + 1)) None (Some NotTheNextPlace))) h)

  -- a closing that is answered comes after every card
  pub closed_all : (σ : State A S) → refusal_of t σ closing ≡ None → t.cards ≤ σ.counted
  closed_all σ ok = ltb-false _ _ (none_unless (ltb σ.counted t.cards) CountUnfinished ok)

-- a draw of a place of the audit is refused for nothing that it shows
pub drawn_shown : (t : Terms) (b : CastCards) → Fits t b → (i : ℕ) → 1 ≤ i → i ≤ t.cards → shown_refusal t (show_drawn b i) ≡ None
drawn_shown t b fits i lo hi =
    let legal : marks_fit t.candidates (get_or b.cards (i - 1) blank_card).marks ≡ true = All-get_or (λ card. marks_fit t.candidates card.marks ≡ true) b.cards (i - 1) blank_card (omega (arith, fits.number)) fits.marked in
    by_cond (λ (e : Reading). shown_refusal t e ≡ None) (b.missing i)
    (λ _. nothing_refused t (show_missing i) lo hi (blank_fits t.candidates 8) (inr (refl, refl)))
    (λ _. nothing_refused t (show_card b i) lo hi legal (inl refl))
