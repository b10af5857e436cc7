-- What the accounts of the contests' own assertions tell of the outcomes.
use Rattle.std.proofs.Common.{◌≡◌, ℕ, zero, suc, ◌+◌, ◌<◌, ◌≤◌, ◌⊎◌, List, [], ◌∷◌, ◌++◌, map, length, get_or, take, drop, sym, refl, ap, ◌∙◌, subst, inl, inr, ⊎_elim, arith}
use Rattle.std.specs.List.{AllByRecursion}
use Rattle.std.proofs.ByRecursion.{All-map}
use Rattle.std.proofs.lemmas.List.{drop_at, drop-map, take_at, take-map}
use Rattle.std.proofs.lemmas.Bool.{cases_lt}
use Rattle.ballot.specs.declared.Candidate.{Candidate}
use Rattle.ballot.specs.declared.Card.{Card}
use Rattle.ballot.specs.declared.Contest.{Contest}
use Rattle.ballot.specs.Contests.{assertion_count}
use Rattle.ballot.specs.Slates.{Slate, slates}
use Rattle.ballot.specs.Votes.{TrulyWon}
use Rattle.assertion.specs.declared.assertions.Assertion.{Assertion}
use Rattle.assertion.specs.Assertions.{Claim, pair, share, EachStands, Plan, claim_of, planned, planned_of}
use Rattle.assertion.proofs.Parts.{WalkedOn, walked_on}
use Rattle.assertion.proofs.Totals.{count_of}
use Rattle.assorter.specs.Law.{JustWhen}
use Rattle.assorter.specs.Values.{Holds}
use Rattle.assorter.proofs.Lists.{all_from_map}
use Rattle.assorter.proofs.Means.{claims_tell_contest}
use Rattle.betting.specs.Accounts.{Account, fresh_account}
use Rattle.betting.specs.Policies.{Chosen}
use Rattle.course.specs.Terms.{Terms}
use Rattle.course.specs.Course.{State, parts}
use Rattle.course.specs.Scripts.{CastCards}
use Rattle.course.specs.Bounds.{Any, Opened, accounts_of, RiskLimited}
use Rattle.course.specs.Laws.{ClaimsHold, CountsDecide}
use Rattle.course.specs.Openings.{own_rules, ContradictedWhenLost, HandCountDecides, LimitsWrongBoards, Won}
use Rattle.course.proofs.Deciding.{all_or_any}

-- The accounts are those of the contests' own assertions, in order.
pub record OwnAccounts (xs : List Contest) (cs : List Candidate) (t : Terms) (σ : State Assertion Chosen) : Type 0 where
  pub stand : EachStands xs cs
  pub parts_are : t.assertions ≡ map assertion_count xs
  pub claims_are : map (λ x. claim_of x.assorter) σ.accounts ≡ map (λ plan. plan.claim) (planned 0 xs cs)

-- accounts just opened have seen no card
pub opened_all : {X A S : Type 0} (f : X → A) (g : X → S) (ys : List X) → AllByRecursion (λ x. x ≡ fresh_account x.assorter x.state) (map (λ y. fresh_account (f y) (g y)) ys)
opened_all f g [] = tt
opened_all f g (y ∷ ys) = (refl, opened_all f g ys)

less_or_not : (m n : ℕ) → (m < n) ⊎ (m < n → ⊥)
less_or_not m n = ⊎_elim inl (λ le. inr (λ lt. omega (arith, le, lt))) (cases_lt m n)

-- a claim compares two numbers, so it holds of the cards or not
holds_or_not : (c : Claim) (cards : List Card) → Holds c cards ⊎ (Holds c cards → ⊥)
holds_or_not (pair k most w l) cards = less_or_not _ _
holds_or_not (share k w p q) cards = less_or_not _ _

some_not_all : {X : Type 0} (P : X → Type 0) (xs : List X) → Any (λ x. P x → ⊥) xs → AllByRecursion P xs → ⊥
some_not_all P [] bad all = bad
some_not_all P (x ∷ xs) bad all = ⊎_elim (λ f. f all.0) (λ rest. some_not_all P xs rest all.1) bad

-- equal images under two readings, cut at the same place
module _ {X Y Z : Type 0} (f : X → Z) (g : Y → Z) (xs : List X) (front back : List Y) (n : ℕ) (cut : length front ≡ n) (same : map f xs ≡ map g (front ++ back)) where
  front_same : map f (take n xs) ≡ map g front
  front_same = sym (take-map f n xs) ∙ ap (take n) same ∙ take-map g n (front ++ back) ∙ ap (map g) (take_at front back n cut)

  back_same : map f (drop n xs) ≡ map g back
  back_same = sym (drop-map f n xs) ∙ ap (drop n) same ∙ drop-map g n (front ++ back) ∙ ap (map g) (drop_at front back n cut)

all_same : {X Y Z : Type 0} (P : Z → Type 0) (f : X → Z) (g : Y → Z) (xs : List X) (ys : List Y) → map f xs ≡ map g ys → AllByRecursion (λ x. P (f x)) xs → AllByRecursion (λ y. P (g y)) ys
all_same P f g xs ys same h = all_from_map P g ys (subst (AllByRecursion P) same (All-map P f xs h))

-- what an account and a plan claim
abbrev says : Account Assertion Chosen → Claim
says x = claim_of x.assorter

abbrev plans : Plan → Claim
plans plan = plan.claim

-- no contest has a number below the first
none_below : (P : Slate → Type 0) (n k : ℕ) (xs : List Contest) (cs : List Candidate) → n < k → AllByRecursion (λ s. s.number ≡ n → P s) (slates k xs cs)
none_below P n k [] cs lt = tt
none_below P n k (x ∷ xs) cs lt =
    (λ e. absurd (omega (arith, e, lt)), none_below P n (k + 1) xs (drop x.candidates cs) (omega (arith, lt)))

-- all claims of a contest's part hold just when it was truly won
part_won :
    (j k n : ℕ) → j + k ≡ n → (xs : List Contest) (cs : List Candidate) (ys : List (Account Assertion Chosen)) → WalkedOn xs cs →
    map says ys ≡ map plans (planned j xs cs) → (cards : List Card) →
    JustWhen (AllByRecursion (λ x. Holds (says x) cards) (get_or (parts (map assertion_count xs) ys) k []))
    (AllByRecursion (λ s. s.number ≡ n → TrulyWon s.contest s.number s.own cards) (slates j xs cs))
unfolding planned
part_won j k n e [] cs ys h same cards = (λ _. tt, λ _. tt)
part_won j zero n e (x ∷ xs) cs ys h same cards =
    let own = take x.candidates cs in
    let rest = drop x.candidates cs in
    let count = assertion_count x in
    let here = front_same says plans ys (planned_of j x own) (planned (j + 1) xs rest) count (count_of j x own h.1) same in
    let tell = claims_tell_contest j x own h.1 cards in
    let P : Claim → Type 0 = λ c. Holds c cards in (
      λ all. (
        λ _. tell.0 (all_same P says plans (take count ys) (planned_of j x own) here all),
        none_below (λ s. TrulyWon s.contest s.number s.own cards) n (j + 1) xs rest (omega (arith, e)),
      ),
      λ won. all_same P plans says (planned_of j x own) (take count ys) (sym here) (tell.1 (won.0 (omega (arith, e)))),
    )
part_won j (suc k) n e (x ∷ xs) cs ys h same cards =
    let own = take x.candidates cs in
    let rest = drop x.candidates cs in
    let count = assertion_count x in
    let later = back_same says plans ys (planned_of j x own) (planned (j + 1) xs rest) count (count_of j x own h.1) same in
    let tell = part_won (j + 1) k n (omega (arith, e)) xs rest (drop count ys) h.2 later cards in
    (λ all. (λ i. absurd (omega (arith, e, i)), tell.0 all), λ won. tell.1 won.1)

module _ (xs : List Contest) (cs : List Candidate) (t : Terms) (σ : State Assertion Chosen) (own : OwnAccounts xs cs t σ) where
  claims_tell_won : (b : CastCards) (k : ℕ) → JustWhen (ClaimsHold own_rules t σ b k) (Won k xs cs b.cards)
  claims_tell_won b k =
      let P : Account Assertion Chosen → Type 0 = λ x. Holds (says x) b.cards in
      subst (λ ns. JustWhen (AllByRecursion P (get_or (parts ns σ.accounts) k [])) (Won k xs cs b.cards)) (sym own.parts_are)
      (part_won 0 k k (omega arith) xs cs σ.accounts (walked_on xs cs own.stand) own.claims_are b.cards)

  pub contradicted_when_lost : ContradictedWhenLost xs cs t σ
  contradicted_when_lost b k =
      let P : Account Assertion Chosen → Type 0 = λ x. Holds (says x) b.cards in
      let part = accounts_of own_rules t σ k in
      let tell = claims_tell_won b k in (
        λ bad won. some_not_all P part bad (tell.1 won),
        λ lost. ⊎_elim (λ all. absurd (lost (tell.0 all))) (λ bad. bad) (all_or_any P (λ x. holds_or_not (says x) b.cards) part),
      )

  pub limits_wrong_boards : RiskLimited own_rules t σ → LimitsWrongBoards xs cs t σ
  limits_wrong_boards limited b fits k lost = limited b fits k ((contradicted_when_lost b k).1 lost)

  pub hand_count_decides : CountsDecide own_rules → Opened σ → t.cards ≤ 65535 → HandCountDecides xs cs t σ
  hand_count_decides decide fresh few before h b fits =
      let closes = decide t σ fresh few before h b fits in
      record {
        outcomes = closes.outcomes;
        answer = closes.answer;
        only_if = λ k lt e. (claims_tell_won b k).0 (closes.only_if k lt e);
        just_when = λ found k lt.
            let hold = closes.just_when found k lt in
            let tell = claims_tell_won b k in (λ e. tell.0 (hold.0 e), λ won. hold.1 (tell.1 won));
      }
