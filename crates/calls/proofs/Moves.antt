-- The first accounts after a card was shown, which moves them by its card alone, found or missing.
use Rattle.std.proofs.Common.{◌≡◌, ℕ, ◌≤◌, Bool, true, false, cond, eqb, List, ◌++◌, map, length, take, drop, Some, None, Option, sym, refl, ap, ◌∙◌, subst, arith}
use lib.ListN.{length-map}
use Rattle.std.specs.Bool.{IsTrue}
use Rattle.std.proofs.lemmas.List.{length-take, map-append, take-map, take_at}
use Rattle.ballot.specs.declared.Card.{Card}
use Rattle.betting.specs.Accounts.{Account, played, tallied}
use Rattle.course.specs.Terms.{Reading}
use Rattle.course.specs.Course.{Rules, after_count, after_entry, all_settled, shown_value}
use Rattle.walks.specs.Walks.{as_found}
use Rattle.calls.specs.Answers.{found_card}

-- the first n elements of rs became ys; m reads an element
module _ {Z X : Type 0} (m : Z → X) (n : ℕ) (rs ys : List Z) (enough : n ≤ length rs) (long : length ys ≡ length (take n rs)) where
  front_of : (f : X → X) → map m ys ≡ map f (map m (take n rs)) → take n (map m (ys ++ drop n rs)) ≡ map f (take n (map m rs))
  front_of f new =
      ap (take n) (map-append m ys (drop n rs))
      ∙ take_at (map m ys) (map m (drop n rs)) n (length-map ys m ∙ long ∙ length-take n rs ∙ omega arith)
      ∙ new ∙ ap (map f) (sym (take-map m n rs))

module _ {A S : Type 0} (R : Rules A S) where
  worth : (card : Card) (missing : Bool) (a : A) → shown_value R a (as_found (cond missing None (Some card))) ≡ cond missing 0 (R.value a card)
  worth card true a = refl
  worth card false a = refl

  module _ (e : Reading) (o : Option Card) (is : o ≡ found_card e) where
    alike : (a : A) → shown_value R a (as_found o) ≡ shown_value R a e
    alike a = ap (λ c. shown_value R a (as_found c)) is ∙ worth e.card (eqb e.found 0) a

    module _ {Z : Type 0} (m : Z → Account A S) (n : ℕ) (rs ys : List Z) (enough : n ≤ length rs) (long : length ys ≡ length (take n rs)) where
      pub entry_moved :
          (held limit first : ℕ) → held ≡ limit → 10 ≤ limit → IsTrue (all_settled limit (take first (map m (take n rs)))) →
          (10 ≤ held → IsTrue (all_settled held (take first (map m (take n rs)))) →
          map m ys ≡ map (after_entry R held (as_found o)) (map m (take n rs))) →
          take n (map m (ys ++ drop n rs)) ≡ map (after_entry R limit e) (take n (map m rs))
      entry_moved held limit first same low settled new =
          let front = subst (λ k. IsTrue (all_settled k (take first (map m (take n rs))))) (sym same) settled in
          front_of m n rs ys enough long (after_entry R held (as_found o)) (new (omega arith) front)
          ∙ ap (λ k. map (after_entry R k (as_found o)) (take n (map m rs))) same
          ∙ (λ i. map (λ x. played R.bet R.told (R.half x.assorter) (alike x.assorter i) limit x) (take n (map m rs)))

      pub count_moved :
          map m ys ≡ map (after_count R (as_found o)) (map m (take n rs)) →
          take n (map m (ys ++ drop n rs)) ≡ map (after_count R e) (take n (map m rs))
      count_moved new =
          front_of m n rs ys enough long (after_count R (as_found o)) new
          ∙ (λ i. map (λ x. tallied (alike x.assorter i) x) (take n (map m rs)))
