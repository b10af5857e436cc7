-- A list whose elements are made one after the other, each of its index.
use Rattle.std.proofs.Common.{◌≡◌, ℕ, zero, suc, ◌+◌, ◌<◌, ◌≤◌, List, [], ◌∷◌, ◌++◌, map, length, get_or, take, set, sym, refl, ap, ◌∙◌, subst, not-suc-le-zero, arith}
use Rattle.std.specs.List.{AllZip, range_with_len}
use Rattle.std.proofs.lemmas.List.{get_or-map, get_or-take, map-id, take_more_set}
use Rattle.std.proofs.lemmas.List.FromFn.{map-range_with_len_more}
use Rattle.std.proofs.lemmas.Slice.Zip.{all_zipped_more}
use Rattle.betting.specs.Accounts.{fresh_account}
use Rattle.opening.specs.Starts.{started}

-- Q holds of an index and the element that is made of it
module _ {R : Type 0} (Q : ℕ → R → Type 0) where
  pub made_more : (i : ℕ) (rs : List R) (r : R) → i < length rs → AllZip Q (range_with_len 0 i) (take i rs) → Q i r →
      AllZip Q (range_with_len 0 (i + 1)) (take (i + 1) (set rs i r))
  made_more i rs r in-rs so_far q =
      let more : range_with_len 0 (i + 1) ≡ range_with_len 0 i ++ i ∷ [] =
      sym (map-id _) ∙ map-range_with_len_more (λ k. k) 0 i i (omega arith) ∙ ap (λ ks. ks ++ i ∷ []) (map-id _) in
      subst (λ ks. AllZip Q ks (take (i + 1) (set rs i r))) (sym more)
      (subst (AllZip Q (range_with_len 0 i ++ i ∷ [])) (sym (take_more_set rs i r in-rs))
      (all_zipped_more Q (range_with_len 0 i) (take i rs) i r so_far q))

  -- m reads an element
  made_from :
      {X : Type 0} (m : R → X) (a n : ℕ) (rs : List R) (ys : List X) → AllZip Q (range_with_len a n) rs → n ≡ length ys →
      ((i : ℕ) (r : R) → i < length ys → Q (a + i) r → m r ≡ get_or ys i (m r)) → map m rs ≡ ys
  made_from m a zero [] [] all long each = refl
  made_from m a zero [] (y ∷ ys) all long each = absurd (omega arith)
  made_from m a zero (r ∷ rs) ys all long each = absurd all
  made_from m a (suc n) [] ys all long each = absurd all
  made_from m a (suc n) (r ∷ rs) [] all long each = absurd (omega arith)
  made_from m a (suc n) (r ∷ rs) (y ∷ ys) all long each =
      let here : a ≡ a + 0 = omega arith in
      let later : (i : ℕ) → a + 1 + i ≡ a + suc i = λ i. omega arith in
      let first = each zero r (omega arith) (subst (λ k. Q k r) here all.0) in
      let rest = made_from m (a + 1) n rs ys all.1 (omega arith) (λ i s h q. each (suc i) s (omega arith) (subst (λ k. Q k s) (later i) q)) in
      cc

  -- what is made of an index reads as the element of ys there
  pub made_read :
      {X : Type 0} (m : R → X) (n : ℕ) (rs : List R) (ys : List X) → AllZip Q (range_with_len 0 n) rs → n ≡ length ys →
      ((i : ℕ) (r : R) → i < length ys → Q i r → m r ≡ get_or ys i (m r)) → map m rs ≡ ys
  made_read m n rs ys all long each =
      let from : (i : ℕ) → 0 + i ≡ i = λ i. omega arith in
      made_from m 0 n rs ys all long (λ i r h q. each i r h (subst (λ k. Q k r) (from i) q))

-- x is what stands at i
pub at_mapped : {A X : Type 0} (f : A → X) (xs : List A) (i : ℕ) (x : A) (y : X) → i < length xs → x ≡ get_or xs i x → y ≡ f x →
    y ≡ get_or (map f xs) i y
at_mapped f xs i x y in-xs at reads = reads ∙ ap f at ∙ sym (get_or-map f xs i x y in-xs)

-- st reads a policy
module _ {A P S : Type 0} (st : P → S) where
  pub started_long :
      (xs : List A) (ps : List P) (n : ℕ) → n ≤ length xs → n ≤ length ps → n ≤ length (started xs (map st ps))
  started_long [] ps n in-xs in-ps = omega arith
  started_long (x ∷ xs) [] n in-xs in-ps = omega arith
  started_long (x ∷ xs) (p ∷ ps) zero in-xs in-ps = omega arith
  started_long (x ∷ xs) (p ∷ ps) (suc n) in-xs in-ps = omega (arith, started_long xs ps n (omega arith) (omega arith))

  stands :
      (xs : List A) (ps : List P) (i : ℕ) (a : A) (p : P) (y : _) → i < length xs → i < length ps → a ≡ get_or xs i a →
      p ≡ get_or ps i p → y ≡ fresh_account a (st p) → y ≡ get_or (started xs (map st ps)) i y
  stands [] ps i a p y in-xs in-ps at_a at_p reads = absurd (not-suc-le-zero in-xs)
  stands (x ∷ xs) [] i a p y in-xs in-ps at_a at_p reads = absurd (not-suc-le-zero in-ps)
  stands (x ∷ xs) (q ∷ ps) zero a p y in-xs in-ps at_a at_p reads = cc
  stands (x ∷ xs) (q ∷ ps) (suc i) a p y in-xs in-ps at_a at_p reads =
      stands xs ps i a p y (omega arith) (omega arith) at_a at_p reads

  -- a and p are what stands at i
  pub at_started :
      (xs : List A) (ps : List P) (n i : ℕ) (a : A) (p : P) (y : _) → i < n → n ≤ length xs → n ≤ length ps → a ≡ get_or xs i a →
      p ≡ get_or ps i p → y ≡ fresh_account a (st p) → y ≡ get_or (take n (started xs (map st ps))) i y
  at_started xs ps n i a p y in-n in-xs in-ps at_a at_p reads =
      stands xs ps i a p y (omega arith) (omega arith) at_a at_p reads ∙ sym (get_or-take n (started xs (map st ps)) i y in-n)
