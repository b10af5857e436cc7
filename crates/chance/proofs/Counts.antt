-- Counts of a property over lists, and over the draw sequences.
use Rattle.std.proofs.Common.{◌≡◌, ℕ, zero, suc, ◌+◌, ◌*◌, ◌^◌, ◌<◌, ◌≤◌, List, [], ◌∷◌, ◌++◌, map, length, sum_by, sym, refl, ap, ◌∙◌, inl, inr, suc-le-suc, le_refl, suc-mul, add-mul, mul-zero, zero-mul, mul-add, arith, length-append}
use native.Mathlib.Nat.{le_step, pow-succ', pow-zero}
use lib.ListN.{length-map}
use Rattle.std.specs.List.{AllByRecursion}
use Rattle.std.proofs.lemmas.List.Sums.{sum_by-cons}
use Rattle.std.proofs.lemmas.Bool.{cases_eq}
use Rattle.chance.specs.Sequences.{places, each, sequences, Counted, AllSequences}
use Rattle.chance.specs.Sequences.Counted.{none, has, lacks}

-- a count is at most the length
pub counted_le : {X : Type 0} {P : X → Type 0} {xs : List X} {m : ℕ} → Counted P xs m → m ≤ length xs
counted_le none = omega arith
counted_le (has h c) = suc-le-suc (counted_le c)
counted_le (lacks h c) = le_step (counted_le c)

-- the counts of two parts add up
pub counted_split : {X : Type 0} {P : X → Type 0} (xs : List X) {ys : List X} {m : ℕ} → Counted P (xs ++ ys) m → (a : ℕ) × (b : ℕ) × Counted P xs a × Counted P ys b × (m ≡ a + b)
counted_split [] {m = m} c = (zero, m, none, c, omega arith)
counted_split (x ∷ xs) (has h c) = let r = counted_split xs c in (suc r.0, r.1, has h r.2, r.3, omega (arith, r.4))
counted_split (x ∷ xs) (lacks h c) = let r = counted_split xs c in (r.0, r.1, lacks h r.2, r.3, r.4)

pub counted_map : {X Y : Type 0} {P : Y → Type 0} (f : X → Y) (xs : List X) {m : ℕ} → Counted P (map f xs) m → Counted (λ x. P (f x)) xs m
counted_map f [] none = none
counted_map f (x ∷ xs) (has h c) = has h (counted_map f xs c)
counted_map f (x ∷ xs) (lacks h c) = lacks h (counted_map f xs c)

pub counted_as : {X : Type 0} {P Q : X → Type 0} {xs : List X} {m : ℕ} → ((x : X) → P x → Q x) → ((x : X) → Q x → P x) → Counted P xs m → Counted Q xs m
counted_as to back none = none
counted_as to back (has h c) = has (to _ h) (counted_as to back c)
counted_as to back (lacks h c) = lacks (λ q. h (back _ q)) (counted_as to back c)

pub counted_never : {X : Type 0} {P : X → Type 0} {xs : List X} {m : ℕ} → ((x : X) → P x → ⊥) → Counted P xs m → m ≡ 0
counted_never not none = refl
counted_never not (has h c) = absurd (not _ h)
counted_never not (lacks h c) = counted_never not c

-- where a property is decided, a list has a count of it
pub counted_some : {X : Type 0} {Q : X → Type 0} → ((x : X) → Dec (Q x)) → (xs : List X) → (m : ℕ) × Counted Q xs m
counted_some dec [] = (0, none)
counted_some {Q = Q} dec (x ∷ xs) =
    let r = counted_some dec xs in
    elim (dec x) [ yes h ↦ (suc r.0, has h r.1) | no h ↦ (r.0, lacks h r.1) ]

-- what implies a property is counted at most as often
pub counted_mono : {X : Type 0} {P Q : X → Type 0} {xs : List X} {m k : ℕ} → ((x : X) → P x → Q x) → Counted P xs m → Counted Q xs k → m ≤ k
counted_mono to none none = le_refl 0
counted_mono to (has h c) (has g d) = suc-le-suc (counted_mono to c d)
counted_mono to (has h c) (lacks g d) = absurd (g (to _ h))
counted_mono to (lacks h c) (has g d) = le_step (counted_mono to c d)
counted_mono to (lacks h c) (lacks g d) = counted_mono to c d

-- a list has one count of a property
pub counted_same : {X : Type 0} {P : X → Type 0} {xs : List X} {m k : ℕ} → Counted P xs m → Counted P xs k → m ≡ k
counted_same c d = omega (arith, counted_mono (λ x p. p) c d, counted_mono (λ x p. p) d c)

pub counted_join : {X : Type 0} {P : X → Type 0} {xs ys : List X} {a b : ℕ} → Counted P xs a → Counted P ys b → Counted P (xs ++ ys) (a + b)
counted_join {b = b} none d = rw zero_plus d
  where
    zero_plus : 0 + b ≡ b
    zero_plus = omega arith
counted_join {b = b} (has {m = m} h c) d = rw suc_plus (has h (counted_join c d))
  where
    suc_plus : suc m + b ≡ suc (m + b)
    suc_plus = omega arith
counted_join (lacks h c) d = lacks h (counted_join c d)

pub counted_onto : {X Y : Type 0} {P : Y → Type 0} (f : X → Y) {xs : List X} {m : ℕ} → Counted (λ x. P (f x)) xs m → Counted P (map f xs) m
counted_onto f none = none
counted_onto f (has h c) = has h (counted_onto f c)
counted_onto f (lacks h c) = lacks h (counted_onto f c)

pub counted_none : {X : Type 0} {P : X → Type 0} (xs : List X) → ((x : X) → P x → ⊥) → Counted P xs 0
counted_none [] not = none
counted_none (x ∷ xs) not = lacks (not x) (counted_none xs not)

pub length_each : (is : List ℕ) (ss : List (List ℕ)) → length (each is ss) ≡ length is * length ss
length_each [] ss = omega (arith, zero-mul (length ss))
length_each (i ∷ is) ss =
    length-append (map (λ s. i ∷ s) ss) (each is ss) ∙ omega (arith, length-map ss (λ s. i ∷ s), length_each is ss, suc-mul (length is) (length ss))

pub length_places : (N : ℕ) → length (places N) ≡ N
length_places zero = refl
length_places (suc n) = ap suc (length_places n)

pub length_sequences : (N n : ℕ) → length (sequences N n) ≡ N ^ n
length_sequences N zero = sym (pow-zero N)
length_sequences N (suc n) =
    length_each (places N) (sequences N n) ∙ ap (λ k. k * length (sequences N n)) (length_places N) ∙ ap (λ k. N * k) (length_sequences N n) ∙ sym (pow-succ' N n)

-- what bounds the count behind each place bounds the whole
pub each_bounded : {P : List ℕ → Type 0} (L p M : ℕ) (w : ℕ → ℕ) (ss : List (List ℕ)) (is : List ℕ) {S : ℕ} → ((i m : ℕ) → Counted (λ s. P (i ∷ s)) ss m → L * m ≤ p * w i * M) → Counted P (each is ss) S → L * S ≤ p * sum_by w is * M
each_bounded L p M w ss [] h none = omega (arith, mul-zero L)
each_bounded {P} L p M w ss (i ∷ is) {S} h c =
    let r = counted_split (map (λ s. i ∷ s) ss) c in
    let first : L * r.0 ≤ p * w i * M = h i r.0 (counted_map (λ s. i ∷ s) ss r.2) in
    let later : L * r.1 ≤ p * sum_by w is * M = each_bounded L p M w ss is h r.3 in
    let left : L * S ≡ L * r.0 + L * r.1 = ap (λ k. L * k) r.4 ∙ mul-add L r.0 r.1 in
    let right : p * sum_by w (i ∷ is) * M ≡ p * w i * M + p * sum_by w is * M = ap (λ k. p * k * M) (sum_by-cons w i is) ∙ ap (λ k. k * M) (mul-add p (w i) (sum_by w is)) ∙ add-mul (p * w i) (p * sum_by w is) M in
    omega arith

-- the head of a list, 0 where it has none
abbrev head_of : List ℕ → ℕ
head_of [] = 0
head_of (i ∷ s) = i

abbrev tail_of : List ℕ → List ℕ
tail_of [] = []
tail_of (i ∷ s) = s

-- a sequence stands behind each other first place not once, and behind its own as often as its rest
module _ (i : ℕ) (s : List ℕ) (ss : List (List ℕ)) where
  behind_other : (n : ℕ) → (n ≡ i → ⊥) → Counted (λ u. u ≡ i ∷ s) (map (λ u. n ∷ u) ss) 0
  behind_other n other = counted_onto (λ u. n ∷ u) (counted_none ss (λ u e. other (ap head_of e)))

  behind_own : (m : ℕ) → Counted (λ u. u ≡ s) ss m → Counted (λ u. u ≡ i ∷ s) (map (λ u. i ∷ u) ss) m
  behind_own m c = counted_onto (λ u. i ∷ u) (counted_as (λ u e. ap (λ v. i ∷ v) e) (λ u e. ap tail_of e) c)

  behind_lower : (N : ℕ) → N < i → Counted (λ u. u ≡ i ∷ s) (each (places N) ss) 0
  behind_lower zero h = none
  behind_lower (suc n) h = counted_join (behind_other (suc n) (λ e. omega arith)) (behind_lower n (omega arith))

  behind_places : (N m : ℕ) → 1 ≤ i → i ≤ N → Counted (λ u. u ≡ s) ss m → Counted (λ u. u ≡ i ∷ s) (each (places N) ss) m
  behind_places zero m lo hi c = absurd (omega arith)
  behind_places (suc n) m lo hi c =
      elim (cases_eq (suc n) i) [
        | inl same ↦
            let sum : m + 0 ≡ m = omega arith in
            let first : Counted (λ u. u ≡ i ∷ s) (map (λ u. suc n ∷ u) ss) m = rw same (behind_own m c) in
            rw sum at (counted_join first (behind_lower n (omega arith)))
        | inr other ↦
            let sum : 0 + m ≡ m = omega arith in
            rw sum at (counted_join (behind_other (suc n) other) (behind_places n m lo (omega arith) c))
      ]

once : (N n : ℕ) (s : List ℕ) → length s ≡ n → AllByRecursion (λ i. (1 ≤ i) × (i ≤ N)) s → Counted (λ u. u ≡ s) (sequences N n) 1
once N zero [] e h = has refl none
once N zero (i ∷ s) e h = absurd (omega arith)
once N (suc n) [] e h = absurd (omega arith)
once N (suc n) (i ∷ s) e h = behind_places i s (sequences N n) N 1 h.0.0 h.0.1 (once N n s (omega arith) h.1)

pub all_sequences : AllSequences
all_sequences N n = record { number = length_sequences N n; once = once N n }
