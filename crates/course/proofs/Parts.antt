-- The contests' parts of the accounts, and one account among them by its index.
use Rattle.std.proofs.Common.{◌≡◌, ℕ, zero, suc, ◌+◌, ◌-◌, ◌*◌, ◌<◌, ◌≤◌, true, false, List, [], ◌∷◌, map, length, get_or, take, drop, sym, ap, ◌∙◌, subst, ⊎_elim, le_trans, arith, length-drop, get_or-drop}
use native.Mathlib.Nat.{le-max_left, le-max_right}
use Rattle.std.proofs.lemmas.Bool.{and_parts, leb-true, ltb-true}
use Rattle.betting.specs.Accounts.{Account}
use Rattle.betting.specs.Sums.{risk_of}
use Rattle.course.specs.Course.{Rules, all_above, all_settled, parts, worst_risk}
use Rattle.course.specs.Bounds.{Any}

-- the assertion with index j is contest k's
abbrev pub InPart : List ℕ → ℕ → ℕ → Type 0
InPart [] k j = ⊥
InPart (n ∷ ns) zero j = j < n
InPart (n ∷ ns) (suc k) j = (n ≤ j) × InPart ns k (j - n)

module _ {X : Type 0} where
  get_or_drop_in : (n j : ℕ) (xs : List X) (d : X) → n ≤ j → get_or (drop n xs) (j - n) d ≡ get_or xs j d
  get_or_drop_in n j xs d h = get_or-drop n xs (j - n) d ∙ ap (λ k. get_or xs k d) (omega arith)

  any_at : (Q : X → Type 0) (n : ℕ) (xs : List X) → Any Q (take n xs) → (j : ℕ) × (j < n) × (j < length xs) × ((d : X) → Q (get_or xs j d))
  any_at Q zero [] m = elim m [ ]
  any_at Q zero (x ∷ xs) m = elim m [ ]
  any_at Q (suc n) [] m = elim m [ ]
  any_at Q (suc n) (x ∷ xs) m =
      ⊎_elim (λ q. (0, omega arith, omega arith, λ d. q)) (λ q. let r = any_at Q n xs q in (suc r.0, omega (arith, r.1), omega (arith, r.2), r.3)) m

  -- what some element of a part has, some element has by its index
  pub part_any : (Q : X → Type 0) (ns : List ℕ) (xs : List X) (k : ℕ) → Any Q (get_or (parts ns xs) k []) → (j : ℕ) × InPart ns k j × (j < length xs) × ((d : X) → Q (get_or xs j d))
  part_any Q [] xs k m = elim m [ ]
  part_any Q (n ∷ ns) xs zero m = any_at Q n xs m
  part_any Q (n ∷ ns) xs (suc k) m =
      let r = part_any Q ns (drop n xs) k m in
      let back : n + r.0 - n ≡ r.0 = omega arith in (
        n + r.0,
        (omega arith, subst (InPart ns k) (sym back) r.1),
        omega (arith, length-drop n xs, r.2),
        λ d. subst Q (get_or-drop n xs r.0 d) (r.3 d),
      )

module _ {A S : Type 0} where
  worst_at : (n : ℕ) (xs : List (Account A S)) (j : ℕ) (d : Account A S) → j < n → j < length xs → risk_of (get_or xs j d).peak ≤ worst_risk (take n xs)
  worst_at zero xs j d h g = absurd (omega arith)
  worst_at (suc n) [] j d h g = absurd (omega arith)
  worst_at (suc n) (x ∷ xs) zero d h g = le-max_left (risk_of x.peak) (worst_risk (take n xs))
  worst_at (suc n) (x ∷ xs) (suc j) d h g = le_trans (worst_at n xs j d (omega arith) (omega arith)) (le-max_right (risk_of x.peak) (worst_risk (take n xs)))

  pub part_worst : (ns : List ℕ) (xs : List (Account A S)) (k j : ℕ) (d : Account A S) → InPart ns k j → j < length xs → risk_of (get_or xs j d).peak ≤ worst_risk (get_or (parts ns xs) k [])
  part_worst [] xs k j d i g = elim i [ ]
  part_worst (n ∷ ns) xs zero j d i g = worst_at n xs j d i g
  part_worst (n ∷ ns) xs (suc k) j d i g =
      subst (λ (x : Account A S). risk_of x.peak ≤ worst_risk (get_or (parts ns (drop n xs)) k [])) (get_or_drop_in n j xs d i.0)
      (part_worst ns (drop n xs) k (j - n) d i.1 (omega (arith, length-drop n xs, i.0)))

  pub settled_at : (limit : ℕ) (xs : List (Account A S)) (j : ℕ) (d : Account A S) → j < length xs → all_settled limit xs ≡ true → 1000000000000 ≤ (get_or xs j d).peak * limit
  settled_at limit [] j d g e = absurd (omega arith)
  settled_at limit (x ∷ xs) zero d g e = leb-true _ _ (and_parts _ _ e).0
  settled_at limit (x ∷ xs) (suc j) d g e = settled_at limit xs j d (omega arith) (and_parts _ _ e).1

  module _ (R : Rules A S) (N : ℕ) where
    above_at : (n : ℕ) (xs : List (Account A S)) (j : ℕ) (d : Account A S) → j < n → j < length xs → all_above R N (take n xs) ≡ true → R.half (get_or xs j d).assorter * N < (get_or xs j d).tally
    above_at zero xs j d h g e = absurd (omega arith)
    above_at (suc n) [] j d h g e = absurd (omega arith)
    above_at (suc n) (x ∷ xs) zero d h g e = ltb-true _ _ (and_parts _ _ e).0
    above_at (suc n) (x ∷ xs) (suc j) d h g e = above_at n xs j d (omega arith) (omega arith) (and_parts _ _ e).1

    pub part_above : (ns : List ℕ) (xs : List (Account A S)) (k j : ℕ) (d : Account A S) → InPart ns k j → j < length xs → get_or (map (all_above R N) (parts ns xs)) k false ≡ true → R.half (get_or xs j d).assorter * N < (get_or xs j d).tally
    part_above [] xs k j d i g e = elim i [ ]
    part_above (n ∷ ns) xs zero j d i g e = above_at n xs j d i g e
    part_above (n ∷ ns) xs (suc k) j d i g e =
        subst (λ (x : Account A S). R.half x.assorter * N < x.tally) (get_or_drop_in n j xs d i.0)
        (part_above ns (drop n xs) k (j - n) d i.1 (omega (arith, length-drop n xs, i.0)) e)
