-- One step of a walk over the first elements of a list.
use borrow.Rule.Slice.PartMut.{put_mid}
use Rattle.std.proofs.Common.{◌≡◌, ℕ, ◌+◌, ◌-◌, ◌<◌, min, List, [], ◌++◌, map, length, get_or, take, drop, set, sym, ap, ◌∙◌, arith}
use Rattle.std.proofs.lemmas.List.{append-nil, drop-map, drop_all, drop_min, get_or-map, length-drop, map-append, map-set, take-map, take_all, take_min}
use Rattle.std.proofs.lemmas.List.Edits.{map_over_more}

-- the first n of a list by f, the others as they are
abbrev pub on_front : {X : Type 0} → (X → X) → ℕ → List X → List X
on_front f n xs = map f (take n xs) ++ drop n xs

-- m reads an element; the element r at i became h
pub front_more :
    {R X : Type 0} (m : R → X) (f : X → X) (i : ℕ) (rs : List R) (xs : List X) (r h : R) → i < length rs →
    i < length xs → map m rs ≡ on_front f i xs → m h ≡ f (m (get_or rs i r)) →
    map m (set rs i h) ≡ on_front f (i + 1) xs
front_more m f i rs xs r h in-rs in-xs so_far new =
    let x = m (get_or rs i r) in
    map-set m rs i h ∙ ap (set (map m rs) i) new
    ∙ map_over_more f xs (map m rs) i x in-xs so_far (sym (get_or-map m rs i r x in-rs))

-- m reads an element; the elements from the place first on became ys
pub rest_moved :
    {R X : Type 0} (m : R → X) (f : X → X) (first i : ℕ) (rs ys : List R) → i ≡ min first (length rs) →
    map m ys ≡ map f (map m (take (length rs - i) (drop i rs))) →
    map m (put_mid i (length rs - i) rs ys) ≡ take first (map m rs) ++ map f (drop first (map m rs))
rest_moved m f first i rs ys e new =
    let k = length rs - i in
    let nothing_after : drop k (drop i rs) ≡ [] = drop_all k (drop i rs) (omega (arith, length-drop i rs)) in
    let front : take i rs ≡ take first rs = ap (λ n. take n rs) e ∙ take_min first rs in
    let rest : take k (drop i rs) ≡ drop first rs =
    take_all k (drop i rs) (omega (arith, length-drop i rs)) ∙ ap (λ n. drop n rs) e ∙ drop_min first rs in
    simp (nothing_after, append-nil, map-append, take-map, drop-map, front, rest, new)
