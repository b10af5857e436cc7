-- What is told of a list part by part.
use Rattle.std.proofs.Common.{◌≡◌, ℕ, suc, ◌+◌, ◌-◌, ◌<◌, ◌≤◌, min, List, [], ◌∷◌, ◌++◌, map, length, get_or, take, drop, replicate, set, sym, refl, ap, ◌∙◌, subst}
use lib.ListN.{length-map}
use Rattle.std.specs.List.{AllZip}
use Rattle.std.proofs.lemmas.List.{append_assoc, append-nil, drop_all, drop-map, drop_min, drop_more, drop-replicate, take-append-drop, take-map, take_min, take_more_set}
use Rattle.course.specs.Course.{parts}
use Rattle.verdict.specs.Contests.{padded}

module _ {R Y : Type 0} (Q : List R → Y → Type 0) (ns : List ℕ) (rs : List R) where
  -- the first i parts are told in ys, and rest has the others
  abbrev pub Told : ℕ → List R → List Y → Type 0
  Told i rest ys = (zs : List Y) → AllZip Q (parts (drop i ns) rest) zs → AllZip Q (parts ns rs) (take i ys ++ zs)

  pub told_more :
      (i count : ℕ) (rest : List R) (ys : List Y) (y : Y) → i < length ns → i < length ys →
      count ≡ min (get_or ns i 0) (length rest) → Told i rest ys → Q (take count rest) y →
      Told (i + 1) (drop count rest) (set ys i y)
  told_more i count rest ys y in-ns in-ys cut so_far q zs later =
      let n = get_or ns i 0 in
      let here : take count rest ≡ take n rest = ap (λ k. take k rest) cut ∙ take_min n rest in
      let after : drop count rest ≡ drop n rest = ap (λ k. drop k rest) cut ∙ drop_min n rest in
      let all : AllZip Q (parts (drop i ns) rest) (y ∷ zs) =
      subst (λ ks. AllZip Q (parts ks rest) (y ∷ zs)) (sym (drop_more ns i 0 in-ns))
      (subst (λ xs. Q xs y) here q, subst (λ xs. AllZip Q (parts (drop (i + 1) ns) xs) zs) after later) in
      subst (AllZip Q (parts ns rs))
      (sym (append_assoc (take i ys) (y ∷ []) zs) ∙ ap (λ xs. xs ++ zs) (sym (take_more_set ys i y in-ys)))
      (so_far (y ∷ zs) all)

  pub told_all : (i : ℕ) (rest : List R) (ys : List Y) → length ns ≤ i → Told i rest ys → AllZip Q (parts ns rs) (take i ys)
  told_all i rest ys h so_far =
      subst (AllZip Q (parts ns rs)) (append-nil (take i ys))
      (so_far [] (subst (λ ks. AllZip Q (parts ks rest) []) (sym (drop_all i ns h)) tt))

-- m reads an element, and each part's value is F of what is read
parts_told :
    {R X Y : Type 0} (Q : List R → Y → Type 0) (m : R → X) (F : List X → Y) → ((part : List R) (y : Y) → Q part y → y ≡ F (map m part)) →
    (ns : List ℕ) (rs : List R) (ys : List Y) → AllZip Q (parts ns rs) ys → ys ≡ map F (parts ns (map m rs))
parts_told Q m F each [] rs [] told = refl
parts_told Q m F each [] rs (y ∷ ys) told = absurd told
parts_told Q m F each (n ∷ ns) rs [] told = absurd told
parts_told Q m F each (n ∷ ns) rs (y ∷ ys) told =
    ap (λ z. z ∷ ys) (each (take n rs) y told.0 ∙ ap F (sym (take-map m n rs)))
    ∙ ap (λ zs. F (take n (map m rs)) ∷ zs) (parts_told Q m F each ns (drop n rs) ys told.1 ∙ ap (λ xs. map F (parts ns xs)) (sym (drop-map m n rs)))

length_parts : {X : Type 0} (ns : List ℕ) (xs : List X) → length (parts ns xs) ≡ length ns
length_parts [] xs = refl
length_parts (n ∷ ns) xs = ap suc (length_parts ns (drop n xs))

-- one answer for each contest
pub length_told : {X Y : Type 0} (f : List X → Y) (ns : List ℕ) (xs : List X) → length (map f (parts ns xs)) ≡ length ns
length_told f ns xs = length-map (parts ns xs) f ∙ length_parts ns xs

-- the first n places are told, and the others are as they began
pub parts_padded :
    {R X Y : Type 0} (Q : List R → Y → Type 0) (m : R → X) (F : List X → Y) → ((part : List R) (y : Y) → Q part y → y ≡ F (map m part)) →
    (ns : List ℕ) (rs : List R) (ys : List Y) (n : ℕ) (y : Y) → n ≡ length ns → AllZip Q (parts ns rs) (take n ys) →
    drop n ys ≡ drop n (replicate 8 y) → ys ≡ padded y (map F (parts ns (map m rs)))
parts_padded Q m F each ns rs ys n y long told others =
    let zs = map F (parts ns (map m rs)) in
    let count : n ≡ length zs = long ∙ sym (length_told F ns (map m rs)) in
    sym (take-append-drop n ys) ∙ ap (λ xs. xs ++ drop n ys) (parts_told Q m F each ns rs (take n ys) told)
    ∙ ap (λ xs. zs ++ xs) (others ∙ drop-replicate n 8 y ∙ ap (λ k. replicate (8 - k) y) count)
