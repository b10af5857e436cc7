-- One sign more of the bytes of a name: what a byte shows as is written in one byte.
use Rattle.std.proofs.Common.{◌≡◌, ℕ, ◌+◌, ◌<◌, List, [], ◌∷◌, ◌++◌, map, length, get_or, take, encode_utf8, sym, ap, ◌∙◌, arith}
use Rattle.std.proofs.lemmas.Bool.Decides.{nat_tests}
use Rattle.std.proofs.lemmas.List.{map-append, take_more}
use Rattle.std.proofs.lemmas.Str.{encode_ascii}
use Rattle.names.specs.Shown.{sign_of}

small_sign : (b : ℕ) → sign_of b < 128
small_sign b = grind (arith, nat_tests)

pub one_sign_more :
    (xs : List ℕ) (i : ℕ) → i < length xs →
    map sign_of (take i xs) ++ encode_utf8 (sign_of (get_or xs i 0)) ≡ map sign_of (take (i + 1) xs)
one_sign_more xs i h =
    let b = get_or xs i 0 in
    ap (λ ys. map sign_of (take i xs) ++ ys) (encode_ascii (sign_of b) (small_sign b))
    ∙ sym (ap (map sign_of) (take_more xs i 0 h) ∙ map-append sign_of (take i xs) (b ∷ []))
