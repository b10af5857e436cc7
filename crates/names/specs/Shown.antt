-- Names, kinds, policies and numbers of things as members read them.
use Rattle.std.specs.Prelude.{◌≡◌, ◌≢◌, ℕ, ◌<◌, ◌-◌, ◌&&◌, List, [], ◌∷◌, ◌++◌, map, length, replicate, slice_index, codes, decimal, ◌==◌, nat_le, if◌then◌else◌}
use Rattle.std.specs.List.{list_all}
use Rattle.ballot.specs.declared.Kind.{Kind}
use Rattle.ballot.specs.declared.Kind.TheVariants.{Plurality, Approval, Supermajority}
use Rattle.setup.specs.declared.setup.PolicyChoice.{PolicyChoice}
use Rattle.setup.specs.declared.setup.PolicyChoice.TheVariants.{Fixed, Shrinking}

-- A printable sign of ASCII as itself, any other byte as `?`.
abbrev pub sign_of : ℕ → ℕ
sign_of b = if nat_le 32 b && nat_le b 126 then b else 63

-- The bytes before the blanks at the end.
abbrev pub without_blanks : List ℕ → List ℕ
without_blanks [] = []
without_blanks (b ∷ bs) = if list_all (λ x. x == 32) (b ∷ bs) then [] else (b ∷ without_blanks bs)

-- Blanks alone are cut off, and what is left does not end with one.
pub record CutsBlanks (bs left : List ℕ) : Type 0 where
  pub blanks : bs ≡ left ++ replicate (length bs - length left) 32
  pub no_blank_last : 0 < length left → slice_index left (length left - 1) ≢ 32

-- As "ADAMS".
abbrev pub name_line : List ℕ → List ℕ
name_line bs = map sign_of (without_blanks bs)

-- As "supermajority of 2/3".
abbrev pub kind_line : Kind → List ℕ
kind_line Plurality = codes "plurality"
kind_line Approval = codes "approval"
kind_line (Supermajority p q) = codes "supermajority of " ++ (decimal p ++ (codes "/" ++ decimal q))

-- As "fixed" and "shrinking, weight 100".
abbrev pub policy_line : PolicyChoice → List ℕ
policy_line Fixed = codes "fixed"
policy_line (Shrinking weight) = codes "shrinking, weight " ++ decimal weight

-- As "1 seat" and "2 seats".
abbrev pub many_line : ℕ → List ℕ → List ℕ → List ℕ
many_line n one more = decimal n ++ (codes " " ++ (if n == 1 then one else more))
