-- Items appended one after the other fill the memory from its front.
use Rattle.std.proofs.Common.{◌≡◌, ◌+◌, ◌<◌, ◌≤◌, true, ltb, List, [], ◌∷◌, ◌++◌, length, get_or, drop, set, ap, ◌∙◌, arith, length-append, length-drop, lt-ltb}
use Rattle.std.proofs.lemmas.List.{append_assoc, drop_more, length_push}
use Rattle.std.proofs.Math.Seq.{set-append_seam}
use Rattle.bounded.specs.Lists.{appended, filled, has_room}

module _ {T : Type 0} where
  pub length_filled : (xs memory : List T) → length xs ≤ length memory → length (filled xs memory).memory ≡ length memory
  length_filled xs memory h = simp (length-append, length-drop) (omega arith)

  pub room_filled : (xs memory : List T) → length xs ≤ length memory → has_room (filled xs memory) ≡ ltb (length xs) (length memory)
  room_filled xs memory h = ap (λ n. ltb (length xs) n) (length_filled xs memory h)

  placed : (xs memory : List T) (x : T) → length xs < length memory →
      set (xs ++ drop (length xs) memory) (length xs) x ≡ xs ++ (x ∷ drop (length xs + 1) memory)
  placed xs memory x h =
      let m = drop_more memory (length xs) x h in
      let s = set-append_seam xs (get_or memory (length xs) x) (drop (length xs + 1) memory) x in cc

  pub appended_filled : (xs memory : List T) (x : T) → length xs < length memory →
      appended (filled xs memory) x ≡ filled (xs ++ x ∷ []) memory
  appended_filled xs memory x h =
      let room : has_room (filled xs memory) ≡ true =
      room_filled xs memory (omega arith) ∙ lt-ltb (length xs) (length memory) h in
      let p = placed xs memory x h in
      let a = append_assoc xs (x ∷ []) (drop (length xs + 1) memory) in
      let l : length (xs ++ x ∷ []) ≡ length xs + 1 = omega (arith, length_push xs x) in
      simp (room, l) (cc)
