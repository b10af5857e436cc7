-- A file is refused for the first reason that there is, and a file that is accepted gives none.
use Rattle.std.proofs.Common.{◌≡◌, ℕ, ◌≤◌, true, List, [], ◌∷◌, ◌++◌, length, sym, refl, ap, ◌∙◌, subst, arith}
use Rattle.std.proofs.lemmas.List.{append_assoc, append-nil}
use Rattle.refusal.specs.declared.Fault.{Fault}
use Rattle.refusal.specs.declared.Refusal.{Refusal}
use Rattle.refusal.specs.declared.Refusal.TheVariants as no
use Rattle.format.specs.declared.command.Phase.{Phase}
use Rattle.format.specs.Format.{Cmd, allowed, code}
use Rattle.format.specs.Written.{Writes}
use Rattle.setup.specs.declared.progress.Progress.{Progress}
use Rattle.setup.specs.Described.{WrittenBefore}
use Rattle.setup.specs.Steps.{HeldLists, Stepped, without_items}
use Rattle.setup.specs.Accepted.{RefusedAfter, lists_after}
use Rattle.setup.specs.Refused.{LeadTo, Position, Reason, all_added, behind_opening, phase_at}
use Rattle.setup.proofs.Added.{lists_along}
use Rattle.setup.proofs.Known.{Known, known_along}
use Rattle.setup.proofs.Leads.{Leads, here, then}
use Rattle.setup.proofs.Positions.{one_position}
use Rattle.setup.proofs.Reasons.{Judged, Seen, broken, crowded, none_stands, one_reason, one_stands, same_written, seen}
use Rattle.setup.proofs.Refused.{Passes, passes_on, phase_there}

-- ---- where a command was followed there is no reason

module _ (ls : HeldLists) (ms : List Cmd) (w : Position) (bs : List ℕ) (e : Refusal) (m : Cmd) (rest : List ℕ) (x : Writes m bs rest)
    (stands : allowed (phase_at w) (code m) ≡ true) (pass : Passes ls (all_added ms) w m) where
  no_judgment : Judged ls (all_added ms) w m e → ⊥
  no_judgment (crowded f n full) = pass.1 full
  no_judgment (broken b n) = pass.0 e b

  not_seen : Seen ls (all_added ms) w bs e → ⊥
  not_seen (none_stands f n) = n m (rest, x, stands)
  not_seen (one_stands k (s, y, g) j) = no_judgment (subst (λ (z : Cmd). Judged ls (all_added ms) w z e) (same_written k m bs s rest y x).0 j)

-- ---- commands that were followed lead past no reason

pub past_none : (ls : HeldLists) (p : Progress) (l : HeldLists) (front : List Cmd) (ms : List Cmd) (q : Progress) (mid : HeldLists) (bs rest : List ℕ) →
    Known ls p l front → l ≡ lists_after ls front → Leads p l ms q mid → WrittenBefore ms bs rest →
    (ns : List Cmd) (left : List ℕ) → WrittenBefore ns bs left → (w : Position) → LeadTo w (front ++ ns) → (e : Refusal) →
    Reason ls (all_added (front ++ ns)) w left e → length ms ≤ length ns
past_none ls p l front [] q mid bs rest k a here v ns left u w led e r = omega arith
past_none ls p l front (m ∷ ms) q mid bs rest k a (then {q = p'} {mid = next} o g s lead) (mid_bytes, x, v) [] left u w led e r =
    let same = append-nil front in
    let led' = subst (LeadTo w) same led in
    let r' : Reason ls (all_added front) w bs e =
    subst (λ (z : List ℕ). Reason ls (all_added front) w z e) (sym u) (subst (λ (z : List Cmd). Reason ls (all_added z) w left e) same r) in
    let stands = ap (λ (ph : Phase). allowed ph (code m)) (phase_there ls p l front k w led') ∙ g in
    let pass = passes_on ls p l front k a m p' o g (ap (λ (z : Stepped). z.answer) s) w led' in
    absurd (not_seen ls front w bs e m mid_bytes x stands pass (seen ls (all_added front) w bs e r'))
past_none ls p l front (m ∷ ms) q mid bs rest k a (then {q = p'} {mid = next} o g s lead) (mid_bytes, x, v) (n ∷ ns) left (after, y, u) w led e r =
    let same = same_written n m bs after mid_bytes y x in
    let one = then o g s here in
    let k' = known_along ls p p' l next front (m ∷ []) k one in
    let a' = lists_along ls front (m ∷ []) p p' l next a one in
    let grown : front ++ (n ∷ ns) ≡ (front ++ (m ∷ [])) ++ ns =
    ap (λ (z : Cmd). front ++ (z ∷ ns)) same.0 ∙ sym (append_assoc front (m ∷ []) ns) in
    let rest' = past_none ls p' next (front ++ (m ∷ [])) ms q mid mid_bytes rest k' a' lead v ns left
    (subst (λ (z : List ℕ). WrittenBefore ns z left) same.1 u) w (subst (LeadTo w) grown led) e
    (subst (λ (z : List Cmd). Reason ls (all_added z) w left e) grown r) in
    omega arith

-- ---- whole commands at the front of a file

pub same_front : (ms ns : List Cmd) (bs r s : List ℕ) → WrittenBefore ms bs r → WrittenBefore ns bs s → length ms ≡ length ns → (ms ≡ ns) × (r ≡ s)
same_front [] [] bs r s v w h = (refl, sym v ∙ w)
same_front [] (n ∷ ns) bs r s v w h = absurd (omega arith)
same_front (m ∷ ms) [] bs r s v w h = absurd (omega arith)
same_front (m ∷ ms) (n ∷ ns) bs r s (a, x, v) (b, y, w) h =
    let one = same_written m n bs a b x y in
    let more = same_front ms ns b r s (subst (λ (z : List ℕ). WrittenBefore ms z r) one.1 v) w (omega arith) in
    (let f = one.0 in let g = more.0 in cc, more.1)

pub none_longer : (ms ns : List Cmd) (bs s : List ℕ) → WrittenBefore ms bs [] → WrittenBefore ns bs s → length ms ≤ length ns → length ms ≡ length ns
none_longer [] [] bs s v w h = refl
none_longer [] (n ∷ ns) bs s v (b, y, w) h = let f = y.begins in absurd (cc)
none_longer (m ∷ ms) [] bs s v w h = absurd (omega arith)
none_longer (m ∷ ms) (n ∷ ns) bs s (a, x, v) (b, y, w) h =
    let one = same_written m n bs a b x y in
    let more = none_longer ms ns b s (subst (λ (z : List ℕ). WrittenBefore ms z []) one.1 v) w (omega arith) in
    omega arith

-- ---- of a fault with the first reason there is one

module _ (ls : HeldLists) (file : List ℕ) where
  pub one_fault : (f g : Fault) (after later : HeldLists) → RefusedAfter ls file f after → RefusedAfter ls file g later → (f ≡ g) × (after ≡ later)
  one_fault f g after later x y =
      let a = x.first y.commands y.rest g.refusal y.refused in
      let b = y.first x.commands x.rest f.refusal x.refused in
      let same = same_front x.commands y.commands file x.rest y.rest x.refused.written y.refused.written (omega arith) in
      let led = subst (LeadTo x.refused.position) same.0 x.refused.led in
      let place = one_position y.commands x.refused.position y.refused.position led y.refused.led in
      let reason : Reason ls (all_added y.commands) y.refused.position y.rest f.refusal =
      subst (λ (z : Position). Reason ls (all_added y.commands) z y.rest f.refusal) place
      (subst (λ (z : List ℕ). Reason ls (all_added y.commands) x.refused.position z f.refusal) same.1
      (subst (λ (z : List Cmd). Reason ls (all_added z) x.refused.position x.rest f.refusal) same.0 x.refused.reason)) in
      let number : f.refusal ≡ g.refusal = one_reason ls (all_added y.commands) y.refused.position y.rest f.refusal g.refusal reason y.refused.reason in
      let one_file : f.file ≡ g.file = x.in_setup ∙ sym y.in_setup in
      let long = ap length same.1 in
      let offset : f.offset ≡ g.offset = omega (arith, x.there, y.there) in
      let whole : ◌≡◌ {A = Fault} (record { refusal = f.refusal; file = f.file; offset = f.offset }) (record { refusal = g.refusal; file = g.file; offset = g.offset }) = cc in
      (whole, x.left ∙ ap (λ (z : List Cmd). without_items (lists_after ls z)) same.0 ∙ sym y.left)

-- Behind the opening, with no byte left, there is no reason.
pub none_at_end : (ls : HeldLists) (ms : List Cmd) (e : Refusal) → Seen ls (all_added ms) behind_opening [] e → Reason ls (all_added ms) behind_opening [] e → ⊥
none_at_end ls ms e (one_stands m (rest, x, g) j) r = let f = x.begins in absurd (cc)
none_at_end ls ms e (none_stands f n) r =
    let t : Reason ls (all_added ms) behind_opening [] no.TrailingBytes = subst (Reason ls (all_added ms) behind_opening []) (sym f) r in
    absurd (omega (arith, t.1))
