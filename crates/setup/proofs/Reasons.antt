-- The reason to refuse a setup at a place is the only one there.
use Rattle.std.proofs.Common.{◌≡◌, ℕ, ◌<◌, Bool, true, false, cond, eqb, List, [], ◌∷◌, Ok, Result, sym, refl, ap, ◌∙◌, subst, inl, inr, arith}
use Rattle.refusal.specs.declared.Refusal.{Refusal}
use Rattle.refusal.specs.declared.Refusal.TheVariants as no
use Rattle.refusal.specs.Numbers.{number}
use Rattle.format.specs.declared.command.Phase.{Phase}
use Rattle.format.specs.declared.command.Phase.TheVariants as at
use Rattle.format.specs.Format.{Cmd, Taken, batch, terms, contest, candidate, opens, count, close, allowed, code}
use Rattle.format.specs.Written.{Writes}
use Rattle.format.proofs.Writing.{written_is_taken}
use Rattle.refusal.specs.declared.Refusal.{Refusal}
use Rattle.setup.specs.Steps.{HeldLists}
use Rattle.setup.specs.Refused.{Added, Breaks, Full, Position, Reason, IsNext, behind_opening, phase_at}

-- ---- numbers

abbrev refusals : List Refusal
refusals =
    no.EndsEarly ∷ no.OutOfOrder ∷ no.BadBatch ∷ no.BadTerms ∷ no.BadContest ∷ no.TooManyAssertions ∷ no.TooManyVotes ∷ no.NoWinners
    ∷ no.TrailingBytes ∷ no.NoRoom ∷ no.BadPlace ∷ no.BadFound ∷ no.BadMarks ∷ no.NoDrawsLeft ∷ no.NotTheNextPlace ∷ no.CountUnfinished
    ∷ no.ReportTooLong ∷ no.PastTheEnd ∷ no.NoSetup ∷ []

abbrev numbered : ℕ → List Refusal → Refusal
numbered n [] = no.EndsEarly
numbered n (e ∷ es) = cond (eqb n (number e)) e (numbered n es)

numbered_back : (e : Refusal) → numbered (number e) refusals ≡ e
numbered_back no.EndsEarly = refl
numbered_back _ = refl

same_number : (d e : Refusal) → number d ≡ number e → d ≡ e
same_number d e h = sym (numbered_back d) ∙ ap (λ (n : ℕ). numbered n refusals) h ∙ numbered_back e

-- ---- a command is written in one way

abbrev phase_of : Cmd → Phase
phase_of (batch name cards) = at.Start
phase_of (terms r d policy weight) = at.Batches
phase_of (contest kind c k p q) = at.Terms
phase_of (candidate name votes) = at.Candidates
phase_of opens = at.Contests
phase_of (count place found marks) = at.Counting
phase_of close = at.Counting
phase_of _ = at.Drawing

stands_somewhere : (m : Cmd) → allowed (phase_of m) (code m) ≡ true
stands_somewhere opens = refl
stands_somewhere _ = refl

pub same_code : (m n : Cmd) (bs r s : List ℕ) → Writes m bs r → Writes n bs s → code m ≡ code n
same_code m n bs r s v w = let a = v.begins in let b = w.begins in cc

pub same_written : (m n : Cmd) (bs r s : List ℕ) → Writes m bs r → Writes n bs s → (m ≡ n) × (r ≡ s)
same_written m n bs r s v w =
    let ph = phase_of m in
    let a = written_is_taken ph m bs r v (stands_somewhere m) in
    let b = written_is_taken ph n bs s w (ap (allowed ph) (sym (same_code m n bs r s v w)) ∙ stands_somewhere m) in
    let e : ◌≡◌ {A = Result Taken Refusal} (Ok (record { command = m; rest = r })) (Ok (record { command = n; rest = s })) = sym a ∙ b in
    let t : ◌≡◌ {A = Taken} (record { command = m; rest = r }) (record { command = n; rest = s }) = cc in
    (ap (λ (z : Taken). z.command) t, ap (λ (z : Taken). z.rest) t)

-- ---- what a reason tells

-- Where no command may stand.
abbrev bare : Position → List ℕ → Refusal
bare behind_opening bs = no.TrailingBytes
bare w [] = no.EndsEarly
bare w (b ∷ tail) = cond (allowed (phase_at w) b) no.EndsEarly no.OutOfOrder

bare_end : (w : Position) → (w ≡ behind_opening → ⊥) → bare w [] ≡ no.EndsEarly
bare_end behind_opening c = absurd (c refl)
bare_end _ c = refl

bare_byte : (w : Position) (b : ℕ) (tail : List ℕ) (v : Bool) → (w ≡ behind_opening → ⊥) → allowed (phase_at w) b ≡ v →
    bare w (b ∷ tail) ≡ cond v no.EndsEarly no.OutOfOrder
bare_byte behind_opening b tail v c h = absurd (c refl)
bare_byte _ b tail v c h = ap (λ (z : Bool). cond z no.EndsEarly no.OutOfOrder) h

-- Of a command that stands there.
pub data Judged (ls : HeldLists) (a : Added) (w : Position) (m : Cmd) (e : Refusal) : Type 0 where
  crowded : no.NoRoom ≡ e → ((d : Refusal) → Breaks a w m d → ⊥) → Full ls a m → Judged ls a w m e
  broken : Breaks a w m e → ((d : Refusal) → number d < number e → Breaks a w m d → ⊥) → Judged ls a w m e

one_judgment : (ls : HeldLists) (a : Added) (w : Position) (m : Cmd) (d e : Refusal) → Judged ls a w m d → Judged ls a w m e → d ≡ e
one_judgment ls a w m d e (crowded f n u) (crowded g k v) = sym f ∙ g
one_judgment ls a w m d e (crowded f n u) (broken b k) = absurd (n e b)
one_judgment ls a w m d e (broken b k) (crowded f n u) = absurd (n d b)
one_judgment ls a w m d e (broken b k) (broken c l) =
    let x : number d < number e → ⊥ = λ h. l d h b in
    let y : number e < number d → ⊥ = λ h. k e h c in
    same_number d e (omega arith)

pub data Seen (ls : HeldLists) (a : Added) (w : Position) (bs : List ℕ) (e : Refusal) : Type 0 where
  none_stands : bare w bs ≡ e → ((m : Cmd) → IsNext w m bs → ⊥) → Seen ls a w bs e
  one_stands : (m : Cmd) → IsNext w m bs → Judged ls a w m e → Seen ls a w bs e

module _ (ls : HeldLists) (a : Added) (w : Position) where
  no_byte : (m : Cmd) → IsNext w m [] → ⊥
  no_byte m (rest, x, g) = let h = x.begins in absurd (cc)

  ended : (bs : List ℕ) → Reason ls a w bs no.EndsEarly → Seen ls a w bs no.EndsEarly
  ended bs (c, inl e) = subst (λ (z : List ℕ). Seen ls a w z no.EndsEarly) (sym e) (none_stands (bare_end w c) no_byte)
  ended bs (c, inr (b, tail, e, g, n)) =
      none_stands (ap (bare w) e ∙ bare_byte w b tail true c g) (λ m (rest, x, f). n m rest x)

  strayed : (bs : List ℕ) → Reason ls a w bs no.OutOfOrder → Seen ls a w bs no.OutOfOrder
  strayed bs (c, b, tail, e, g) =
      none_stands (ap (bare w) e ∙ bare_byte w b tail false c g)
      (λ m (rest, x, f).
      let h = x.begins in
      let front : code m ≡ b = cc in
      absurd (let k : true ≡ false = sym f ∙ ap (allowed (phase_at w)) front ∙ g in cc))

  followed : (bs : List ℕ) → Reason ls a w bs no.TrailingBytes → Seen ls a w bs no.TrailingBytes
  followed bs (e, some) =
      none_stands (ap (λ (z : Position). bare z bs) e)
      (λ m (rest, x, f). absurd (let k : true ≡ false = sym f ∙ ap (λ (z : Position). allowed (phase_at z) (code m)) e in cc))

  pub seen : (bs : List ℕ) (e : Refusal) → Reason ls a w bs e → Seen ls a w bs e
  seen bs no.EndsEarly h = ended bs h
  seen bs no.OutOfOrder h = strayed bs h
  seen bs no.TrailingBytes h = followed bs h
  seen bs no.NoRoom h = one_stands h.0 h.1 (crowded refl h.2 h.3)
  seen bs _ h = one_stands h.0 h.1 (broken h.2 h.3)

  by_sight : (bs : List ℕ) (d e : Refusal) → Seen ls a w bs d → Seen ls a w bs e → d ≡ e
  by_sight bs d e (none_stands f n) (none_stands g k) = sym f ∙ g
  by_sight bs d e (none_stands f n) (one_stands m s j) = absurd (n m s)
  by_sight bs d e (one_stands m s j) (none_stands f n) = absurd (n m s)
  by_sight bs d e (one_stands m (r, x, f) j) (one_stands k (s, y, g) i) =
      one_judgment ls a w m d e j (subst (λ (z : Cmd). Judged ls a w z e) (sym (same_written m k bs r s x y).0) i)

  pub one_reason : (bs : List ℕ) (d e : Refusal) → Reason ls a w bs d → Reason ls a w bs e → d ≡ e
  one_reason bs d e x y = by_sight bs d e (seen bs d x) (seen bs e y)
