use Rattle.std.proofs.Common.{◌/◌, ◌^◌, ◌≤◌, sym, ◌∙◌, ⊎_elim, arith, pow_pos, pow_mono}
use native.Mathlib.Nat.{div-eq_of_lt}
use Rattle.std.proofs.lemmas.Nat.{le-div}
use Rattle.std.proofs.lemmas.Bool.{cases_lt, eq-eqb, le-leb, le-ltb, lt-ltb, ne_eqb}
use Rattle.calls.proofs.terms.showing.fits.Goals as goal

pub returns-then-candidates-ge32 : goal.returns-then-candidates-ge32
returns-then-candidates-ge32 c =
    let high : 2 ^ 32 ≤ 2 ^ c.args.candidates = pow_mono c.if-candidates-ge32.true in
    le-leb 32 c.args.candidates c.if-candidates-ge32.true ∙ sym (lt-ltb c.args.marks (2 ^ c.args.candidates) (omega arith))

pub returns-else-candidates-ge32 : goal.returns-else-candidates-ge32
returns-else-candidates-ge32 c =
    let m = c.args.marks in
    let p = 2 ^ c.args.candidates in
    ⊎_elim (λ h. eq-eqb (m / p) 0 (div-eq_of_lt h) ∙ sym (lt-ltb m p h))
    (λ h.
    let some = le-div 1 m p (pow_pos c.args.candidates) (omega arith) in
    ne_eqb (m / p) 0 (λ e. omega arith) ∙ sym (le-ltb m p h))
    (cases_lt m p)
