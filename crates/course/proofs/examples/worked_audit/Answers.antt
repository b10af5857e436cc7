use Rattle.std.proofs.Common.{ℕ, sym, refl, subst, inl, inr, ⊎_elim, arith}
use lib.Count.{ones, ones_in}
use Rattle.chance.specs.Sequences.Counted.{none, has, lacks}
use Rattle.course.specs.Example.{Worked}
use Rattle.course.proofs.examples.worked_audit.Goals as goal

worked : Worked 513 1
unfolding ones ones_in
worked = record {
  bets = refl;
  contradicted = inl (λ h. omega arith);
  lowest = refl;
  counted = lacks (⊎_elim (λ m. omega arith) (λ m. m)) (has (inl (omega arith, omega arith)) none);
  none_lower = lacks (⊎_elim (λ m. omega arith) (λ m. m)) (lacks (⊎_elim (λ m. omega arith) (λ m. m)) none);
  misled = lacks (⊎_elim (λ m. m) (⊎_elim (λ m. cc) (λ m. m))) (has (inr (inl refl)) none);
  bounded = omega arith;
  fits = record { number = refl; marked = (refl, (refl, tt)) };
  opens = record { fresh = (refl, tt); undrawn = refl; uncounted = refl };
  before = (tt, (tt, tt));
  lost = refl;
  won = refl;
  won_but_for_one = refl;
}

pub returns : goal.returns
returns c = let Q : ℕ → Type 0 = λ r. Worked r 1 in subst Q (sym c.risk.ensures.is) worked
