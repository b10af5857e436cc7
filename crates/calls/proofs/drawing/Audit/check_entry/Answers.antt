use Rattle.std.proofs.Common.{◌≡◌, Bool, true, false, cond, Some, None, Option, if◌then◌else◌, ap, ◌∙◌, arith}
use Rattle.std.specs.Option.{ok_or}
use Rattle.std.proofs.lemmas.Grind.{common_steps}
use Rattle.std.proofs.lemmas.List.{take-map}
use Rattle.refusal.specs.declared.Refusal.TheVariants.{NoDrawsLeft}
use Rattle.calls.specs.Answers.{refusal_in}
use Rattle.calls.proofs.drawing.Audit.check_entry.Goals as goal

none_left : {X : Type 0} (b : Bool) (o : Option X) (x : X) → o ≡ (if b then None else Some x) → refusal_in (ok_or o NoDrawsLeft) ≡ cond b (Some NoDrawsLeft) None
none_left true o x e = ap (λ p. refusal_in (ok_or p NoDrawsLeft)) e
none_left false o x e = ap (λ p. refusal_in (ok_or p NoDrawsLeft)) e

pub returns-clause-refuses : goal.returns-clause-refuses
returns-clause-refuses g c =
    let told = ap refusal_in c.ok_or.ensures.value ∙ none_left _ _ _ c.first_to_draw.ensures.told in
    grind (arith, common_steps, take-map, told)

pub returns-clause-before : goal.returns-clause-before
returns-clause-before g c = grind (arith, common_steps, take-map)
