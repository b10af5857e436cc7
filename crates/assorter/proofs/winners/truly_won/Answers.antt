use Rattle.std.proofs.Common.{◌≡◌, map, Ok, Result, refl, ap, ◌∙◌, subst}
use Rattle.refusal.specs.declared.Refusal.{Refusal}
use Rattle.assertion.specs.Assertions.{plan_of, planned}
use Rattle.assorter.specs.Outcomes.{TellsWon}
use Rattle.assorter.proofs.winners.truly_won.Goals as goal

pub returns-clause-tells : goal.returns-clause-tells
returns-clause-tells c =
    let xs = c.args.contests.now in
    let cs = c.args.candidates.now in
    let stand = c.in_ok-list_assertions.ensures.stand refl in
    let same : map plan_of c.items.result.now ≡ planned 0 xs cs = ap (map plan_of) c.items.ensures ∙ c.in_ok-list_assertions.ensures.holds.items in
    subst (λ (r : Result Unit Refusal). TellsWon xs cs c.args.cards.now r (Ok c.all_hold.result)) c.in_ok-list_assertions.ensures.answer
    (c.all_hold.ensures.contests xs cs stand.each_stands same)
