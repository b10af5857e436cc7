use Rattle.std.proofs.Common.{◌*◌, ◌∙◌, nat_lt, rules}
use borrow.Author.Tests.{tests}
use Rattle.std.proofs.lemmas.Iterator.{YieldsList-from_slice}
use Rattle.std.proofs.lemmas.Iterator.Search.{all_from_yields_List}
use Rattle.course.specs.Course.{rules_of}
use Rattle.walks.proofs.Tests.{above_tests}
use Rattle.walks.proofs.all_above.Goals as goal

pub returns : goal.returns
returns g c =
    let R = rules_of g.A.Assorter g.P.Policy in
    all_from_yields_List (λ r. nat_lt (g.A.Assorter.halves r.assorter * c.args.cards) r.tally) _ _ _ c.all.ensures.ran
    (YieldsList-from_slice c.args.records.now (cc)) (λ x b q k. search (rules, tests))
    ∙ above_tests g.P.Policy.state R c.args.cards c.args.records.now
