use Rattle.std.proofs.Common.{◌∙◌, rules}
use borrow.Author.Tests.{tests}
use Rattle.std.proofs.lemmas.Iterator.{YieldsList-from_slice}
use Rattle.std.proofs.lemmas.Iterator.Search.{all_from_yields_List}
use Rattle.betting.specs.Sums.{settled}
use Rattle.walks.proofs.Tests.{settled_tests}
use Rattle.walks.proofs.each_settled.Goals as goal

pub returns : goal.returns
returns g c =
    all_from_yields_List (λ r. settled r.peak c.args.limit) _ _ _ c.all.ensures.ran
    (YieldsList-from_slice c.args.records.now (cc)) (λ x b q k. search (rules, tests))
    ∙ settled_tests g.P.Policy.state c.args.limit c.args.records.now
