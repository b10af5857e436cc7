use Rattle.std.proofs.Common.{eqb, ◌∙◌, rules}
use borrow.Author.Tests.{tests}
use Rattle.std.proofs.lemmas.Iterator.{YieldsList-from_slice}
use Rattle.std.proofs.lemmas.Iterator.Search.{all_from_yields_List}
use Rattle.calls.proofs.Fits.{all_blank}
use Rattle.calls.proofs.terms.showing.is_blank.Goals as goal

pub returns : goal.returns
returns c =
    all_from_yields_List (λ m. eqb m 0) _ _ c.all.result c.all.ensures.ran (YieldsList-from_slice c.args.marks.now cc)
    (λ x b q k. search (rules, tests))
    ∙ all_blank c.args.marks.now
