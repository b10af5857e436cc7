use Rattle.std.proofs.Common.{option_copied, ◌∙◌, arith}
use Rattle.course.specs.Course.{rules_of}
use Rattle.walks.proofs.Tests.{seen_worth}
use Rattle.walks.proofs.enter_one.Goals as goal

pub returns : goal.returns
returns g c =
    let worth = c.shown_value-value.ensures.is ∙ seen_worth (rules_of g.A.Assorter g.P.Policy) (option_copied c.args.card) c.args.held.now.assorter in
    record {
      moves = grind (arith, worth, c.half-half.ensures, c.play.ensures.moves);
      rules = λ h. grind (arith, worth, c.half-half.ensures, c.play.ensures.rules);
    }
