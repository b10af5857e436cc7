use Rattle.std.proofs.Common.{sym, ◌∙◌}
use Rattle.names.proofs.Blanks.{blank_last, one_blank_more, sign_last}
use Rattle.names.proofs.without_blanks.Goals as goal

pub loop-left-preserved : goal.loop-left-preserved
loop-left-preserved c =
    let left = c.loop-left.left.now in
    let some = c.in-len1-up.len_at_least in
    let blank = c.if-last-eq-BLANK.true in
    record {
      same = blank_last left some blank ∙ c.loop-left.invariant.same;
      blanks = one_blank_more left some c.args.bytes.now c.loop-left.invariant.blanks blank;
    }

pub returns-else-last-eq-BLANK-clause-is : goal.returns-else-last-eq-BLANK-clause-is
returns-else-last-eq-BLANK-clause-is c =
    sym (sign_last c.loop-left.left.now c.in-len1-up.len_at_least c.if-last-eq-BLANK.false) ∙ c.loop-left.invariant.same
