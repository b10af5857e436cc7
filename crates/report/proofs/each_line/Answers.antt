use Rattle.std.proofs.Common.{◌≡◌, ◌+◌, ◌++◌, get_or, arith}
use Rattle.report.proofs.Numbered.{numbered_more}
use Rattle.report.proofs.each_line.Goals as goal

pub loop-i-preserved : goal.loop-i-preserved
loop-i-preserved g c =
    let xs = c.args.items.now in
    let i = c.loop-i.i in
    let x = c.index-items-i.result in
    record {
      so_far = λ item writes.
          let line = writes (i + 1) x c.line.result c.line.ensures in
          let e : c.push_str.new.self.bytes ≡ c.loop-i.text.bytes ++ item (i + 1) (get_or xs i x) = cc in
          numbered_more item xs i x _ _ (omega arith) (c.loop-i.invariant.so_far item writes) e;
      room = omega arith;
    }
