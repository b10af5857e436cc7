use Rattle.std.proofs.Common.{◌∙◌, arith}
use Rattle.betting.specs.Accounts.{account, played}
use Rattle.betting.proofs.Cuts.{cut_played, played_low, uncut}
use Rattle.betting.proofs.games.play.Goals as goal

pub returns-clause-moves : goal.returns-clause-moves
returns-clause-moves g c = grind (arith, cut_played)

pub returns-clause-rules : goal.returns-clause-rules
returns-clause-rules g c r =
    let p = g.P.Policy in
    let held = c.args.held.now in
    let half = c.args.half in
    let value = c.args.value in
    let limit = c.args.risk_limit in
    let x = account {A = g.row.A.Denot} p.state held in
    let low = played_low p.bets p.told half value limit x r (g.met.P.Policy.modest x.state) held.ranges.0 held.ranges.2 in
    returns-clause-moves g c ∙ uncut (played p.bets p.told half value limit x) low.0 low.1
