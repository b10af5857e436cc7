use Rattle.std.proofs.Common.{map, Ok, ap}
use Rattle.betting.specs.Accounts.{account}
use Rattle.calls.specs.declared.answers.Answer.TheVariants.{Taken}
use Rattle.calls.proofs.Escalations.{same_state}
use Rattle.replay.proofs.follow.follow.Goals as goal

pub returns-in-None-clause-course : goal.returns-in-None-clause-course
returns-in-None-clause-course g c =
    let accounts = map (account {A = g.row.A.Denot} g.P.Policy.state) c.args.records.now in
    let escalated = same_state c.in-Drawing.audit c.escalate.result c.escalate.ensures.course c.escalate.ensures.terms accounts in
    rw (c.in-None.ensures, c.in-Drawing.is) (ap (λ σ. (σ, Ok Taken)) escalated)
