use Rattle.std.proofs.Common.{◌≡◌, ◌+◌, ◌-◌, ◌≤◌, ◌∷◌, length, ◌++◌, map, take, set, Ok, ap, ◌∙◌, arith}
use borrow.Rule.Slice.PartMut.{put_mid}
use Rattle.std.proofs.lemmas.List.{drop-set-lt, length-set, take_more_set}
use Rattle.betting.specs.Accounts.{account}
use Rattle.course.specs.Course.{rules_of}
use Rattle.course.specs.Laws.{left_by}
use Rattle.calls.specs.declared.answers.Answer.TheVariants.{Taken}
use Rattle.calls.specs.Calls.{audit_state, count_call, terms_of}
use Rattle.calls.proofs.Escalations.{same_state}
use Rattle.conduct.specs.Conducts.{answers_by}
use Rattle.conduct.proofs.Tails.{drop_tail, take_tail}
use Rattle.conduct.proofs.conducting.escalate_and_tally.Goals as goal

pub returns-clause-answers : goal.returns-clause-answers
returns-clause-answers g c =
    let R = rules_of g.A.Assorter g.P.Policy in
    let audit = c.args.audit in
    let hand = c.escalate-hand.result in
    let accounts = map (account {A = g.row.A.Denot} g.P.Policy.state) c.args.records.now in
    let cs = map count_call c.args.calls.now in
    let old = c.args.answers.now in
    let xs = set old 0 (Ok Taken) in
    let ys = c.answer_all.new.answers in
    let n = length c.args.calls.now in
    let within : 1 ≤ length xs = omega (arith, length-set old 0 (Ok Taken), c.requires.places) in
    let front : take (n + 1) (put_mid 1 (length xs - 1) xs ys) ≡ Ok Taken ∷ take n ys =
    take_tail 1 n (n + 1) xs ys within (omega arith) ∙ ap (λ zs. zs ++ take n ys) (take_more_set old 0 (Ok Taken) (omega (arith, c.requires.places))) in
    let escalated = same_state audit hand c.escalate-hand.ensures.course c.escalate-hand.ensures.terms accounts in
    front
    ∙ ap (λ zs. Ok Taken ∷ zs)
    (c.answer_all.ensures.answers ∙ ap (λ σ. answers_by R (terms_of hand.terms) σ cs) escalated
    ∙ ap (λ t. answers_by R (terms_of t) (audit_state audit accounts) cs) c.escalate-hand.ensures.terms)

pub returns-clause-left : goal.returns-clause-left
returns-clause-left g c =
    let R = rules_of g.A.Assorter g.P.Policy in
    let audit = c.args.audit in
    let hand = c.escalate-hand.result in
    let accounts = map (account {A = g.row.A.Denot} g.P.Policy.state) c.args.records.now in
    let cs = map count_call c.args.calls.now in
    let escalated = same_state audit hand c.escalate-hand.ensures.course c.escalate-hand.ensures.terms accounts in
    c.answer_all.ensures.left ∙ ap (λ σ. left_by R (terms_of hand.terms) σ cs) escalated
    ∙ ap (λ t. left_by R (terms_of t) (audit_state audit accounts) cs) c.escalate-hand.ensures.terms

pub returns-clause-places : goal.returns-clause-places
returns-clause-places g c =
    let old = c.args.answers.now in
    let n = length c.args.calls.now in
    drop_tail 1 n (n + 1) (set old 0 (Ok Taken)) c.answer_all.new.answers (omega (arith, length-set old 0 (Ok Taken), c.requires.places)) (omega arith) old
    (drop-set-lt 1 old 0 (Ok Taken) (omega arith)) c.answer_all.ensures.places
