use Rattle.std.proofs.Common.{◌≡◌, ◌+◌, ◌≤◌, ◌++◌, map, length, take, sym, ap, ◌∙◌, arith, rules}
use Rattle.std.proofs.lemmas.Grind.{common_steps}
use Rattle.betting.specs.Accounts.{account}
use Rattle.course.specs.Course.{rules_of}
use Rattle.course.specs.Laws.{left_by}
use Rattle.calls.specs.Calls.{audit_state, draw_call, terms_of}
use Rattle.conduct.specs.Conducts.{all_calls, answers_by, later_calls}
use Rattle.conduct.proofs.Escalations.{answers_both, left_both}
use Rattle.conduct.proofs.Tails.{drop_tail, take_tail}
use Rattle.conduct.proofs.conducting.play_all.Goals as goal

pub returns-in-Some-clause-course : goal.returns-in-Some-clause-course
returns-in-Some-clause-course g c =
    let R = rules_of g.A.Assorter g.P.Policy in
    let t = terms_of c.args.audit.terms in
    let σ = audit_state c.args.audit (map (account {A = g.row.A.Denot} g.P.Policy.state) c.args.records.now) in
    let k = length c.args.before.now in
    let n = length c.in-Some.calls.now + 1 in
    let cs = map draw_call c.args.before.now in
    let ds = later_calls c.args.later in
    let drawn = c.answer_all.new.answers in
    let ys = c.escalate_and_tally-hand.new.answers in
    let all : length (all_calls c.args.before.now c.args.later) ≡ k + n = rw c.in-Some.is (grind (arith, common_steps)) in
    let within : k ≤ length drawn = search rules in
    let drew : take k drawn ≡ answers_by R t σ cs = search rules in
    let tallied : take n ys ≡ answers_by R t (left_by R t σ cs) ds = search rules in
    record {
      answered =
          take_tail k n (length (all_calls c.args.before.now c.args.later)) drawn ys within all
          ∙ ap (λ zs. zs ++ take n ys) drew ∙ ap (λ zs. answers_by R t σ cs ++ zs) tallied
          ∙ sym (answers_both R t σ cs ds);
      left = (search rules) ∙ sym (left_both R t σ cs ds);
      same_terms = search rules;
    }

pub returns-in-Some-clause-places : goal.returns-in-Some-clause-places
returns-in-Some-clause-places g c =
    let k = length c.args.before.now in
    let n = length c.in-Some.calls.now + 1 in
    let drawn = c.answer_all.new.answers in
    let all : length (all_calls c.args.before.now c.args.later) ≡ k + n = rw c.in-Some.is (grind (arith, common_steps)) in
    let within : k ≤ length drawn = search rules in
    drop_tail k n (length (all_calls c.args.before.now c.args.later)) drawn c.escalate_and_tally-hand.new.answers within all c.args.answers.now
    c.answer_all.ensures.places c.escalate_and_tally-hand.ensures.places
