use Rattle.std.proofs.Common.{◌≡◌, map, length, drop}
use Rattle.betting.specs.Accounts.{account}
use Rattle.course.specs.Course.{rules_of}
use Rattle.calls.specs.Calls.{terms_of}
use Rattle.conduct.proofs.Conducts.{SoFar}
use Rattle.conduct.proofs.conducting.answer_all.Given as goal

abbrev pub invariant-loop-i : goal.invariant-loop-i
invariant-loop-i g l =
    let m = account {A = g.row.A.Denot} g.P.Policy.state in
    let S = g.S.Stage in
    let t = S.terms l.initial.stage in
    record {
      so_far : SoFar (rules_of g.A.Assorter g.P.Policy) (terms_of t) (S.state _ _ l.initial.stage (map m l.initial.records))
          (map S.asked l.calls) l.i (S.state _ _ l.stage (map m l.records)) l.answers;
      terms : S.terms l.stage ≡ t;
      beyond : drop t.needed l.records ≡ drop t.needed l.initial.records;
      places : drop (length l.calls) l.answers ≡ drop (length l.calls) l.initial.answers;
    }
