use Rattle.std.proofs.Common.{◌≡◌, ◌+◌, ◌-◌, ◌<◌, ◌≤◌, List, [], ◌∷◌, ◌++◌, map, length, take, drop, set, Some, Ok, Err, Result, sym, ap, ◌∙◌, subst, arith, rules}
use Rattle.std.proofs.lemmas.List.{drop-drop, drop-set-lt, length-set, take_more_set}
use Rattle.std.proofs.lemmas.Grind.{common_steps}
use Rattle.refusal.specs.declared.File.TheVariants.{Draws}
use Rattle.refusal.specs.declared.Refusal.{Refusal}
use Rattle.betting.specs.Accounts.{account}
use Rattle.format.specs.declared.command.Phase.{Phase}
use Rattle.format.specs.Counted.{commands_begun}
use Rattle.format.specs.Format.{meant}
use Rattle.format.proofs.Counting.{counts_each}
use Rattle.format.proofs.Writing.{taken_as_written}
use Rattle.course.specs.Course.{rules_of}
use Rattle.calls.specs.declared.answers.Answer.{Answer}
use Rattle.calls.specs.declared.terms.Terms.{Terms}
use Rattle.calls.specs.Answers.{KeptOnRefusal}
use Rattle.calls.specs.Calls.{audit_state, standing_state, standing_terms, terms_of}
use Rattle.replay.specs.Following.{Asked, StandsAfter, standing_phase}
use Rattle.replay.specs.Replays.{Followed, Replays, StandsAt, call_of, phase_after}
use Rattle.replay.proofs.Commands.{followed_more}
use Rattle.replay.proofs.Ends.{room_kept, stops_refused, taken_allowed, taken_phase}
use Rattle.replay.proofs.draws.follow_commands.Goals as goal

pub follow-stands-requires-clause-order : goal.follow-stands-requires-clause-order
follow-stands-requires-clause-order g c =
    taken_allowed c.commands.phase c.commands.standing (meant c.in-Ok.taken.0) c.commands.rest.now c.in-Ok.taken.1.now
    c.commands.invariant.stands (sym c.in-Ok.ensures.value)

pub commands-preserved : goal.commands-preserved
commands-preserved g c =
    let i = c.commands.invariant in
    let t = c.args.audit.terms in
    let f = account {A = g.row.A.Denot} g.P.Policy.state in
    let R = rules_of g.A.Assorter g.P.Policy in
    let m = meant c.in-Ok.taken.0 in
    let ph = c.commands.phase in
    let s = c.commands.standing in
    let u = c.follow-stands.result.0 in
    let rs = c.commands.records in
    let qs = c.follow-stands.new.records in
    let rest = c.commands.rest.now in
    let after = c.in-Ok.taken.1.now in
    let k = c.commands.answered in
    let xs = c.commands.answers in
    let a = c.in-Ok-answer.answer in
    let σ = standing_state s (map f rs) in
    let τ = standing_state u (map f qs) in
    let start = audit_state c.args.audit (map f c.args.records.now) in
    let reads = sym c.in-Ok.ensures.value in
    let asked : Asked R (terms_of t) σ (call_of m) (τ, Ok a) =
    subst (λ (r : Result Answer Refusal). Asked R (terms_of t) σ (call_of m) (τ, r)) c.in-Ok-answer.is
    (subst (λ (x : Terms). Asked R (terms_of x) σ (call_of m) (τ, c.follow-stands.result.1)) i.terms c.follow-stands.ensures.course) in
    let one : commands_begun rest ≡ 1 + commands_begun after = counts_each rest m after (taken_as_written ph m rest after reads).0 in
    let place : k < length xs = omega (arith, one, i.within, i.places, c.requires.places) in
    let same_terms : standing_terms u ≡ t = search rules in
    let more = followed_more R (terms_of t) start σ τ c.args.file.now rest after ph
    (take k xs) m a i.followed reads asked in
    let told : take k xs ++ (a ∷ []) ≡ take (k + 1) (set xs k a) = sym (take_more_set xs k a place) in
    let phase : phase_after (standing_phase s) m ≡ c.phase_after-next.result =
    ap (λ (x : Phase). phase_after x m) (sym (taken_phase ph s m rest after i.stands reads)) ∙ sym c.phase_after-next.ensures in
    record {
      followed =
          subst (λ (ys : List Answer). Followed R (terms_of t) start c.args.file.now after c.phase_after-next.result ys τ) told
          (subst (λ (x : Phase). Followed R (terms_of t) start c.args.file.now after x (take k xs ++ (a ∷ [])) τ)
          (sym c.phase_after-next.ensures) more);
      stands =
          subst (λ (x : Phase). StandsAt x u) phase
          (subst (λ (r : Result Answer Refusal). StandsAfter r (phase_after (standing_phase s) m) u) c.in-Ok-answer.is c.follow-stands.ensures.stands);
      terms = same_terms;
      records = search rules;
      answers =
          drop-set-lt (k + 1) xs k a (omega arith) ∙ sym (drop-drop 1 k xs) ∙ ap (drop 1) i.answers ∙ drop-drop 1 k c.args.answers.now;
      room =
          room_kept f t.needed s u rs qs (ap (λ (x : Terms). x.needed) i.terms) (ap (λ (x : Terms). x.needed) same_terms) i.room R (terms_of t)
          (call_of m) (Ok a) asked;
      within = omega (arith, one, i.within);
      shorter = omega (arith, i.shorter, c.in-Ok.ensures.shorter);
      places = length-set xs k a ∙ i.places;
    }

pub returns-in-Err-answer-clause-replays : goal.returns-in-Err-answer-clause-replays
returns-in-Err-answer-clause-replays g c =
    let i = c.commands.invariant in
    let t = terms_of c.args.audit.terms in
    let f = account {A = g.row.A.Denot} g.P.Policy.state in
    let R = rules_of g.A.Assorter g.P.Policy in
    let m = meant c.in-Ok.taken.0 in
    let s = c.commands.standing in
    let u = c.follow-stands.result.0 in
    let rs = c.commands.records in
    let qs = c.follow-stands.new.records in
    let rest = c.commands.rest.now in
    let file = c.args.file.now in
    let e = c.in-Err-answer.refused in
    let σ = standing_state s (map f rs) in
    let τ = standing_state u (map f qs) in
    let kept : (u ≡ s) × (qs ≡ rs) =
    subst (λ (r : Result Answer Refusal). KeptOnRefusal r s u × KeptOnRefusal r rs qs) c.in-Err-answer.is c.follow-stands.ensures.kept in
    let asked : Asked R t σ (call_of m) (τ, Err e) =
    subst (λ (r : Result Answer Refusal). Asked R t σ (call_of m) (τ, r)) c.in-Err-answer.is
    (subst (λ (x : Terms). Asked R (terms_of x) σ (call_of m) (τ, c.follow-stands.result.1)) i.terms c.follow-stands.ensures.course) in
    let some : 1 ≤ length rest = grind (arith, common_steps) in
    let stops = stops_refused R t σ τ file rest c.in-Ok.taken.1.now c.commands.phase m e (sym c.in-Ok.ensures.value) asked
    some i.shorter in
    let there : Replays R t (audit_state c.args.audit (map f c.args.records.now)) file (take c.commands.answered c.commands.answers)
    (Some (record { refusal = e; file = Draws; offset = length file - length rest })) s σ =
    record { rest = rest; at = c.commands.phase; followed = i.followed; stands = i.stands; stops = stops } in
    rw (c.stopped-in-Err-answer.ensures, kept.0, kept.1) there
