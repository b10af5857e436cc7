use Rattle.std.proofs.Common.{◌≤◌, length, map, take, sum, arith}
use Rattle.std.proofs.lemmas.Grind.{common_steps}
use Rattle.std.proofs.lemmas.Bool.Decides.{nat_tests}
use Rattle.betting.specs.Accounts.{account}
use Rattle.betting.specs.Policies.{chosen_state}
use Rattle.calls.specs.Calls.{standing_state, terms_of}
use Rattle.replay.specs.Replays.{HasRoom}
use Rattle.transcript.specs.Transcripts.{TextOf, transcript}
use Rattle.transcript.proofs.Telling.{if_made, told}
use Rattle.transcript.proofs.files.follow.Goals as goal

pub returns : goal.returns
returns c =
    let s = c.args.setup in
    let xs = c.items-contests.result.now in
    let cs = c.items-candidates.result.now in
    let draws = c.args.draws.now in
    let audit = c.in-Ok.audit in
    let r = c.replay-replayed in
    let accounts = map (account chosen_state) c.open.new.records in
    let answers = take r.result.answered r.new.answers in
    let begun = c.in-Ok.ensures.begun in
    let total = audit.terms.total in
    let needed = begun.of_setup.needed in
    let enough : sum (terms_of audit.terms).assertions ≤ length c.open.new.records =
    grind (arith, nat_tests, total, needed, c.in-Ok.ensures.answer.1, c.open.auto.records) in
    let room : HasRoom (terms_of audit.terms) (length c.open.new.records) draws (length c.as_mut_slice-places.result.now) =
    record { for_records = enough; for_answers = grind (arith, common_steps, c.in_ok-answers.ensures.len, c.as_mut_slice-places.ensures.len, c.commands_in.ensures.count) } in
    let made = if_made c.transcript.result (λ v. v.items) (transcript answers r.result.fault) (TextOf s xs cs draws) c.transcript.ensures
    (told s xs cs audit accounts draws answers r.result.fault r.result.standing
    (standing_state r.result.standing (map (account chosen_state) r.new.records)) begun c.in-Ok.ensures.own
    (r.ensures.replays room)) in
    rw (c.items-contests.ensures, c.items-candidates.ensures) at made
