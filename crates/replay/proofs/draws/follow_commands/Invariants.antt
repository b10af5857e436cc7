use Rattle.std.proofs.Common.{◌≡◌, ◌+◌, ◌≤◌, map, length, take, drop}
use Rattle.betting.specs.Accounts.{account}
use Rattle.calls.specs.Calls.{standing_state, standing_terms, terms_of}
use Rattle.course.specs.Course.{rules_of}
use Rattle.format.specs.Counted.{commands_begun}
use Rattle.replay.specs.Replays.{Followed, StandsAt}
use Rattle.replay.proofs.draws.follow_commands.Given as goal

abbrev pub invariant-commands : goal.invariant-commands
invariant-commands g l =
    let m = account {A = g.row.A.Denot} g.P.Policy.state in
    let start = standing_terms l.initial.standing in
    record {
      followed : Followed (rules_of g.A.Assorter g.P.Policy) (terms_of start) (standing_state l.initial.standing (map m l.initial.records))
          l.file l.rest l.phase (take l.answered l.answers) (standing_state l.standing (map m l.records));
      stands : StandsAt l.phase l.standing;
      terms : standing_terms l.standing ≡ start;
      records : drop start.needed l.records ≡ drop start.needed l.initial.records;
      answers : drop l.answered l.answers ≡ drop l.answered l.initial.answers;
      room : start.needed ≤ length l.records;
      within : l.answered + commands_begun l.rest ≤ commands_begun l.file;
      shorter : length l.rest ≤ length l.file;
      places : length l.answers ≡ length l.initial.answers;
    }

abbrev pub decreases-commands : goal.decreases-commands
decreases-commands g l = length l.rest
