use Rattle.std.proofs.Common.{map, refl}
use Rattle.betting.specs.Accounts.{account}
use Rattle.betting.specs.Policies.{chosen_state}
use Rattle.calls.proofs.Openings.{own_begun, own_outcomes}
use Rattle.calls.proofs.opens.open.Goals as goal

pub returns-clause-begun : goal.returns-clause-begun
returns-clause-begun c =
    own_begun c.args.setup c.args.contests.now c.args.candidates.now (c.if-not-holds_setup.ensures.0 refl)
    (map (account chosen_state) c.start_own.new.records) c.in_default.ensures.accounts c.begin.result
    c.begin.ensures.terms c.begin.ensures.promise

pub returns-clause-own : goal.returns-clause-own
returns-clause-own c =
    own_outcomes c.args.setup c.args.contests.now c.args.candidates.now (c.if-not-holds_setup.ensures.0 refl)
    (map (account chosen_state) c.start_own.new.records) c.in_default.ensures.accounts c.begin.result
    c.begin.ensures.terms c.begin.ensures.promise
