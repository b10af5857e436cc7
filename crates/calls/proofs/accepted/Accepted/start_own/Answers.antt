use Rattle.std.proofs.Common.{◌≡◌, ℕ, ◌≤◌, map, length, drop, ap, ◌∙◌, subst, arith, rules}
use Rattle.bounded.specs.Lists.{held}
use Rattle.assertion.specs.Assertions.{plan_of}
use Rattle.betting.specs.Accounts.{account}
use Rattle.betting.specs.Policies.{chosen_state}
use Rattle.opening.specs.Starts.{fewer, start_answer}
use Rattle.calls.proofs.Openings.{relied_on}
use Rattle.calls.proofs.Plans.{listed, start_planned}
use Rattle.calls.proofs.accepted.Accepted.start_own.Goals as goal

pub returns-in_err-list_assertions-clause-answer : goal.returns-in_err-list_assertions-clause-answer
returns-in_err-list_assertions-clause-answer c =
    let s = c.args.self.now.setup.now in
    let xs = c.args.self.now.contests.now in
    let cs = c.args.self.now.candidates.now in
    let room : 256 ≤ length c.over-planned.result.slots.now = search rules in
    let ok = listed s xs cs (relied_on s xs cs c.args.self.now.holds) (held c.over-planned.result) room in
    let no = c.in_err-list_assertions.ensures.answer in
    let z : ◌≡◌ {A = ℕ} 0 1 = cc in
    absurd (omega arith)

pub returns-clause-answer : goal.returns-clause-answer
returns-clause-answer c =
    let a = c.args.self.now in
    let f = relied_on a.setup.now a.contests.now a.candidates.now a.holds in
    c.start_records.ensures.answer
    ∙ ap (λ n. start_answer (fewer n c.args.records.now)) (ap length c.items.ensures ∙ c.in_ok-list_assertions.ensures.holds.count ∙ f.assertions)

pub returns-clause-accounts : goal.returns-clause-accounts
returns-clause-accounts c =
    let s = c.args.self.now.setup.now in
    let xs = c.args.self.now.contests.now in
    let cs = c.args.self.now.candidates.now in
    let rs = c.args.records.now in
    let holds = c.in_ok-list_assertions.ensures.holds in
    let items = c.items.result.now in
    let told = c.start_records.ensures in
    start_planned s xs cs (relied_on s xs cs c.args.self.now.holds) items (ap (map plan_of) c.items.ensures ∙ holds.items)
    (ap length c.items.ensures ∙ holds.count) (fewer (length items) rs) c.start_records.result
    (map (account chosen_state) rs) (map (account chosen_state) c.start_records.new.records) told.answer
    told.accounts

pub returns-clause-beyond : goal.returns-clause-beyond
returns-clause-beyond c =
    let a = c.args.self.now in
    let f = relied_on a.setup.now a.contests.now a.candidates.now a.holds in
    subst (λ n. drop n c.start_records.new.records ≡ drop n c.args.records.now)
    (ap length c.items.ensures ∙ c.in_ok-list_assertions.ensures.holds.count ∙ f.assertions) c.start_records.ensures.beyond
