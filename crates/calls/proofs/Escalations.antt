-- What an escalation leaves, by any assorters and policies.
use Rattle.std.proofs.Common.{◌≡◌, List, [], take, ap, ◌∙◌}
use Rattle.betting.specs.Accounts.{Account}
use Rattle.course.specs.Openings.{own_rules}
use Rattle.calls.specs.declared.drawing.Audit.{Audit}
use Rattle.calls.specs.declared.counting.HandCount.{HandCount}
use Rattle.calls.specs.Calls.{audit_state, count_state, Escalated}

-- the state stays as it is, whatever the kind of accounts
pub same_state :
    (a : Audit) (h : HandCount) → Escalated own_rules a h → h.terms ≡ a.terms → {A S : Type 0} (xs : List (Account A S)) →
    count_state h xs ≡ audit_state a xs
same_state a h own same xs =
    let σ = audit_state a xs in
    ap (λ t. record (count_state h xs) { accounts = take t.needed xs }) same
    ∙ ap (λ n. record σ { drawn = n; counted = h.counted }) (ap (λ x. x.0.drawn) (own 0 []))
    ∙ ap (λ n. record σ { counted = n }) (ap (λ x. x.0.counted) (own 0 []))
