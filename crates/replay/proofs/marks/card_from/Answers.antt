use Rattle.std.proofs.Common.{◌≡◌, ◌*◌, refl, rules}
use Rattle.replay.specs.Replays.{four}
use Rattle.replay.proofs.Made.{made}
use Rattle.replay.proofs.marks.card_from.Goals as goal

pub returns : goal.returns
returns c =
    let bs = c.args.marks.now in
    let eight = made c.from_fn.result (λ k. four bs (4 * k)) (λ p. p.0.now ≡ bs) (λ p q j y kept call. (search rules, search rules)) 8
    c.from_fn.ensures.items refl in
    rw eight refl
