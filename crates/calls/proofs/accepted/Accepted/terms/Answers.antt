use Rattle.std.proofs.Common.{length, sym, ap, ◌∙◌, arith}
use lib.ListN.{length-map}
use Rattle.std.proofs.lemmas.List.Folds.{fold-map}
use Rattle.std.proofs.lemmas.Simd.{map-map}
use Rattle.calls.specs.Openings.{size_of}
use Rattle.calls.proofs.Openings.{relied_on}
use Rattle.calls.proofs.accepted.Accepted.terms.Goals as goal

pub invariant_of-result : goal.invariant_of-result
invariant_of-result c =
    let a = c.args.self.now in
    let xs = a.contests.now in
    let f = relied_on a.setup.now xs a.candidates.now a.holds in
    record {
      ranges = (f.risk_limit_low, f.risk_limit_high, f.draw_limit_high, omega (arith, f.eight_contests, ap length c.contest_sizes.ensures, length-map xs size_of), f.cards_fit);
      a_card = f.a_card;
      total = sym f.assertions ∙ rw c.contest_sizes.ensures (simp (map-map, fold-map));
    }

pub returns-clause-terms : goal.returns-clause-terms
returns-clause-terms c = rw c.contest_sizes.ensures (simp map-map)
