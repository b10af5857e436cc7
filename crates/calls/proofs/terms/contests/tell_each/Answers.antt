use Rattle.std.proofs.Common.{◌≡◌, ℕ, ◌+◌, ◌<◌, ◌≤◌, min, map, length, get_or, take, set, sym, ap, ◌∙◌, subst, arith, rules}
use lib.ListN.{length-map}
use Rattle.std.specs.Fn.{FnReturnsAt}
use Rattle.std.specs.List.{AllZip}
use Rattle.std.proofs.lemmas.List.{drop-set-lt, get_or-map}
use Rattle.course.specs.Course.{parts}
use Rattle.calls.specs.declared.terms.Size.{Size}
use Rattle.calls.proofs.Parts.{Told, told_all, told_more}
use Rattle.calls.proofs.terms.contests.tell_each.Goals as goal

abbrev made : Size → ℕ
made x = x.assertions

pub loop-i-preserved : goal.loop-i-preserved
loop-i-preserved g c =
    let xs = c.args.sizes.now in
    let ns = map made xs in
    let i = c.loop-i.i in
    let rest = c.loop-i.rest.now in
    let ys = c.loop-i.places in
    let y = c.tell.result in
    let Q = FnReturnsAt g.F.Fn c.args.tell in
    let count = c.min-count.result in
    let in-ns : i < length ns = omega (arith, length-map xs made) in
    let cut : count ≡ min (get_or ns i 0) (length rest) =
    c.min-count.ensures ∙ ap (λ n. min n (length rest)) (sym (get_or-map made xs i _ 0 (omega arith))) in
    let says : Q (take count rest) y = record { shown = c.split_at.result.0; shows = c.split_at.ensures.front; says = search rules } in
    record {
      told = subst (λ xs. Told Q ns c.args.records.now (i + 1) xs (set ys i y)) (sym c.split_at.ensures.back)
          (told_more Q ns c.args.records.now i count rest ys y in-ns (omega arith) cut c.loop-i.invariant.told says);
      others = drop-set-lt (length xs) ys i y (omega arith) ∙ c.loop-i.invariant.others;
    }

pub returns-clause-parts : goal.returns-clause-parts
returns-clause-parts g c =
    let xs = c.args.sizes.now in
    let ns = map made xs in
    let at_end : length xs ≡ c.loop-i.i = omega arith in
    let short : length ns ≤ c.loop-i.i = omega (arith, length-map xs made) in
    let Q = FnReturnsAt g.F.Fn c.args.tell in
    let rs = c.args.records.now in
    subst (λ n. AllZip Q (parts ns rs) (take n c.loop-i.places)) (sym at_end)
    (told_all Q ns rs c.loop-i.i c.loop-i.rest.now c.loop-i.places short c.loop-i.invariant.told)
