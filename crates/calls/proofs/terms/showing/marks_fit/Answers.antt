use Rattle.std.proofs.Common.{◌≡◌, ℕ, ◌^◌, ◌&&◌, ltb, length, take, drop, sym, ap, ◌∙◌, arith, rules}
use borrow.Author.Tests.{tests}
use Rattle.std.proofs.lemmas.Iterator.{YieldsList-from_slice, YieldsList-from_zip}
use Rattle.std.proofs.lemmas.Iterator.Search.{all_from_yields_List}
use Rattle.course.specs.Terms.{blank}
use Rattle.calls.specs.declared.terms.Size.{Size}
use Rattle.calls.proofs.Fits.{each_fits, fitting}
use Rattle.calls.proofs.terms.showing.marks_fit.Goals as goal

abbrev candidates : Size → ℕ
candidates x = x.candidates

pub returns-then-all : goal.returns-then-all
returns-then-all c =
    let xs = c.args.sizes.now in
    let ms = c.args.marks.now in
    let each : c.all.result ≡ fitting candidates xs ms =
    all_from_yields_List {s = c.zip.result} (λ p. ltb p.0 (2 ^ candidates p.1)) c.all.new.self _ c.all.result c.all.ensures.ran
    (YieldsList-from_zip (YieldsList-from_slice {s = c.zip.result.a} (take (length xs) ms) (cc)) (YieldsList-from_slice {s = c.zip.result.b} xs (cc)))
    (λ x b q k. search (rules, tests)) in
    c.is_blank.ensures ∙ ap (λ zs. blank zs) c.split_at.ensures.back
    ∙ ap (λ b. b && blank (drop (length xs) ms)) (sym c.if-all.true ∙ each) ∙ each_fits candidates xs ms (omega arith)

pub returns-else-all : goal.returns-else-all
returns-else-all c =
    let xs = c.args.sizes.now in
    let ms = c.args.marks.now in
    let each : c.all.result ≡ fitting candidates xs ms =
    all_from_yields_List {s = c.zip.result} (λ p. ltb p.0 (2 ^ candidates p.1)) c.all.new.self _ c.all.result c.all.ensures.ran
    (YieldsList-from_zip (YieldsList-from_slice {s = c.zip.result.a} (take (length xs) ms) (cc)) (YieldsList-from_slice {s = c.zip.result.b} xs (cc)))
    (λ x b q k. search (rules, tests)) in
    c.if-all.false ∙ ap (λ b. b && blank (drop (length xs) ms)) (sym c.if-all.false ∙ each) ∙ each_fits candidates xs ms (omega arith)
