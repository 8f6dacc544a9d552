-- The loop is `SoFar` of proofs/Runs.antt; what it comes to stands in proofs/Further.antt.
use Prim.Native.Nat.{ℕ, ◌≤◌, ◌<◌}
use mathlib.Core.Path.{◌≡◌, sym, ap, ◌∙◌}
use Rattle.std.specs.Prelude.{Err}
use Rattle.leb128.specs.Forms.{number_in}
use native.Mathlib.Omega.{arith}
use lib.ListN.{length}
use Rattle.sheet.proofs.Runs.{start, reach_whole, reach_bad, at_whole}
use Rattle.sheet.proofs.Further.{short_in, bad_in, bytes_follow, all_read, no_extra}
use Rattle.sheet.proofs.read_all.Goals as goal

same : (n : ℕ) → n ≤ n
same n = omega arith

never : (k n : ℕ) → k < n → k ≡ n → ⊥
never k n l e = omega arith

pub loop-field-init : goal.loop-field-init
loop-field-init c = start _ _

pub overflow_add-at : goal.overflow_add-at
overflow_add-at c = omega (arith, reach_whole c.loop-field.at c.args.sheet.now _ _ (sym c.read_at.ensures ∙ ap number_in c.in-Ok.is) c.loop-field.invariant.within)

pub returns-in-Err-Short : goal.returns-in-Err-Short
returns-in-Err-Short c = let w = c.loop-field.invariant in
    let n = length c.args.fields.now in
    short_in n w (same n) (omega (arith, c.loop-field-test.true, w.whole)) (sym c.read_at.ensures ∙ ap number_in (c.in-Err-Short.is ∙ ap Err c.in-Err-Short.field-0-is)) (λ e. absurd (never _ n (omega (arith, c.loop-field-test.true, w.whole)) e)) ∙ no_extra n c.args.sheet.now

pub overflow_add-result : goal.overflow_add-result
overflow_add-result c = omega (arith, reach_bad c.loop-field.at c.args.sheet.now _ (sym c.read_at.ensures ∙ ap number_in (c.in-Err-Bad.is ∙ ap Err c.in-Err-Bad.field-0-is)) c.loop-field.invariant.within)

pub returns-in-Err-Bad : goal.returns-in-Err-Bad
returns-in-Err-Bad c = let w = c.loop-field.invariant in
    let n = length c.args.fields.now in
    rw c.in-Err-Bad.field-0-is (bad_in n w (same n) (omega (arith, c.loop-field-test.true, w.whole)) _ (sym c.read_at.ensures ∙ ap number_in (c.in-Err-Bad.is ∙ ap Err c.in-Err-Bad.field-0-is)) ∙ no_extra n c.args.sheet.now)

pub loop-field-preserved : goal.loop-field-preserved
loop-field-preserved c = at_whole c.loop-field.invariant (omega (arith, c.loop-field-test.true, c.loop-field.invariant.whole)) _ _ (sym c.read_at.ensures ∙ ap number_in c.in-Ok.is)

pub returns-then-at-sheet : goal.returns-then-at-sheet
returns-then-at-sheet c = let w = c.loop-field.invariant in
    let n = length c.args.fields.now in
    bytes_follow n w (same n) (omega (arith, c.loop-field-test.false, w.whole)) c.if-at-sheet.true ∙ no_extra n c.args.sheet.now

pub returns : goal.returns
returns c = let w = c.loop-field.invariant in
    let n = length c.args.fields.now in
    all_read n w (same n) (omega (arith, c.loop-field-test.false, w.whole)) c.if-at-sheet.false ∙ no_extra n c.args.sheet.now
