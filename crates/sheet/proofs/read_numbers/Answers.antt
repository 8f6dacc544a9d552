-- The loop is `SoFar` of proofs/Runs.antt; what it comes to stands in proofs/Further.antt.
use mathlib.Core.Path.{◌≡◌, sym, ap, ◌∙◌}
use native.Mathlib.Omega.{arith}
use Prim.Native.Nat.{ℕ, ◌-◌, ◌<◌}
use mathlib.Core.List.{List}
use mathlib.Core.Logic.{inl, inr}
use lib.ListN.{drop, length, take}
use Rattle.std.proofs.lemmas.List.{set-get_or}
use Rattle.std.specs.Prelude.{Err}
use Rattle.leb128.specs.Forms.{number_in, Number, decode}
use Rattle.leb128.proofs.Parts.{tail_part}
use Rattle.sheet.proofs.Runs.{start, reach_whole, reach_bad, at_whole}
use Rattle.sheet.proofs.Further.{ends_at_least, short_in, bad_in, bytes_follow, all_read}
use Rattle.sheet.proofs.read_numbers.Goals as goal

found : (at : ℕ) (s : List ℕ) {m n : Number} → m ≡ decode (take (length s - at) (drop at s)) → m ≡ n → decode (drop at s) ≡ n
found at s e is = sym (e ∙ ap decode (tail_part at s)) ∙ is

pub loop-k-init : goal.loop-k-init
loop-k-init c = start _ _

pub overflow_add-at : goal.overflow_add-at
overflow_add-at c =
    omega (arith, reach_whole c.loop-k.at c.args.sheet.now _ _ (found c.loop-k.at c.args.sheet.now c.read.ensures (ap number_in c.in-Ok.is)) c.loop-k.invariant.within)

pub returns-then-sheet-at : goal.returns-then-sheet-at
returns-then-sheet-at c = let w = c.loop-k.invariant in
    rw set-get_or (ends_at_least _ w c.requires c.if-k-least.true c.if-sheet-at.true, w.few)

pub returns-in-Err-Short : goal.returns-in-Err-Short
returns-in-Err-Short c =
    let w = c.loop-k.invariant in
    let here : c.loop-k.k ≡ c.args.least → c.loop-k.at < length c.args.sheet.now = λ e. elim c.else-k-least.either [ inl h ↦ h.1 | inr h ↦ absurd (h e) ] in
    (short_in _ w c.requires (omega (arith, c.loop-k-test.true, w.whole)) (found c.loop-k.at c.args.sheet.now c.read.ensures (ap number_in (c.in-Err-Short.is ∙ ap Err c.in-Err-Short.field-0-is))) here, omega arith)

pub overflow_add-result : goal.overflow_add-result
overflow_add-result c =
    omega (arith, reach_bad c.loop-k.at c.args.sheet.now _ (found c.loop-k.at c.args.sheet.now c.read.ensures (ap number_in (c.in-Err-Bad.is ∙ ap Err c.in-Err-Bad.field-0-is))) c.loop-k.invariant.within)

pub returns-in-Err-Bad : goal.returns-in-Err-Bad
returns-in-Err-Bad c =
    let w = c.loop-k.invariant in
    rw c.in-Err-Bad.field-0-is (bad_in _ w c.requires (omega (arith, c.loop-k-test.true, w.whole)) _ (found c.loop-k.at c.args.sheet.now c.read.ensures (ap number_in (c.in-Err-Bad.is ∙ ap Err c.in-Err-Bad.field-0-is))), omega arith)

pub loop-k-preserved : goal.loop-k-preserved
loop-k-preserved c =
    at_whole c.loop-k.invariant (omega (arith, c.loop-k-test.true, c.loop-k.invariant.whole)) _ _ (found c.loop-k.at c.args.sheet.now c.read.ensures (ap number_in c.in-Ok.is))

pub returns-then-at-sheet : goal.returns-then-at-sheet
returns-then-at-sheet c = let w = c.loop-k.invariant in
    (bytes_follow _ w c.requires (omega (arith, c.loop-k-test.false, w.whole)) c.if-at-sheet.true, omega arith)

pub returns : goal.returns
returns c = let w = c.loop-k.invariant in
    (all_read _ w c.requires (omega (arith, c.loop-k-test.false, w.whole)) c.if-at-sheet.false, omega arith)
