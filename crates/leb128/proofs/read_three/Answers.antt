-- `leb128::read_three` meets its contract: the groups so far are joined below the next (proofs/Joins.antt).
use Prim.Native.Nat.{ℕ, ◌+◌, ◌*◌, ◌%◌}
use mathlib.Core.Path.{sym, ap, ◌∙◌}
use Rattle.leb128.specs.Forms.{Whole}
use mathlib.Core.List.{[], ◌∷◌}
use native.Mathlib.Omega.{arith}
use Rattle.leb128.proofs.Laws.{decode_one}
use Rattle.leb128.proofs.Joins.{SoFar, weight, first_more, at_zero, at_third, at_more, ends_more, ends_two, ends_three}
use Rattle.leb128.proofs.read_three.Goals as goal

pub returns-then-a-lt128 : goal.returns-then-a-lt128
returns-then-a-lt128 c = let a = c.args in
    sym (decode_one (a.a ∷ a.b ∷ a.c ∷ []) (λ z. omega arith) c.if-a-lt128.true)

pub returns-then-b : goal.returns-then-b
returns-then-b c =
    let one : SoFar (c.args.a ∷ c.args.b ∷ c.args.c ∷ []) (c.args.a % 128) 1 = first_more (omega arith) c.if-a-lt128.false (omega (arith, c.ranges.a.fits)) in
    ap (λ (x : ℕ). Whole x 2) c.joined.ensures ∙ sym (ends_two one (omega arith) c.if-b.true)

pub returns-then-b-eq0 : goal.returns-then-b-eq0
returns-then-b-eq0 c =
    let one : SoFar (c.args.a ∷ c.args.b ∷ c.args.c ∷ []) (c.args.a % 128) 1 = first_more (omega arith) c.if-a-lt128.false (omega (arith, c.ranges.a.fits)) in
    sym (at_zero one (omega arith) c.if-b-eq0.true (omega arith))

pub returns-then-c : goal.returns-then-c
returns-then-c c =
    let one : SoFar (c.args.a ∷ c.args.b ∷ c.args.c ∷ []) (c.args.a % 128) 1 = first_more (omega arith) c.if-a-lt128.false (omega (arith, c.ranges.a.fits)) in
    let two : SoFar (c.args.a ∷ c.args.b ∷ c.args.c ∷ []) ((c.args.b % 128) * weight 1 + c.args.a % 128) 2 = at_more one (omega arith) (ends_more _ c.if-b.false c.if-b-eq0.false) (omega (arith, c.ranges.b.fits)) (omega arith) in
    ap (λ (x : ℕ). Whole x 3) c.joined-then-c.ensures ∙ sym (ends_three two (omega arith) c.if-c.true)

pub returns : goal.returns
returns c =
    let one : SoFar (c.args.a ∷ c.args.b ∷ c.args.c ∷ []) (c.args.a % 128) 1 = first_more (omega arith) c.if-a-lt128.false (omega (arith, c.ranges.a.fits)) in
    let two : SoFar (c.args.a ∷ c.args.b ∷ c.args.c ∷ []) ((c.args.b % 128) * weight 1 + c.args.a % 128) 2 = at_more one (omega arith) (ends_more _ c.if-b.false c.if-b-eq0.false) (omega (arith, c.ranges.b.fits)) (omega arith) in
    sym (at_third two (omega arith) c.if-c.false)
