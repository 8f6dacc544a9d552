-- `leb128::read` meets its contract: the groups so far are joined below the next (proofs/Joins.antt), and three bytes are enough.
use Prim.Native.Nat.{ℕ, ◌%◌}
use mathlib.Core.Path.{sym, ap, ◌∙◌}
use Rattle.leb128.specs.Forms.{Whole}
use lib.ListN.{get_or}
use native.Mathlib.Omega.{arith}
use Rattle.leb128.proofs.Laws.{decode_none, decode_one, decode_three}
use Rattle.leb128.proofs.Joins.{SoFar, first_more, at_end, at_zero, at_more, ends_more, ends_two}
use Rattle.leb128.proofs.read.Goals as goal

pub returns-in-empty : goal.returns-in-empty
returns-in-empty c = sym (decode_none _ (omega (arith, c.in-empty.len_below)))

pub returns-in-len1-up : goal.returns-in-len1-up
returns-in-len1-up c = sym (decode_one _ (λ z. omega (arith, c.in-len1-up.len_at_least)) c.if-first-lt128.true)

pub returns-in-len1 : goal.returns-in-len1
returns-in-len1 c =
    let one : SoFar c.args.s.now (get_or c.args.s.now 0 0 % 128) 1 = first_more c.in-len1-up.len_at_least c.if-first-lt128.false (c.type_inv.s 0).fits in
    sym (at_end one (omega (arith, c.in-len1.len_below)))

pub returns-in-len2-up : goal.returns-in-len2-up
returns-in-len2-up c =
    let one : SoFar c.args.s.now (get_or c.args.s.now 0 0 % 128) 1 = first_more c.in-len1-up.len_at_least c.if-first-lt128.false (c.type_inv.s 0).fits in
    ap (λ (x : ℕ). Whole x 2) c.joined.ensures ∙ sym (ends_two one c.in-len2-up.len_at_least c.if-second.true)

pub returns-in-len2-up-2 : goal.returns-in-len2-up-2
returns-in-len2-up-2 c =
    let one : SoFar c.args.s.now (get_or c.args.s.now 0 0 % 128) 1 = first_more c.in-len1-up.len_at_least c.if-first-lt128.false (c.type_inv.s 0).fits in
    sym (at_zero one c.in-len2-up.len_at_least c.if-second-eq0.true (omega arith))

pub returns-in-len2 : goal.returns-in-len2
returns-in-len2 c =
    let one : SoFar c.args.s.now (get_or c.args.s.now 0 0 % 128) 1 = first_more c.in-len1-up.len_at_least c.if-first-lt128.false (c.type_inv.s 0).fits in
    sym (at_end (at_more one c.in-len2-up.len_at_least (ends_more _ c.if-second.false c.if-second-eq0.false) (c.type_inv.s 1).fits (omega arith)) (omega (arith, c.in-len2.len_below)))

pub returns-in-len3-up : goal.returns-in-len3-up
returns-in-len3-up c = c.read_three.ensures ∙ decode_three _ c.in-len3-up.len_at_least
