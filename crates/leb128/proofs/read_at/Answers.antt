-- `leb128::read_at` meets its contract: three bytes at the place are enough, and past the end there is none.
use Prim.Native.Nat.{◌≤◌}
use mathlib.Core.Path.{sym, ap, ◌∙◌}
use mathlib.Core.Logic.{inl, inr}
use native.Mathlib.Omega.{arith}
use lib.ListN.{length, drop_of_length-le}
use Rattle.leb128.specs.Forms.{decode}
use Rattle.leb128.proofs.Laws.{decode_none, decode_three}
use Rattle.leb128.proofs.Parts.{tail_part}
use Rattle.leb128.proofs.read_at.Goals as goal

pub returns-in-Some-len3-up : goal.returns-in-Some-len3-up
returns-in-Some-len3-up c =
    c.read_three.ensures ∙ decode_three _ c.in-Some-len3-up.len_at_least ∙ ap decode (c.in-Some-len3-up.ensures.lookup.0.2 ∙ tail_part c.args.at c.args.s.now)

pub returns-in-None : goal.returns-in-None
returns-in-None c = let a = c.args in
    let past : length a.s.now ≤ a.at = elim c.in-None.ensures.lookup.0 [ inl p ↦ omega arith | inr q ↦ absurd (omega arith) ] in
    sym (decode_none _ (rw (drop_of_length-le a.s.now {i = a.at} past)))
