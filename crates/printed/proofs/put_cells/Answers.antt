-- `printed::put_cells` meets its contract: the loop is `Printing` of proofs/Texts.antt.
use mathlib.Core.List.{List}
use Prim.Native.Nat.{ℕ, ◌^◌, ◌<◌}
use native.Mathlib.Omega.{arith}
use lib.ListN.{length, take, get_or, length-take}
use Rattle.std.proofs.lemmas.List.{get_or-take}
use Rattle.printed.proofs.Texts.{printing_start, printing_length, printing_room, printing_more, printing_end}
use Rattle.printed.proofs.put_cells.Goals as goal

-- A number of the first so many is one of all.
small : (count i : ℕ) (rows : List ℕ) → i < length (take count rows) → get_or rows i 0 < 2 ^ 32 → get_or (take count rows) i 0 < 2 ^ 32
small count i rows h f =
    let k : i < count = omega (arith, length-take count rows) in
    rw (get_or-take count rows i 0 k) f

pub loop-i-init : goal.loop-i-init
loop-i-init c = printing_start _ _ (omega (arith, c.requires.1, length-take c.args.count c.args.rows.now))

pub put_cell-at-requires : goal.put_cell-at-requires
put_cell-at-requires c =
    printing_room c.loop-i.invariant c.loop-i-test.true (small c.args.count c.loop-i.i c.args.rows.now c.loop-i-test.true (c.type_inv.rows c.loop-i.i).fits) c.ending_of.result

pub loop-i-preserved : goal.loop-i-preserved
loop-i-preserved c =
    printing_more c.loop-i.invariant c.loop-i-test.true (small c.args.count c.loop-i.i c.args.rows.now c.loop-i-test.true (c.type_inv.rows c.loop-i.i).fits)
    c.ending_of.ensures c.put_cell-at.ensures.0 c.put_cell-at.ensures.1

pub shape_of-text : goal.shape_of-text
shape_of-text c = printing_length c.loop-i.invariant

pub returns : goal.returns
returns c =
    let printed = printing_end c.loop-i.invariant c.loop-i-test.false in
    (printed.0, printed.1, omega (arith, printed.2, length-take c.args.count c.args.rows.now))
