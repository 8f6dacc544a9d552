-- The shift is a quotient, and the mask a remainder.
use Prim.Native.Nat.{◌/◌, ◌^◌}
use lib.Bits.{and_mask}
use Rattle.planner.proofs.turn_in.Goals as goal

pub returns : goal.returns
returns c = rw (and_mask (c.args.turns / 2 ^ c.args.week) 1)
