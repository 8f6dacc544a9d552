-- The roots are full grown from day G on; before, the day by what they grow.
use Prim.Native.Nat.{◌+◌}
use native.Mathlib.Omega.{arith}
use Rattle.season.proofs.Laws.{root_grown, root_growing}
use Rattle.season.proofs.Days.{root_is, root_few, root_fits}
use Rattle.season.proofs.day.root_depth.Goals as goal

pub returns-then-s-t : goal.returns-then-s-t
returns-then-s-t c = rw c.saturating_sub.ensures (root_grown c.args.s.sowing c.args.s.full (c.args.s.initial + c.args.s.development) c.args.t.number (omega (arith, c.requires.valid.ranges.initial.low≤)) c.if-s-t.true)

pub quotient-requires : goal.quotient-requires
quotient-requires c = root_fits c.requires.valid c.requires.on_day c.if-s-t.false

pub overflow_add-result-2 : goal.overflow_add-result-2
overflow_add-result-2 c = record { fits = rw (c.quotient.ensures, root_is c.requires.valid c.requires.on_day c.if-s-t.false) (omega (arith, root_few c.requires.valid c.requires.on_day c.if-s-t.false, c.requires.valid.ranges.sowing.≤high)) }

pub returns : goal.returns
returns c = rw (c.quotient.ensures, root_is c.requires.valid c.requires.on_day c.if-s-t.false) (root_growing c.args.s.sowing c.args.s.full (c.args.s.initial + c.args.s.development) c.args.t.number c.if-s-t.false)
