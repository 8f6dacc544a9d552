-- A part of the total, in percent.
use native.Mathlib.Omega.{arith}
use Rattle.season.proofs.Laws.{product}
use Rattle.season.proofs.Bounds.{total_le}
use Rattle.season.proofs.day.ready_on.Goals as goal

pub overflow_mul-result : goal.overflow_mul-result
overflow_mul-result c = record { fits = rw c.total_on.ensures (omega (arith, product c.args.s.fraction _ 80 120000 c.requires.valid.ranges.fraction.≤high (total_le c.args.s c.args.t.number c.requires.valid.ranges))) }

pub returns : goal.returns
returns c = rw c.total_on.ensures
