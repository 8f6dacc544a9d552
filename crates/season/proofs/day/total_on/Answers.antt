-- Available water times root depth.
use native.Mathlib.Omega.{arith}
use Rattle.season.proofs.Bounds.{total_le}
use Rattle.season.proofs.day.total_on.Goals as goal

pub overflow_mul-result : goal.overflow_mul-result
overflow_mul-result c = record { fits = rw c.root_depth.ensures (omega (arith, total_le c.args.s c.args.t.number c.requires.valid.ranges)) }

pub returns : goal.returns
returns c = rw c.root_depth.ensures
