-- A quotient of the scale is no more than it.
use native.Mathlib.Nat.{div-le_self}
use native.Mathlib.Omega.{arith}
use Rattle.season.proofs.numbers.reciprocal_of.Goals as goal

pub overflow_add-result : goal.overflow_add-result
overflow_add-result c = record { fits = omega (arith, div-le_self 17592186044416 c.args.d) }
