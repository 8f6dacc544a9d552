-- A branch for each of the two rules.
use Prim.Native.Nat.{◌-◌}
use native.Mathlib.Omega.{arith}
use borrow.Author.Tests.{le-leb, lt-leb}
use Rattle.season.proofs.Laws.{product}
use Rattle.season.proofs.day.effective_rain.Goals as goal

pub overflow_mul-result : goal.overflow_mul-result
overflow_mul-result c = record { fits = omega (arith, product c.args.q (62500 - c.args.q) 25000 62500 c.if-q-le25000.true (omega arith)) }

pub returns-then-q-le25000 : goal.returns-then-q-le25000
returns-then-q-le25000 c = simp (le-leb _ _ c.if-q-le25000.true)

pub returns-else-q-le25000 : goal.returns-else-q-le25000
returns-else-q-le25000 c = simp (lt-leb _ _ c.if-q-le25000.false)
