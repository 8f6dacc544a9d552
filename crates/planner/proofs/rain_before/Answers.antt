-- By its two arms.
use borrow.Author.Tests.{eq-eqb, ne_eqb}
use Rattle.planner.proofs.rain_before.Goals as goal

pub returns-then-day-eq1 : goal.returns-then-day-eq1
returns-then-day-eq1 c = rw (eq-eqb _ _ c.if-day-eq1.true)

pub returns-else-day-eq1 : goal.returns-else-day-eq1
returns-else-day-eq1 c = rw (ne_eqb _ _ c.if-day-eq1.false)
