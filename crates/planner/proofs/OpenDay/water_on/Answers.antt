-- By its two arms.
use borrow.Author.Tests.{eq-eqb, ne_eqb}
use Rattle.planner.proofs.OpenDay.water_on.Goals as goal

pub returns-then-day-self : goal.returns-then-day-self
returns-then-day-self c = rw (eq-eqb _ _ c.if-day-self.true)

pub returns-else-day-self : goal.returns-else-day-self
returns-else-day-self c = rw (ne_eqb _ _ c.if-day-self.false)
