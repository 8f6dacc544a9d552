-- Each field is what its callee ensures, by the two arms.
use Rattle.planner.specs.Carried.{pass_day}
use Rattle.planner.proofs.pass_day.Goals as goal

pub returns-then-ahead : goal.returns-then-ahead
unfolding pass_day
returns-then-ahead c = rw (c.if-ahead.true, c.planned_day.ensures, c.planned_day-depletion.ensures, c.saturating_sub-left.ensures)

pub returns : goal.returns
unfolding pass_day
returns c = rw (c.if-ahead.false, c.planned_day-2.ensures, c.saturating_sub-spared.ensures, c.planned_day-depletion.ensures, c.saturating_sub-left.ensures)
