-- January follows December.
use borrow.Author.Tests.{lt-ltb, le-ltb}
use Rattle.season.proofs.dates.month_after.Goals as goal

pub returns-then-month-lt12 : goal.returns-then-month-lt12
returns-then-month-lt12 c = simp (lt-ltb _ _ c.if-month-lt12.true)

pub returns-else-month-lt12 : goal.returns-else-month-lt12
returns-else-month-lt12 c = simp (le-ltb _ _ c.if-month-lt12.false)
