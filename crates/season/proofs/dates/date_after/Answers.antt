-- Inside a month, and over its end.
use borrow.Author.Tests.{lt-ltb, le-ltb}
use Rattle.season.proofs.dates.date_after.Goals as goal

pub returns-then-t : goal.returns-then-t
returns-then-t c = simp (lt-ltb _ _ c.if-t.true)

pub returns : goal.returns
returns c = rw c.month_after.ensures (simp (le-ltb _ _ c.if-t.false))
