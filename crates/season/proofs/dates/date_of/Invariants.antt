-- Each turn goes on to the first of the next month; what is left then is the day of the month.
use Rattle.season.proofs.Calendar.{Walk}
use Rattle.season.proofs.dates.date_of.Given as goal

abbrev pub invariant-loop-length : goal.invariant-loop-length
invariant-loop-length l = Walk l.february l.initial.month l.initial.left l.month l.left l.length

abbrev pub decreases-loop-length : goal.decreases-loop-length
decreases-loop-length l = l.left
