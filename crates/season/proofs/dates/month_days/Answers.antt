-- February's days are given, and no other month is changed by them.
use mathlib.Core.Path.{sym, ap}
use Rattle.season.specs.Calendar.{month_days}
use Rattle.season.proofs.Calendar.{other_months}
use Rattle.season.proofs.dates.month_days.Goals as goal

pub returns-then-month-eq2 : goal.returns-then-month-eq2
returns-then-month-eq2 c = sym (ap (month_days c.args.february) c.if-month-eq2.true)

pub returns : goal.returns
returns c = other_months 28 c.args.february c.args.month c.if-month-eq2.false
