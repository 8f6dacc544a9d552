-- Each turn goes on to the first of the next month; what is left then is the day of the month.
use mathlib.Core.Path.{refl}
use native.Mathlib.Omega.{arith}
use Rattle.season.specs.Day.{date_of}
use Rattle.season.proofs.Calendar.{walk_step, walk_end, days_low, days_high, after_low, after_high}
use Rattle.season.proofs.dates.date_of.Goals as goal

pub overflow_add-left : goal.overflow_add-left
overflow_add-left c = let s = c.args.s in
    let v = c.requires.valid in
    record { fits = omega (arith, days_high v.ranges.february s.month v.ranges.month.low≤ v.ranges.month.≤high) }

pub loop-length-init : goal.loop-length-init
loop-length-init c = let v = c.requires.valid in
    record { same = refl; low = v.ranges.month.low≤; high = v.ranges.month.≤high; left = omega arith; len_is = c.month_days-length.ensures }

pub month_after-month-requires : goal.month_after-month-requires
month_after-month-requires c = c.loop-length.invariant.high

pub month_days-length-requires-in-loop-length : goal.month_days-length-requires-in-loop-length
month_days-length-requires-in-loop-length c = rw c.month_after-month.ensures (after_low c.loop-length.month, after_high c.loop-length.month)

pub loop-length-smaller : goal.loop-length-smaller
loop-length-smaller c = let v = c.requires.valid in
    let w = c.loop-length.invariant in
    omega (arith, days_low v.ranges.february c.loop-length.month w.low w.high)

pub loop-length-preserved : goal.loop-length-preserved
loop-length-preserved c = let v = c.requires.valid in
    walk_step v.ranges.february _ _ _ _ _ _ _ c.loop-length.invariant c.loop-length-test.true c.month_after-month.ensures c.month_days-length-in-loop-length.ensures

pub returns : goal.returns
unfolding date_of
returns c = let v = c.requires.valid in
    walk_end _ _ _ _ _ _ c.loop-length.invariant v.ranges.first.low≤ v.ranges.first.≤high c.loop-length-test.false
