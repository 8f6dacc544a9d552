-- Each field is what its callee ensures, or the month's number in the sheet.
use Prim.Native.Nat.{◌-◌}
use native.Mathlib.Omega.{arith}
use Rattle.season.proofs.Calendar.{days_low}
use Rattle.season.proofs.Slopes.{slope_small}
use Rattle.season.proofs.Bounds.{effective_le, rain_per_day_small, top_weighed, rise_weighed_fits, rise_weighed_back}
use Rattle.season.proofs.carried.on_date.Goals as goal

pub effective_rain-effective-requires : goal.effective_rain-effective-requires
effective_rain-effective-requires c = c.requires.valid.ranges.rain _

pub overflow_mul-result : goal.overflow_mul-result
overflow_mul-result c = record { fits = rw c.slope_of-slope.ensures (omega (arith, top_weighed c.args.s c.args.number c.args.date.month c.requires.valid.ranges)) }

pub overflow_mul-result-2 : goal.overflow_mul-result-2
overflow_mul-result-2 c = record { fits = rw c.slope_of-slope.ensures (omega (arith, (slope_small c.args.s c.args.number c.requires.valid.ranges).few)) }

pub overflow_add-result : goal.overflow_add-result
overflow_add-result c = record { fits = rw c.slope_of-slope.ensures (omega (arith, top_weighed c.args.s c.args.number c.args.date.month c.requires.valid.ranges)) }

pub overflow_cast-result : goal.overflow_cast-result
overflow_cast-result c = record { sfits = omega (arith, c.requires.valid.ranges.eto (c.args.date.month - 1)) }

pub overflow_mul-result-3 : goal.overflow_mul-result-3
overflow_mul-result-3 c = rw c.slope_of-slope.ensures (rise_weighed_fits c.args.s c.args.number c.args.date.month c.requires.valid.ranges)

pub overflow_mul-slope : goal.overflow_mul-slope
overflow_mul-slope c = record { fits = rw c.slope_of-slope.ensures (omega (arith, (slope_small c.args.s c.args.number c.requires.valid.ranges).few)) }

pub usual_reciprocal_of-requires : goal.usual_reciprocal_of-requires
usual_reciprocal_of-requires c = rw c.slope_of-slope.ensures (omega (arith, (slope_small c.args.s c.args.number c.requires.valid.ranges).some))

pub usual_reciprocal_of-requires-2 : goal.usual_reciprocal_of-requires-2
usual_reciprocal_of-requires-2 c = rw c.month_days-length.ensures (omega (arith, days_low c.requires.valid.ranges.february c.args.date.month c.requires.proper.month_low c.requires.proper.month_high))

pub overflow_mul-result-4 : goal.overflow_mul-result-4
overflow_mul-result-4 c = record { fits = rw (c.effective_rain-effective.ensures, c.usual_reciprocal_of-2.ensures, c.month_days-length.ensures) (rain_per_day_small _ _ (effective_le _ (c.requires.valid.ranges.rain _)) (days_low c.requires.valid.ranges.february c.args.date.month c.requires.proper.month_low c.requires.proper.month_high)) }

pub returns : goal.returns
returns c = rw (c.usual_reciprocal_of-2.ensures, c.usual_reciprocal_of.ensures, c.min.ensures, c.slope_of-slope.ensures, c.effective_rain-effective.ensures, c.month_days-length.ensures, c.requires.growth_value, rise_weighed_back c.args.s c.args.number c.args.date.month c.requires.valid.ranges)
