-- A day of the season is of a month of at most 31 days.
use native.Mathlib.Omega.{arith}
use Rattle.season.proofs.Days.{day_small}
use Rattle.decades.proofs.rain_before.Goals as goal

pub overflow_sub-t : goal.overflow_sub-t
overflow_sub-t c = omega (arith, day_small c.requires.valid c.requires.on_day)

pub rain_to-requires-clause-d_bound : goal.rain_to-requires-clause-d_bound
rain_to-requires-clause-d_bound c = omega (arith, day_small c.requires.valid c.requires.on_day)
