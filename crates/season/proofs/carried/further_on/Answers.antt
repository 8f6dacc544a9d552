-- The day along its month and stage.
use native.Mathlib.Omega.{arith}
use Rattle.season.proofs.Days.{day_small}
use Rattle.season.proofs.Along.{along_is, left_few, rise_back, raising}
use Rattle.season.proofs.carried.further_on.Goals as goal

pub overflow_add-result : goal.overflow_add-result
overflow_add-result c = record { fits = omega (arith, c.requires.days_le_left, left_few c.requires.valid c.requires.on_day, c.requires.on_day.of.to, c.requires.valid.year) }

pub overflow_add-result-2 : goal.overflow_add-result-2
overflow_add-result-2 c = record { fits = omega (arith, c.requires.days_le_left, left_few c.requires.valid c.requires.on_day, day_small c.requires.valid c.requires.on_day) }

pub raised-requires : goal.raised-requires
raised-requires c = rw (rise_back c.requires.valid c.requires.on_day) (raising c.requires.valid c.requires.on_day c.args.days c.requires.days_le_left)

pub returns : goal.returns
returns c = rw (c.raised.ensures, rise_back c.requires.valid c.requires.on_day) (along_is c.requires.valid c.requires.on_day c.args.days c.requires.days_le_left)
