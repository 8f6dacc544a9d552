-- The day on its date.
use Rattle.season.specs.Carried.{day_of}
use Rattle.season.proofs.Bounds.{date_proper}
use Rattle.season.proofs.carried.day_of.Goals as goal

pub on_date-requires : goal.on_date-requires
on_date-requires c = rw c.date_of.ensures (record { valid = c.requires.valid; proper = date_proper _ _ c.requires.valid; growth_value = c.growth_per_day.ensures })

pub returns : goal.returns
unfolding day_of
returns c = rw (c.on_date.ensures, c.date_of.ensures)
