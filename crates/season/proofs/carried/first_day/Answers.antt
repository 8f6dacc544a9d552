-- The day on the sheet's date.
use Rattle.season.specs.Calendar.{days_on}
use Rattle.season.specs.Day.{date_of}
use Rattle.season.specs.Carried.{day_of}
use Rattle.season.proofs.Bounds.{start_proper}
use Rattle.season.proofs.carried.first_day.Goals as goal

pub on_date-requires : goal.on_date-requires
on_date-requires c = record { valid = c.requires; proper = start_proper _ c.requires; growth_value = c.growth_per_day.ensures }

pub returns : goal.returns
unfolding day_of date_of days_on
returns c = c.on_date.ensures
