-- In its month and stage a day is carried on by sums; else the day after is made anew.
use mathlib.Core.Path.{sym, ◌∙◌}
use Rattle.season.proofs.Calendar.{next_proper}
use Rattle.season.proofs.Days.{day_proper, growth_per_day_is, next_is, after}
use Rattle.season.proofs.carried.next_day.Goals as goal

pub date_after-requires : goal.date_after-requires
date_after-requires c = (day_proper c.requires.valid c.requires.on_day).month_high

pub on_date-requires : goal.on_date-requires
on_date-requires c = rw (c.date_after.ensures, next_is c.requires.valid c.requires.on_day) (record { valid = c.requires.valid; proper = next_proper c.requires.valid.ranges.february _ (day_proper c.requires.valid c.requires.on_day); growth_value = growth_per_day_is c.requires.valid c.requires.on_day })

pub returns : goal.returns
returns c = c.on_date.ensures ∙ after c.requires.valid c.requires.on_day _ (sym (c.date_after.ensures ∙ next_is c.requires.valid c.requires.on_day))
