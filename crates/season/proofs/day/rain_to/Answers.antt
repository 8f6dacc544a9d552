-- The days by the month's rain.
use mathlib.Core.Path.{◌∙◌}
use Rattle.season.proofs.Days.{rain_to_is, rain_to_fits}
use Rattle.season.proofs.day.rain_to.Goals as goal

pub quotient-requires : goal.quotient-requires
quotient-requires c = rain_to_fits c.requires.valid c.requires.on_day c.args.d c.requires.d_bound

pub returns : goal.returns
returns c = c.quotient.ensures ∙ rain_to_is c.requires.valid c.requires.on_day c.args.d c.requires.d_bound
