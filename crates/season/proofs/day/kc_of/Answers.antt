-- The slope's top and bottom.
use mathlib.Core.Path.{sym}
use Rattle.season.proofs.Slopes.{kc_slope}
use Rattle.season.proofs.day.kc_of.Goals as goal

pub returns : goal.returns
returns c = rw c.slope_of-slope.ensures (sym (kc_slope c.args.s c.args.day c.requires.day_of))
