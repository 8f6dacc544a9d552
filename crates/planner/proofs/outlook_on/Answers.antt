-- Each field is what its callee ensures.
use native.Mathlib.Omega.{arith}
use Rattle.planner.proofs.outlook_on.Goals as goal

pub turn_on-requires : goal.turn_on-requires
turn_on-requires c = (omega (arith, c.requires.week_value), c.requires.today_le_number)

pub returns : goal.returns
returns c = rw (c.turn_on.ensures, c.water_on.ensures, c.ready_on-ready.ensures, c.crop_need-need.ensures, c.requires.rain_value, c.requires.week_value)
