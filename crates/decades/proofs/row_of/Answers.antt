-- Each field is what its callee ensures.
use native.Mathlib.Omega.{arith}
use Rattle.season.proofs.Days.{day_small}
use Rattle.decades.proofs.row_of.Goals as goal

pub rain_to-requires-clause-d_bound : goal.rain_to-requires-clause-d_bound
rain_to-requires-clause-d_bound c = omega (arith, day_small c.requires.valid c.requires.on_day)

pub returns : goal.returns
returns c = rw (c.rain_to.ensures, c.decade_of-decade.ensures)
