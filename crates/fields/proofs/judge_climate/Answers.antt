-- Refusal 4, or none.
use mathlib.Core.Path.{sym}
use Rattle.fields.proofs.Verdicts.{climate_refused, climate_accepted}
use Rattle.fields.proofs.judge_climate.Goals as goal

pub returns-in-Some : goal.returns-in-Some
returns-in-Some c = climate_refused c.args.c.now _ c.in-Some.ensures.0 c.in-Some.ensures.1

pub returns-in-None : goal.returns-in-None
returns-in-None c = sym (climate_accepted c.args.c.now c.in-None.ensures)
