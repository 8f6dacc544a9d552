-- Past the season, then by the stage.
use mathlib.Core.Path.{sym, ◌∙◌}
use native.Mathlib.Omega.{arith}
use Rattle.season.specs.declared.Stage.TheVariants.{Initial, Development, Middle, Late}
use Rattle.season.proofs.Slopes.{days_of, slope_of_stage, past_season}
use Rattle.season.proofs.day.slope_of.Goals as goal

pub returns-then-season_days-day : goal.returns-then-season_days-day
returns-then-season_days-day c = c.constant_on.ensures ∙ sym (past_season c.args.s c.args.day (rw (← c.season_days.ensures) c.if-season_days-day.true))

pub constant_on-requires-in-Initial : goal.constant_on-requires-in-Initial
constant_on-requires-in-Initial c = days_of c.args.s c.args.day Initial (sym c.stage_of.ensures ∙ c.in-Initial.is)

pub overflow_sub-day : goal.overflow_sub-day
overflow_sub-day c = omega (arith, days_of c.args.s c.args.day Development (sym c.stage_of.ensures ∙ c.in-Development.is))

pub sloping_on-requires : goal.sloping_on-requires
sloping_on-requires c = omega (arith, days_of c.args.s c.args.day Development (sym c.stage_of.ensures ∙ c.in-Development.is))

pub overflow_sub-day-in-Middle : goal.overflow_sub-day-in-Middle
overflow_sub-day-in-Middle c = omega (arith, days_of c.args.s c.args.day Middle (sym c.stage_of.ensures ∙ c.in-Middle.is))

pub constant_on-requires-in-Middle : goal.constant_on-requires-in-Middle
constant_on-requires-in-Middle c = omega (arith, days_of c.args.s c.args.day Middle (sym c.stage_of.ensures ∙ c.in-Middle.is))

pub overflow_sub-day-in-Late : goal.overflow_sub-day-in-Late
overflow_sub-day-in-Late c = omega (arith, days_of c.args.s c.args.day Late (sym c.stage_of.ensures ∙ c.in-Late.is))

pub returns-in-Initial : goal.returns-in-Initial
returns-in-Initial c = c.constant_on-in-Initial.ensures ∙ sym (slope_of_stage c.args.s c.args.day Initial (rw (← c.season_days.ensures) c.if-season_days-day.false) (sym c.stage_of.ensures ∙ c.in-Initial.is))

pub returns-in-Development : goal.returns-in-Development
returns-in-Development c = c.sloping_on.ensures ∙ sym (slope_of_stage c.args.s c.args.day Development (rw (← c.season_days.ensures) c.if-season_days-day.false) (sym c.stage_of.ensures ∙ c.in-Development.is))

pub returns-in-Middle : goal.returns-in-Middle
returns-in-Middle c = c.constant_on-in-Middle.ensures ∙ sym (slope_of_stage c.args.s c.args.day Middle (rw (← c.season_days.ensures) c.if-season_days-day.false) (sym c.stage_of.ensures ∙ c.in-Middle.is))

pub returns-in-Late : goal.returns-in-Late
returns-in-Late c = c.sloping_on-in-Late.ensures ∙ sym (slope_of_stage c.args.s c.args.day Late (rw (← c.season_days.ensures) c.if-season_days-day.false) (sym c.stage_of.ensures ∙ c.in-Late.is))
