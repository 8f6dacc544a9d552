-- The answer goes by what reading the sheets answered.
use mathlib.Core.Path.{sym, ◌∙◌}
use Rattle.verdict.proofs.First.{handed_on}
use Rattle.planner.specs.Answer.{Refused}
use Rattle.journal.specs.Opening.{opening}
use Rattle.controller.specs.Calls.{planned_on}
use Rattle.controller.proofs.Sheets.{reading_refused, reading_accepted}
use Rattle.controller.proofs.sheet_planned.Goals as goal

pub returns-in_err-season : goal.returns-in_err-season
returns-in_err-season c =
    rw (handed_on _ _ c.from_residual.ensures.1)
    (sym (reading_refused (λ number value. (Refused number value, c.args.depths.now)) (λ s. planned_on s c.args.depths.now (opening s c.args.area.now)) c.args.climate.now c.args.block.now _ c.read.ensures _ c.in_err-season.was))

pub returns : goal.returns
returns c = c.plan_season.ensures ∙ sym (reading_accepted (λ number value. (Refused number value, c.args.depths.now)) (λ s. planned_on s c.args.depths.now (opening s c.args.area.now)) c.args.climate.now c.args.block.now _ c.read.ensures _ c.in_ok-season.was)
