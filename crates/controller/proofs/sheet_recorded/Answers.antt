-- The answer goes by what reading the sheets answered.
use mathlib.Core.Path.{sym, ◌∙◌}
use Rattle.verdict.specs.Refusals.{Refused}
use Rattle.journal.specs.Calls.{no_stores, recorded_with, recorded}
use Rattle.controller.proofs.Sheets.{reading_refused, reading_accepted}
use Rattle.controller.proofs.sheet_recorded.Goals as goal

pub returns-in-Err : goal.returns-in-Err
unfolding recorded_with
returns-in-Err c =
    sym (reading_refused (λ number value. recorded_with (Refused number value) no_stores) (λ s. recorded s c.args.area.now c.args.e) c.args.climate.now c.args.block.now _ c.read.ensures _ c.in-Err.is)

pub returns-in-Ok : goal.returns-in-Ok
returns-in-Ok c = c.«record».ensures ∙ sym (reading_accepted (λ number value. recorded_with (Refused number value) no_stores) (λ s. recorded s c.args.area.now c.args.e) c.args.climate.now c.args.block.now _ c.read.ensures _ c.in-Ok.is)
