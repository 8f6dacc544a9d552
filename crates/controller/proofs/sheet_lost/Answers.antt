-- The answer goes by what reading the sheets answered.
use mathlib.Core.Path.{sym, ◌∙◌}
use Rattle.journal.specs.Loss.{Refused, lost}
use Rattle.controller.proofs.Sheets.{reading_refused, reading_accepted}
use Rattle.controller.proofs.sheet_lost.Goals as goal

pub returns-in-Ok : goal.returns-in-Ok
returns-in-Ok c = c.loss.ensures ∙ sym (reading_accepted Refused (λ s. lost s c.args.area.now c.args.ky) c.args.climate.now c.args.block.now _ c.read.ensures _ c.in-Ok.is)

pub returns-in-Err : goal.returns-in-Err
returns-in-Err c = sym (reading_refused Refused (λ s. lost s c.args.area.now c.args.ky) c.args.climate.now c.args.block.now _ c.read.ensures _ c.in-Err.is)
