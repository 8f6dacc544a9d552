-- The answer goes by what reading the sheets answered.
use mathlib.Core.Path.{sym, ap, ◌∙◌}
use Rattle.journal.specs.Opening.{opening}
use Rattle.probes.specs.Contents.{Reading, reading_of}
use Rattle.measuring.specs.Probing.{Refused, probed_on}
use Rattle.controller.proofs.Sheets.{reading_refused, reading_accepted}
use Rattle.controller.proofs.sheet_probed.Goals as goal

pub returns-in-Ok : goal.returns-in-Ok
returns-in-Ok c =
    c.probe_season.ensures
    ∙ ap (λ (r : Reading). probed_on c.in-Ok.season.season r c.args.capacity (opening c.in-Ok.season.season c.args.area.now)) c.reading_of.ensures
    ∙ sym (reading_accepted Refused (λ s. probed_on s (reading_of c.args.shallow c.args.deep) c.args.capacity (opening s c.args.area.now)) c.args.climate.now c.args.block.now _ c.read.ensures _ c.in-Ok.is)

pub returns-in-Err : goal.returns-in-Err
returns-in-Err c =
    sym (reading_refused Refused (λ s. probed_on s (reading_of c.args.shallow c.args.deep) c.args.capacity (opening s c.args.area.now)) c.args.climate.now c.args.block.now _ c.read.ensures _ c.in-Err.is)
