-- It goes by what reading the numbers answers (proofs/Verdicts.antt), and then by what judging says.
use mathlib.Core.Path.{ap, ◌∙◌}
use borrow.Author.Rules.{rules}
use Rattle.verdict.proofs.First.{handed_on}
use Rattle.fields.specs.Refusals.{climate_lines}
use Rattle.sheet.specs.Sheets.{climate_by}
use Rattle.sheet.proofs.Verdicts.{stopped, whole, whole_buffer, climate_by_numbers, climate_stopped, climate_read}
use Rattle.sheet.proofs.fill_climate.Goals as goal

pub returns : goal.returns
returns c =
    ap (climate_by c.read_all.new.fields) c.judge_climate.ensures
    ∙ climate_read c.args.sheet.now _
    (whole_buffer 24 c.in_ok-read_all.field-0 c.args.sheet.now _ (search rules) (whole 24 0 c.args.sheet.now _ _ (climate_by_numbers _ c.args.sheet.now _ _ (search rules) c.read_all.ensures) _ c.in_ok-read_all.was))

pub returns-in_err-read_all : goal.returns-in_err-read_all
returns-in_err-read_all c =
    rw (handed_on _ _ c.from_residual.ensures.1)
    (climate_stopped c.args.sheet.now _ _ (stopped 24 0 c.args.sheet.now _ _ (climate_by_numbers _ c.args.sheet.now _ _ (search rules) c.read_all.ensures) climate_lines _ c.in_err-read_all.was))
