-- The answer goes by what reading the sheets answered.
use mathlib.Core.Path.{sym, ◌∙◌}
use Rattle.verdict.proofs.First.{handed_on}
use Rattle.decades.specs.Table.{Refused, tabled}
use Rattle.controller.proofs.Sheets.{reading_refused, reading_accepted}
use Rattle.controller.proofs.sheet_tabled.Goals as goal

pub table-requires : goal.table-requires
table-requires c = c.in_ok-accepted.accepted.accepted.valid

pub returns-in_err-accepted : goal.returns-in_err-accepted
returns-in_err-accepted c =
    rw (handed_on _ _ c.from_residual.ensures.1)
    (sym (reading_refused (λ number value. (Refused number value, c.args.rows.now)) (λ s. tabled s c.args.rows.now) c.args.climate.now c.args.block.now _ c.read.ensures _ c.in_err-accepted.was))

pub returns : goal.returns
returns c = c.table.ensures ∙ sym (reading_accepted (λ number value. (Refused number value, c.args.rows.now)) (λ s. tabled s c.args.rows.now) c.args.climate.now c.args.block.now _ c.read.ensures _ c.in_ok-accepted.was)
