-- Refusal 22, the climate's refusal, or the blocks'.
use mathlib.Core.Path.{refl, sym, ap, ◌∙◌}
use Rattle.verdict.proofs.First.{handed_on, passed, said}
use Rattle.verdict.specs.Refusals.{verdict_in}
use Rattle.sheet.specs.Sheets.{climate_in}
use Rattle.bank.proofs.Accepted.{wrong_refused, climate_refused, climate_accepted, laid}
use Rattle.bank.proofs.plan_bank.Goals as goal

pub plan_read-requires : goal.plan_read-requires
plan_read-requires c = let w = laid c.args.blocks c.args.limit c.args.lengths.now _ _ _ (sym c.is_wrong-wrong.ensures ∙ passed _ _ _ _ _ c.refuse_if.ensures c.in_ok-refuse_if.was) in
    record { read_climate = (_, sym (ap climate_in c.in_ok-climate.was) ∙ c.read_climate.ensures); le_count = (w.some, w.counted); parts_in_bounds = (w.sheets_fit, w.areas_fit, w.depths_fit) }

pub returns : goal.returns
returns c = c.plan_read.ensures ∙ climate_accepted c.args.climate.now c.args.blocks c.args.limit c.args.lengths.now c.args.sheets.now c.args.areas.now c.args.depths.now c.args.answers.now (sym c.is_wrong-wrong.ensures ∙ passed _ _ _ _ _ c.refuse_if.ensures c.in_ok-refuse_if.was) _ (sym (ap climate_in c.in_ok-climate.was) ∙ c.read_climate.ensures) refl

pub returns-in_err-climate : goal.returns-in_err-climate
returns-in_err-climate c =
    rw (handed_on _ _ c.from_residual-in_err-climate.ensures.1)
    (climate_refused c.args.climate.now c.args.blocks c.args.limit c.args.lengths.now c.args.sheets.now c.args.areas.now c.args.depths.now c.args.answers.now (sym c.is_wrong-wrong.ensures ∙ passed _ _ _ _ _ c.refuse_if.ensures c.in_ok-refuse_if.was) _ (sym (ap climate_in c.in_err-climate.was) ∙ c.read_climate.ensures) refl)

pub returns-in_err-refuse_if : goal.returns-in_err-refuse_if
returns-in_err-refuse_if c =
    rw (handed_on _ _ c.from_residual.ensures.1)
    (wrong_refused c.args.climate.now c.args.blocks c.args.limit c.args.lengths.now c.args.sheets.now c.args.areas.now c.args.depths.now c.args.answers.now c.is_wrong-wrong.ensures
    (sym (ap verdict_in c.in_err-refuse_if.was) ∙ said _ _ _ _ _ c.refuse_if.ensures))
