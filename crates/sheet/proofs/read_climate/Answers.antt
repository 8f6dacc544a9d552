-- By what its numbers say.
use mathlib.Core.Path.{sym, ap, ◌∙◌}
use Rattle.std.specs.Prelude.{Result}
use Rattle.verdict.specs.declared.Refusal.{Refusal}
use Rattle.verdict.specs.Refusals.{verdict_in}
use Rattle.verdict.proofs.First.{handed_on}
use Rattle.sheet.specs.Sheets.{climate_by}
use Rattle.sheet.proofs.read_climate.Goals as goal

pub returns : goal.returns
returns c =
    rw (c.months.ensures, c.months-2.ensures)
    (sym (ap (λ (r : Result (Unit {0}) Refusal). climate_by c.fill_climate.new.c (verdict_in r)) c.in_ok-fill_climate.was) ∙ c.fill_climate.ensures)

pub returns-in_err-fill_climate : goal.returns-in_err-fill_climate
returns-in_err-fill_climate c =
    rw (handed_on _ _ c.from_residual.ensures.1)
    (sym (ap (λ (r : Result (Unit {0}) Refusal). climate_by c.fill_climate.new.c (verdict_in r)) c.in_err-fill_climate.was) ∙ c.fill_climate.ensures)
