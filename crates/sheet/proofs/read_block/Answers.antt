-- The climate's refusal comes first.
use mathlib.Core.Path.{sym, ap, ◌∙◌}
use Rattle.verdict.proofs.First.{handed_on}
use Rattle.sheet.specs.Sheets.{Climate, climate_in, block_with}
use Rattle.sheet.proofs.Verdicts.{with_refused}
use Rattle.sheet.proofs.read_block.Goals as goal

pub returns : goal.returns
returns c = c.read_season.ensures ∙ ap (λ (t : Climate). block_with t c.args.sheet.now) (sym (ap climate_in c.in_ok-climate.was))

pub returns-in_err-climate : goal.returns-in_err-climate
returns-in_err-climate c =
    rw (handed_on _ _ c.from_residual.ensures.1)
    (with_refused (climate_in c.args.climate) c.args.sheet.now _ _ (ap (λ (t : Climate). t.verdict) (ap climate_in c.in_err-climate.was)))
