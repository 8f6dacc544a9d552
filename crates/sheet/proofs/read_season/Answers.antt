-- By what the sheet's numbers say (proofs/Verdicts.antt).
use mathlib.Core.Path.{sym, ap, ◌∙◌}
use mathlib.Core.List.{◌++◌}
use lib.ListN.{length-take}
use native.Mathlib.Omega.{arith}
use Rattle.verdict.specs.Refusals.{verdict_in}
use Rattle.verdict.proofs.First.{handed_on}
use Rattle.sheet.specs.Sheets.{block_with}
use Rattle.sheet.proofs.Verdicts.{block_stopped, block_filled}
use Rattle.sheet.proofs.read_season.Goals as goal

pub returns-in_err-count : goal.returns-in_err-count
unfolding block_with
returns-in_err-count c =
    rw (handed_on _ _ c.from_residual.ensures.1)
    (block_stopped _ c.args.sheet.now _ _ (sym c.fill_block.ensures.verdict ∙ ap verdict_in c.in_err-count.was))

pub returns : goal.returns
unfolding block_with
returns c =
    rw c.season_of.ensures
    (block_filled (c.args.climate.eto ++ c.args.climate.rain) c.args.sheet.now _ c.in_ok-count.ensures.numbers.2 (sym (ap verdict_in c.in_ok-count.was) ∙ c.fill_block.ensures.verdict))

pub season_of-requires : goal.season_of-requires
season_of-requires c = omega (arith, length-take c.in_ok-count.count c.fill_block.new.block, c.in_ok-count.ensures.numbers.0, c.in_ok-count.ensures.numbers.1, c.fill_block.auto.block)
