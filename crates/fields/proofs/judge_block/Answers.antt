-- No field is at fault where the season is made, so it is in its ranges (proofs/Ranges.antt).
use mathlib.Core.Path.{◌≡◌}
use Rattle.fields.specs.Refusals.{block_at_fault}
use Rattle.fields.proofs.Verdicts.{block_refused, block_ranged, chain}
use Rattle.verdict.proofs.First.{said}
use Rattle.season.specs.Sheet.{Ranged}
use Rattle.fields.proofs.judge_block.Goals as goal

pub returns-in-Some : goal.returns-in-Some
returns-in-Some c = block_refused c.args.block.now _ c.in-Some.ensures.0 c.in-Some.ensures.1

pub season_days-requires : goal.season_days-requires
season_days-requires c =
    let clear : block_at_fault c.args.block.now ≡ 0 = c.in_default.ensures in
    let ranged : Ranged c.season_of-s.result = rw c.season_of-s.ensures (block_ranged c.args.block.now c.requires.0 clear) in
    ranged

pub first_total-requires : goal.first_total-requires
first_total-requires c =
    let clear : block_at_fault c.args.block.now ≡ 0 = c.in_default.ensures in
    let ranged : Ranged c.season_of-s.result = rw c.season_of-s.ensures (block_ranged c.args.block.now c.requires.0 clear) in
    ranged

pub returns : goal.returns
returns c =
    let clear : block_at_fault c.args.block.now ≡ 0 = c.in_default.ensures in
    chain c.args.block.now c.season_of-s.result c.season_days.result c.first_total.result _ _ _
    clear c.season_of-s.ensures c.season_days.ensures c.first_total.ensures
    (said _ _ _ _ _ c.refuse_if.ensures) (said _ _ _ _ _ c.or_refused.ensures) (said _ _ _ _ _ c.or_refused-2.ensures)
