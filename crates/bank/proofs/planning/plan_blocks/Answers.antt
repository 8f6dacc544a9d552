-- The blocks before the k-th are planned, and the counts are theirs (proofs/Progressing.antt).
use mathlib.Core.Path.{refl, sym, ap, ◌∙◌}
use Prim.Native.Nat.{◌+◌}
use native.Mathlib.Omega.{arith}
use Rattle.sheet.specs.Sheets.{accepted_climate, season_in}
use Rattle.bank.specs.Judging.{blocks_in}
use Rattle.bank.specs.Carried.{bank_in}
use Rattle.bank.proofs.Progressing.{going_start, going_sheet, going_part, going_length, going_ready, going_day, going_next, going_end, season_is, season_read}
use Rattle.bank.proofs.planning.plan_blocks.Goals as goal

pub loop-k-init : goal.loop-k-init
loop-k-init c = going_start (bank_in (blocks_in c.args.b) c.args.limit c.args.today c.args.kept.now) c.args.b.lengths.now c.args.answers.now c.args.depths.now c.args.b.count c.requires.used_value

pub overflow_add-sheet_end : goal.overflow_add-sheet_end
overflow_add-sheet_end c = record { fits = omega (arith, going_sheet c.loop-k.invariant c.loop-k-test.true c.requires.parts_in_bounds.0, c.part_length.ensures) }

pub overflow_add-end : goal.overflow_add-end
overflow_add-end c = record { fits = omega (arith, c.well_formed, going_length c.loop-k.invariant, going_part c.loop-k.invariant c.loop-k-test.true c.requires.parts_in_bounds.1, c.part_length-in-loop-k.ensures) }

pub slice_bounds-read_season-end : goal.slice_bounds-read_season-end
slice_bounds-read_season-end c = omega (arith, going_sheet c.loop-k.invariant c.loop-k-test.true c.requires.parts_in_bounds.0, c.part_length.ensures)

pub slice_bounds-plan_block-end : goal.slice_bounds-plan_block-end
slice_bounds-plan_block-end c = omega (arith, going_part c.loop-k.invariant c.loop-k-test.true c.requires.parts_in_bounds.1, c.part_length-in-loop-k.ensures)

pub offset_bounds-depths-at : goal.offset_bounds-depths-at
offset_bounds-depths-at c = record { fits = omega (arith, c.well_formed, going_length c.loop-k.invariant, going_part c.loop-k.invariant c.loop-k-test.true c.requires.parts_in_bounds.1) }

pub plan_block-planned-requires : goal.plan_block-planned-requires
plan_block-planned-requires c =
    let g = going_ready c.loop-k.invariant c.requires.parts_in_bounds.1 c.requires.all_ready c.loop-k-test.true c.part_length-in-loop-k.ensures c.requires.counted.few (season_is (accepted_climate c.args.b.climate) c.args.b.lengths.now c.args.b.sheets.now c.loop-k.k (sym (ap season_in c.unwrap-season.ensures) ∙ c.read_season.ensures) c.loop-k.invariant.sheet c.part_length.ensures) c.counts_seen-seen.ensures in
    record { valid = g.0; day_of = g.1.0; depletion_bound = g.1.1.0; today_in_bounds = g.1.1.1.0; counts = g.1.1.1.1.0; seen_le_longest_season = g.1.1.1.1.1 }

pub put_answer-requires : goal.put_answer-requires
put_answer-requires c = record { at_bound = omega (arith, c.loop-k-test.true, c.requires.counted.few); small_day = going_day c.loop-k.invariant c.requires.parts_in_bounds.1 c.requires.all_ready c.loop-k-test.true c.part_length-in-loop-k.ensures (season_is (accepted_climate c.args.b.climate) c.args.b.lengths.now c.args.b.sheets.now c.loop-k.k (sym (ap season_in c.unwrap-season.ensures) ∙ c.read_season.ensures) c.loop-k.invariant.sheet c.part_length.ensures) c.counts_seen-seen.ensures c.plan_block-planned.ensures }

pub loop-k-preserved : goal.loop-k-preserved
loop-k-preserved c = going_next c.loop-k.invariant c.requires.parts_in_bounds.1 c.requires.all_ready c.loop-k-test.true c.part_length-in-loop-k.ensures (season_is (accepted_climate c.args.b.climate) c.args.b.lengths.now c.args.b.sheets.now c.loop-k.k (sym (ap season_in c.unwrap-season.ensures) ∙ c.read_season.ensures) c.loop-k.invariant.sheet c.part_length.ensures) c.counts_seen-seen.ensures c.plan_block-planned.ensures (ap (λ i. c.loop-k.sheet_at + i) c.part_length.ensures) refl c.put_answer.ensures

pub shape_of-depths : goal.shape_of-depths
shape_of-depths c = going_length c.loop-k.invariant

pub returns : goal.returns
returns c = going_end c.loop-k.invariant c.loop-k-test.false

pub unwrap-season-requires : goal.unwrap-season-requires
unwrap-season-requires c = season_read (accepted_climate c.args.b.climate) c.args.b.lengths.now c.args.b.sheets.now c.loop-k.k _ c.read_season.ensures c.loop-k.invariant.sheet c.part_length.ensures (c.requires.all_ready c.loop-k.k c.loop-k-test.true).valid
