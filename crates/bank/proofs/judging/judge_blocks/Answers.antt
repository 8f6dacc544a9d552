-- The blocks before the k-th are accepted, and what is kept of them is theirs (proofs/Judges.antt).
use mathlib.Core.Path.{refl, sym, ap, ◌∙◌}
use Prim.Native.Nat.{◌+◌}
use native.Mathlib.Omega.{arith}
use Rattle.verdict.specs.Refusals.{verdict_in}
use Rattle.verdict.proofs.First.{handed_on, said}
use Rattle.bank.specs.Judging.{Judged, blocks_in, judging_in}
use Rattle.bank.proofs.Judges.{judging_start, sheet_within, area_within, block_at, only_verdict, only_accepted, judging_refused, judging_next, judging_end, judging_noted}
use Rattle.bank.proofs.judging.judge_blocks.Goals as goal

pub loop-k-init : goal.loop-k-init
loop-k-init c = judging_start (blocks_in c.args.b) c.args.b.count c.args.kept.now

pub overflow_add-sheet_end : goal.overflow_add-sheet_end
overflow_add-sheet_end c = record { fits = omega (arith, sheet_within c.loop-k.invariant c.loop-k-test.true c.requires.parts_in_bounds.0, c.part_length.ensures) }

pub overflow_add-area_end : goal.overflow_add-area_end
overflow_add-area_end c = record { fits = omega (arith, area_within c.loop-k.invariant c.loop-k-test.true c.requires.parts_in_bounds.1, c.part_length-in-loop-k.ensures) }

pub slice_bounds-judge_block-end : goal.slice_bounds-judge_block-end
slice_bounds-judge_block-end c = omega (arith, sheet_within c.loop-k.invariant c.loop-k-test.true c.requires.parts_in_bounds.0, c.part_length.ensures)

pub slice_bounds-judge_block-end-in-loop-k : goal.slice_bounds-judge_block-end-in-loop-k
slice_bounds-judge_block-end-in-loop-k c = omega (arith, area_within c.loop-k.invariant c.loop-k-test.true c.requires.parts_in_bounds.1, c.part_length-in-loop-k.ensures)

pub loop-k-preserved : goal.loop-k-preserved
loop-k-preserved c =
    let w = c.loop-k.invariant in
    let is = block_at w c.judge_block.ensures c.part_length.ensures c.part_length-in-loop-k.ensures c.part_length-room.ensures in
    let is' = only_accepted _ (sym (ap judging_in c.in_ok-block.was) ∙ is) refl in
    judging_next w is' {x = c.in_ok-block.block.kept} c.requires.kept_in_bounds c.loop-k-test.true refl (ap (λ i. c.loop-k.sheet_at + i) c.part_length.ensures) (ap (λ i. c.loop-k.area_at + i) c.part_length-in-loop-k.ensures) refl refl c.unwrap_or-start.ensures c.other_start-differ.ensures

pub returns : goal.returns
returns c = (
  judging_end c.loop-k.invariant c.loop-k-test.false (sym (ap verdict_in c.in_ok-refuse_if.was) ∙ said _ _ _ _ _ c.refuse_if.ensures),
  judging_noted c.loop-k.invariant c.requires.le_count.0 c.loop-k-test.false c.unwrap.ensures,
)

pub returns-in_err-block : goal.returns-in_err-block
returns-in_err-block c =
    let w = c.loop-k.invariant in
    let is = block_at w c.judge_block.ensures c.part_length.ensures c.part_length-in-loop-k.ensures c.part_length-room.ensures in
    rw (handed_on _ _ c.from_residual.ensures.1)
    (judging_refused w refl c.loop-k-test.true (sym (only_verdict _) ∙ ap (λ (j : Judged). j.verdict) (sym is ∙ ap judging_in c.in_err-block.was)), tt)

pub returns-in_err-refuse_if : goal.returns-in_err-refuse_if
returns-in_err-refuse_if c =
    rw (handed_on _ _ c.from_residual-in_err-refuse_if.ensures.1)
    (judging_end c.loop-k.invariant c.loop-k-test.false (sym (ap verdict_in c.in_err-refuse_if.was) ∙ said _ _ _ _ _ c.refuse_if.ensures), tt)
