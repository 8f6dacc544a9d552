-- By what judging says, and then by the buffer's length (proofs/Answers.antt).
use mathlib.Core.Path.{sym, ap, ◌∙◌}
use Rattle.verdict.specs.Refusals.{verdict_in}
use Rattle.verdict.proofs.First.{handed_on}
use native.Mathlib.Omega.{arith}
use Rattle.fields.specs.Refusals.{block_lines, block_verdict}
use Rattle.sheet.specs.Numbers.{written}
use Rattle.sheet.proofs.Lengths.{block_written_length}
use Rattle.sheet.proofs.Answers.{judged_refused, judged_accepted}
use Rattle.sheet.proofs.write_fields.Goals as goal

pub write_numbers-requires : goal.write_numbers-requires
write_numbers-requires c = ((block_written_length c.args.fields.now c.requires.0 c.requires.1 (sym c.judge_block.ensures ∙ ap verdict_in c.in_ok-judge_block.was)).1, omega arith)

pub returns-in_err-judge_block : goal.returns-in_err-judge_block
unfolding block_verdict
returns-in_err-judge_block c = rw (handed_on _ _ c.from_residual.ensures.1) (judged_refused (block_lines c.args.fields.now) (written c.args.fields.now) c.args.sheet.now _ _ (sym c.judge_block.ensures ∙ ap verdict_in c.in_err-judge_block.was))

pub returns : goal.returns
unfolding block_verdict
returns c = c.write_numbers.ensures ∙ judged_accepted (block_lines c.args.fields.now) (written c.args.fields.now) c.args.sheet.now (sym c.judge_block.ensures ∙ ap verdict_in c.in_ok-judge_block.was)
