-- By what judging says, and then by the buffer's length (proofs/Answers.antt).
use mathlib.Core.Path.{sym, ap, ◌∙◌}
use Rattle.verdict.specs.Refusals.{verdict_in}
use Rattle.verdict.proofs.First.{handed_on}
use native.Mathlib.Omega.{arith}
use Rattle.fields.specs.Refusals.{climate_lines, climate_verdict}
use Rattle.sheet.specs.Numbers.{written}
use Rattle.sheet.proofs.Lengths.{climate_written_length}
use Rattle.sheet.proofs.Answers.{judged_refused, judged_accepted}
use borrow.Author.Rules.{rules}
use Rattle.sheet.proofs.write_climate.Goals as goal

pub write_numbers-requires : goal.write_numbers-requires
write_numbers-requires c = ((climate_written_length c.args.fields (search rules) (sym c.judge_climate.ensures ∙ ap verdict_in c.in_ok-judge_climate.was)).1, omega arith)

pub returns-in_err-judge_climate : goal.returns-in_err-judge_climate
unfolding climate_verdict
returns-in_err-judge_climate c = rw (handed_on _ _ c.from_residual.ensures.1) (judged_refused (climate_lines c.args.fields) (written c.args.fields) c.args.sheet.now _ _ (sym c.judge_climate.ensures ∙ ap verdict_in c.in_err-judge_climate.was))

pub returns : goal.returns
unfolding climate_verdict
returns c = c.write_numbers.ensures ∙ judged_accepted (climate_lines c.args.fields) (written c.args.fields) c.args.sheet.now (sym c.judge_climate.ensures ∙ ap verdict_in c.in_ok-judge_climate.was)
