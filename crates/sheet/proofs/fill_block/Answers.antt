-- It goes by what reading the numbers answers (proofs/Verdicts.antt), and then by what judging says.
use mathlib.Core.Path.{sym, ap, ◌∙◌}
use native.Mathlib.Omega.{arith}
use lib.ListN.{length-take}
use Rattle.verdict.specs.Refusals.{verdict_in}
use Rattle.verdict.proofs.First.{handed_on}
use Rattle.fields.specs.Refusals.{block_lines, block_verdict}
use Rattle.sheet.specs.Numbers.{Numbers}
use Rattle.sheet.specs.Sheets.{then_refused}
use Rattle.sheet.proofs.Verdicts.{stopped, whole, count_few, read_counts}
use Rattle.sheet.proofs.fill_block.Goals as goal

pub judge_block-requires : goal.judge_block-requires
judge_block-requires c =
    let n = read_counts _ _ c.args.sheet.now _ (whole _ _ c.args.sheet.now _ _ c.read_numbers.ensures.0 _ c.in_ok-numbers.was) in
    (n.0, omega (arith, n.1, c.requires))

pub returns-in_err-numbers-clause-verdict : goal.returns-in_err-numbers-clause-verdict
returns-in_err-numbers-clause-verdict c =
    rw (handed_on _ _ c.from_residual.ensures.1)
    (sym (stopped _ _ c.args.sheet.now _ _ c.read_numbers.ensures.0 block_lines _ c.in_err-numbers.was))

pub returns-in_err-judge_block-clause-verdict : goal.returns-in_err-judge_block-clause-verdict
unfolding block_verdict
returns-in_err-judge_block-clause-verdict c =
    rw (handed_on _ _ c.from_residual-in_err-judge_block.ensures.1)
    (sym (ap verdict_in c.in_err-judge_block.was) ∙ c.judge_block.ensures ∙ ap (then_refused block_lines) (whole _ _ c.args.sheet.now _ _ c.read_numbers.ensures.0 _ c.in_ok-numbers.was))

pub returns-clause-verdict : goal.returns-clause-verdict
unfolding block_verdict
returns-clause-verdict c =
    sym (ap verdict_in c.in_ok-judge_block.was) ∙ c.judge_block.ensures ∙ ap (then_refused block_lines) (whole _ _ c.args.sheet.now _ _ c.read_numbers.ensures.0 _ c.in_ok-numbers.was)

pub returns-clause-numbers : goal.returns-clause-numbers
returns-clause-numbers c =
    let e = whole _ _ c.args.sheet.now _ _ c.read_numbers.ensures.0 _ c.in_ok-numbers.was in
    (omega (arith, (read_counts _ _ c.args.sheet.now _ e).0, length-take c.in_ok-numbers.numbers c.read_numbers.new.fields), omega (arith, count_few _ _ _ c.read_numbers.ensures.1 c.in_ok-numbers.was), ap (λ (n : Numbers). n.fields) e)
