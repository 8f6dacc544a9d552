-- Refused by what judging finds, or planned by what it kept.
use mathlib.Core.Path.{sym, ap, ◌∙◌}
use native.Mathlib.Omega.{arith}
use Rattle.std.proofs.lemmas.Result.{IfOk-at_ok}
use Rattle.verdict.specs.Refusals.{verdict_in}
use Rattle.verdict.proofs.First.{handed_on}
use Rattle.bank.specs.Judging.{blocks_in}
use Rattle.bank.proofs.Accepted.{ready_all, noted_ready, banked_refused, banked_planned}
use Rattle.bank.proofs.plan_judged.Goals as goal

pub plan_from_none-requires : goal.plan_from_none-requires
plan_from_none-requires c =
    record {
      counted = c.requires.le_count.1;
      parts_in_bounds = (c.requires.parts_in_bounds.0, c.requires.parts_in_bounds.2);
      kept_in_bounds = omega (arith, c.requires.kept_in_bounds, c.judge_blocks.auto.kept);
      all_ready = noted_ready (IfOk-at_ok _ c.in_ok-today.was c.judge_blocks.ensures.1) c.args.limit (ready_all (blocks_in c.args.b) c.requires.read_climate c.args.b.count (sym c.judge_blocks.ensures.0 ∙ ap verdict_in c.in_ok-today.was) c.args.limit);
    }

pub returns : goal.returns
returns c =
    banked_planned (blocks_in c.args.b) c.args.b.count c.args.limit c.args.depths.now c.args.answers.now (sym c.judge_blocks.ensures.0 ∙ ap verdict_in c.in_ok-today.was) (IfOk-at_ok _ c.in_ok-today.was c.judge_blocks.ensures.1) c.plan_from_none.ensures

pub returns-in_err-today : goal.returns-in_err-today
returns-in_err-today c =
    rw (handed_on _ _ c.from_residual.ensures.1)
    (banked_refused (blocks_in c.args.b) c.args.b.count c.args.limit c.args.depths.now c.args.answers.now (sym c.judge_blocks.ensures.0 ∙ ap verdict_in c.in_err-today.was))
