-- By the need: none, and some; the quotient is held to 10,000.
use mathlib.Core.Path.{sym, ◌∙◌}
use Prim.Native.Nat.{◌-◌, ◌*◌}
use native.Mathlib.Omega.{arith}
use Rattle.season.proofs.Laws.{product}
use Rattle.season.proofs.Losing.{no_need, some_need}
use Rattle.season.proofs.loss.loss_of.Goals as goal

pub returns-then-need-eq0 : goal.returns-then-need-eq0
returns-then-need-eq0 c = rw c.if-need-eq0.true (sym (no_need c.args.ky c.args.used))

pub overflow_mul-loss-2 : goal.overflow_mul-loss-2
overflow_mul-loss-2 c = record { fits = omega (arith, product (100 * c.args.ky) (c.args.need - c.args.used) 20000 4294967295 (omega (arith, c.requires)) (omega (arith, c.ranges.need))) }

pub returns-then-loss-gt10000 : goal.returns-then-loss-gt10000
returns-then-loss-gt10000 c = sym (some_need c.args.ky c.args.need c.args.used (omega (arith, c.if-need-eq0.false)) ∙ omega (arith, c.if-loss-gt10000.true))

pub returns : goal.returns
returns c = sym (some_need c.args.ky c.args.need c.args.used (omega (arith, c.if-need-eq0.false)) ∙ omega arith)
