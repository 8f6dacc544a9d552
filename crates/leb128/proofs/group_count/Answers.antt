-- `leb128::group_count` meets its contract, by the law of the leading zeros.
use mathlib.Core.Path.{sym}
use native.Mathlib.Omega.{arith}
use lib.Count.{leading_le}
use Rattle.leb128.proofs.Steps.{count_last}
use Rattle.leb128.proofs.Laws.{count_leading}
use Rattle.leb128.proofs.group_count.Goals as goal

pub overflow_sub-result : goal.overflow_sub-result
overflow_sub-result c = omega (arith, leading_le 32 c.args.n)

pub returns-then-n-eq0 : goal.returns-then-n-eq0
returns-then-n-eq0 c = sym (count_last c.args.n (omega arith))

pub returns-else-n-eq0 : goal.returns-else-n-eq0
returns-else-n-eq0 c = sym (count_leading 32 c.args.n (omega (arith, c.if-n-eq0.false)) c.ranges.n.fits)
