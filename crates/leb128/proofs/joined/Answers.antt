-- A mask, a shift and an `|` join each group above those before it.
use lib.Bits.{and_le_r}
use native.Mathlib.Omega.{arith}
use Rattle.leb128.proofs.Joins.{joined_is}
use Rattle.leb128.proofs.joined.Goals as goal

pub overflow_cast-result : goal.overflow_cast-result
overflow_cast-result c = omega (arith, and_le_r c.args.a 127)

pub overflow_cast-result-2 : goal.overflow_cast-result-2
overflow_cast-result-2 c = omega (arith, and_le_r c.args.b 127)

pub overflow_cast-result-3 : goal.overflow_cast-result-3
overflow_cast-result-3 c = omega (arith, and_le_r c.args.c 127)

pub returns : goal.returns
returns c = joined_is c.args.a c.args.b c.args.c
