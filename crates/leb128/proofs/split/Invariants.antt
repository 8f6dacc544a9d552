-- `leb128::split` meets its contract. The measure is what is left of the number.
use Rattle.leb128.proofs.Splits.{Split}
use Rattle.leb128.proofs.split.Given as goal

abbrev pub invariant-loop-rest : goal.invariant-loop-rest
invariant-loop-rest l = Split l.n l.bytes l.rest l.i

abbrev pub decreases-loop-rest : goal.decreases-loop-rest
decreases-loop-rest l = l.rest
