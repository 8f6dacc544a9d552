-- The loop is `Grouping` of proofs/Writing.antt. The measure is what is left of the number.
use Rattle.sheet.proofs.Writing.{Grouping}
use Rattle.sheet.proofs.put_number.Given as goal

abbrev pub invariant-loop-rest : goal.invariant-loop-rest
invariant-loop-rest l = Grouping l.n l.initial.bytes l.at l.bytes l.rest l.i

abbrev pub decreases-loop-rest : goal.decreases-loop-rest
decreases-loop-rest l = l.rest
