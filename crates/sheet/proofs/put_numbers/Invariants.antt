-- The loop is `Numbering` of proofs/Writing.antt.
use Rattle.sheet.proofs.Writing.{Numbering}
use Rattle.sheet.proofs.put_numbers.Given as goal

abbrev pub invariant-loop-n : goal.invariant-loop-n
invariant-loop-n l = Numbering l.numbers l.initial.bytes l.bytes l.at l.n-index
