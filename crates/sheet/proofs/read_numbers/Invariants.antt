-- The loop is `SoFar` of proofs/Runs.antt; what it comes to stands in proofs/Further.antt.
use lib.ListN.{length}
use Rattle.sheet.proofs.Runs.{SoFar}
use Rattle.sheet.proofs.read_numbers.Given as goal

abbrev pub invariant-loop-k : goal.invariant-loop-k
invariant-loop-k l = SoFar l.sheet (length l.initial.fields) l.fields l.at l.k
