-- The loop is `SoFar` of proofs/Runs.antt; what it comes to stands in proofs/Further.antt.
use lib.ListN.{length}
use Rattle.sheet.proofs.Runs.{SoFar}
use Rattle.sheet.proofs.read_all.Given as goal

abbrev pub invariant-loop-field : goal.invariant-loop-field
invariant-loop-field l = SoFar l.sheet (length l.initial.fields) l.fields l.at l.field-index
