-- The loop is `Searched` of proofs/Lowest.antt.
use lib.ListN.{take, drop}
use Rattle.fields.specs.Fields.{limits}
use Rattle.fields.proofs.Lowest.{Searched}
use Rattle.fields.proofs.climate_fault.Given as goal

abbrev pub invariant-loop-k : goal.invariant-loop-k
invariant-loop-k l = Searched 10 (take 24 (drop 9 (limits 28 1))) l.c l.k
