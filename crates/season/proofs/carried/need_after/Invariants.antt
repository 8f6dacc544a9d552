-- Each turn adds the need of one day more; where the coefficient stays there is nothing to go over.
use Rattle.season.proofs.Along.{Summing}
use Rattle.season.proofs.carried.need_after.Given as goal

abbrev pub invariant-loop : goal.invariant-loop
invariant-loop l = Summing l.t l.days l.top l.sum l.counter
