-- After i turns the plan's first i days are counted (proofs/Uses.antt).
use Rattle.bank.proofs.Uses.{Adding}
use Rattle.bank.proofs.planning.add_used.Given as goal

abbrev pub invariant-loop-i : goal.invariant-loop-i
invariant-loop-i l = Adding l.initial.used l.depths l.used l.i
