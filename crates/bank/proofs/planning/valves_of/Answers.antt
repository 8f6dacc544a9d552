-- By its two arms.
use mathlib.Core.Path.{sym}
use Rattle.bank.proofs.Uses.{counts_one, counts_none}
use Rattle.bank.proofs.planning.valves_of.Goals as goal

pub returns-then-depth-gt0 : goal.returns-then-depth-gt0
returns-then-depth-gt0 c = sym (counts_one c.args.depth c.if-depth-gt0.true)

pub returns-else-depth-gt0 : goal.returns-else-depth-gt0
returns-else-depth-gt0 c = sym (counts_none c.args.depth c.if-depth-gt0.false)
