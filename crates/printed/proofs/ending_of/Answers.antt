-- `printed::ending_of` meets its contract.
use borrow.Author.Tests.{eq-eqb, ne_eqb}
use Rattle.printed.specs.Text.{ending}
use Rattle.printed.proofs.ending_of.Goals as goal

pub returns-then-i-eq5 : goal.returns-then-i-eq5
unfolding ending
returns-then-i-eq5 c = rw (eq-eqb _ _ c.if-i-eq5.true)

pub returns-else-i-eq5 : goal.returns-else-i-eq5
unfolding ending
returns-else-i-eq5 c = rw (ne_eqb _ _ c.if-i-eq5.false)
