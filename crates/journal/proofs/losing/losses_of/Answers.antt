-- Each loss is what its callee ensures.
use native.Mathlib.Omega.{arith}
use Rattle.season.specs.declared.Stage.TheVariants.{Initial, Development, Middle, Late}
use Rattle.journal.proofs.losing.losses_of.Goals as goal

pub loss_of-requires-2 : goal.loss_of-requires-2
loss_of-requires-2 c = (c.requires.0, c.requires.1.stage Initial)

pub loss_of-requires-3 : goal.loss_of-requires-3
loss_of-requires-3 c = (c.requires.0, c.requires.1.stage Development)

pub loss_of-requires-4 : goal.loss_of-requires-4
loss_of-requires-4 c = (c.requires.0, c.requires.1.stage Middle)

pub loss_of-requires-5 : goal.loss_of-requires-5
loss_of-requires-5 c = (c.requires.0, omega (arith, c.requires.1.season, c.requires.1.stage Late))

pub returns : goal.returns
returns c = rw (c.loss_of.ensures, c.loss_of-2.ensures, c.loss_of-3.ensures, c.loss_of-4.ensures, c.loss_of-5.ensures)
