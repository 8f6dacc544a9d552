-- The two tests of `contains` are those of `outside`.
use Rattle.std.proofs.Common.{arith}
use Rattle.std.proofs.lemmas.Grind.{common_steps}
use Rattle.fields.specs.Fields.{outside}
use Rattle.fields.proofs.is_outside.Goals as goal

pub returns : goal.returns
unfolding outside
returns c = grind (arith, common_steps)
