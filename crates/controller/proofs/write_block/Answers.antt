-- The role is refused, or the call is the one without a role.
use mathlib.Core.Path.{ap, ◌∙◌}
use Rattle.verdict.specs.Refusals.{verdict_in}
use Rattle.verdict.proofs.First.{handed_on}
use Rattle.controller.proofs.Roles.{declined, allowed}
use Rattle.controller.proofs.write_block.Goals as goal

pub returns-in_err-try_from : goal.returns-in_err-try_from
returns-in_err-try_from c = rw (handed_on _ _ c.from_residual.ensures.1) (declined _ _ _ _ c.try_from.ensures.0 _ _ (ap verdict_in c.in_err-try_from.was))

pub returns : goal.returns
returns c = c.write_block.ensures ∙ allowed _ _ _ _ c.try_from.ensures.0 (ap verdict_in c.in_ok-try_from.was)
