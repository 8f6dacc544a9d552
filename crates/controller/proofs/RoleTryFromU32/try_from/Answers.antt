-- No other number is a role.
use mathlib.Core.Path.{sym}
use Rattle.controller.proofs.Roles.{role_outside}
use native.Mathlib.Omega.{arith}
use Rattle.controller.proofs.RoleTryFromU32.try_from.Goals as goal

pub returns-in_default : goal.returns-in_default
returns-in_default c = (sym (role_outside c.args.role (λ e. omega (arith, c.in_default, e)) (λ e. omega (arith, c.in_default, e)) (λ e. omega (arith, c.in_default, e))), tt)
