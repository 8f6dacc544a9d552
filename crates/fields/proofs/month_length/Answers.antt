-- `fields::month_length` meets its contract: months past the twelfth stand past the list's end.
use Prim.Native.Nat.{◌-◌}
use mathlib.Core.Path.{sym}
use native.Mathlib.Omega.{arith}
use lib.ListN.{get_or-eq_default}
use Rattle.season.specs.Calendar.{lengths}
use Rattle.fields.proofs.month_length.Goals as goal

pub returns-then-month-eq0 : goal.returns-then-month-eq0
returns-then-month-eq0 c = rw c.if-month-eq0.true

pub returns-then-month-gt12 : goal.returns-then-month-gt12
returns-then-month-gt12 c = sym (get_or-eq_default (lengths c.args.february) 0 {n = c.args.month - 1} (omega arith))
