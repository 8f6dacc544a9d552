-- `printed::put_cell` meets its contract: the digits, and then one byte more.
use native.Mathlib.Omega.{arith}
use Rattle.season.proofs.Stores.{sets_last}
use Rattle.printed.specs.Text.{decimal}
use Rattle.printed.proofs.Texts.{length_cell}
use Rattle.printed.proofs.put_cell.Goals as goal

pub put_decimal-next-requires : goal.put_decimal-next-requires
put_decimal-next-requires c = omega (arith, c.requires, length_cell c.args.n c.args.end)

pub bounds-text-next : goal.bounds-text-next
bounds-text-next c = omega (arith, c.requires, length_cell c.args.n c.args.end, c.put_decimal-next.ensures.0, c.put_decimal-next.auto.text)

pub overflow_add-result : goal.overflow_add-result
overflow_add-result c = record { fits = omega (arith, c.requires, length_cell c.args.n c.args.end, c.put_decimal-next.ensures.0, c.well_formed.0.0) }

pub returns : goal.returns
returns c = (
  omega (arith, c.put_decimal-next.ensures.0, length_cell c.args.n c.args.end),
  sets_last c.args.text.now _ c.args.at _ (decimal c.args.n) c.args.end c.put_decimal-next.ensures.0 c.put_decimal-next.ensures.1,
)
