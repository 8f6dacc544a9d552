-- `printed::put_decimal` meets its contract; it calls itself. The measure is the number: what is left of it is smaller.
use native.Mathlib.Omega.{arith}
use Prim.Native.Nat.{◌/◌}
use Rattle.season.proofs.Stores.{sets_last}
use Rattle.printed.specs.Text.{decimal}
use Rattle.printed.proofs.Texts.{decimal_last, decimal_one, decimal_more, decimal_longer}
use Rattle.printed.proofs.+put_decimal.Goals as goal

pub bounds-text-at : goal.bounds-text-at
bounds-text-at t c = omega (arith, c.requires, decimal_one _ c.if-n-lt10.true)

pub returns-then-n-lt10 : goal.returns-then-n-lt10
returns-then-n-lt10 t c = (omega (arith, decimal_one _ c.if-n-lt10.true), rw (decimal_last _ c.if-n-lt10.true))

pub put_decimal-next-requires : goal.put_decimal-next-requires
put_decimal-next-requires t c = (omega (arith, c.decreases, c.if-n-lt10.false), omega (arith, c.requires, decimal_longer _ c.if-n-lt10.false))

pub bounds-text-next : goal.bounds-text-next
bounds-text-next t c = omega (arith, c.requires, c.put_decimal-next.ensures.0, decimal_longer _ c.if-n-lt10.false, c.put_decimal-next.auto.text)

pub overflow_add-result-2 : goal.overflow_add-result-2
overflow_add-result-2 t c = record { fits = omega (arith, c.requires, c.put_decimal-next.ensures.0, decimal_longer _ c.if-n-lt10.false, c.well_formed.0.0) }

pub returns : goal.returns
returns t c =
    (omega (arith, c.put_decimal-next.ensures.0, decimal_longer _ c.if-n-lt10.false), rw (decimal_more _ c.if-n-lt10.false) (sets_last c.args.text.now _ c.args.at _ (decimal (c.args.n / 10)) _ c.put_decimal-next.ensures.0 c.put_decimal-next.ensures.1))
