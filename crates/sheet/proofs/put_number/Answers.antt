-- The loop is `Grouping` of proofs/Writing.antt. The measure is what is left of the number.
use native.Mathlib.Omega.{arith}
use Rattle.sheet.proofs.Writing.{none_grouped, next_in_lem, more_in, group_more, group_last}
use Rattle.sheet.proofs.put_number.Goals as goal

pub loop-rest-init : goal.loop-rest-init
loop-rest-init c = none_grouped c.args.n _ c.args.at c.requires

pub bounds-bytes-i : goal.bounds-bytes-i
bounds-bytes-i c = omega (arith, more_in c.loop-rest.invariant c.loop-rest-test.true)

pub loop-rest-preserved : goal.loop-rest-preserved
loop-rest-preserved c = group_more c.loop-rest.invariant c.loop-rest-test.true

pub bounds-bytes-i-2 : goal.bounds-bytes-i-2
bounds-bytes-i-2 c = omega (arith, (next_in_lem c.loop-rest.invariant).0, (next_in_lem c.loop-rest.invariant).1)

pub overflow_add-result : goal.overflow_add-result
overflow_add-result c = record { fits = omega (arith, (next_in_lem c.loop-rest.invariant).1, c.well_formed) }

pub returns : goal.returns
returns c = group_last c.loop-rest.invariant c.loop-rest-test.false
