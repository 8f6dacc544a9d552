-- `leb128::split` meets its contract. The measure is what is left of the number.
use native.Mathlib.Omega.{arith}
use Rattle.leb128.specs.Forms.{groups_of}
use Rattle.leb128.proofs.Splits.{none_split, mark_is, left_few, split_more, split_last}
use Rattle.leb128.proofs.split.Goals as goal

pub loop-rest-init : goal.loop-rest-init
loop-rest-init c = none_split c.args.n

pub overflow_cast-bytes : goal.overflow_cast-bytes
overflow_cast-bytes c = omega (arith, mark_is c.loop-rest.rest)

pub bounds-bytes-i : goal.bounds-bytes-i
bounds-bytes-i c = left_few c.loop-rest.invariant.left c.ranges.n.fits

pub overflow_add-i : goal.overflow_add-i
overflow_add-i c = omega (arith, left_few c.loop-rest.invariant.left c.ranges.n.fits)

pub loop-rest-preserved : goal.loop-rest-preserved
loop-rest-preserved c = split_more c.ranges.n.fits c.loop-rest.invariant c.loop-rest-test.true

pub bounds-bytes-i-2 : goal.bounds-bytes-i-2
bounds-bytes-i-2 c = left_few c.loop-rest.invariant.left c.ranges.n.fits

pub returns : goal.returns
unfolding groups_of
returns c = λ i. record {
  bytes = split_last c.ranges.n.fits c.loop-rest.invariant c.loop-rest-test.false i;
  count = c.group_count-count.ensures i;
}
