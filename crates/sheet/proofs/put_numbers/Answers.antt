-- The loop is `Numbering` of proofs/Writing.antt.
use Rattle.sheet.proofs.Writing.{none_numbered, numbering_length, numbering_room, numbering_more, numbering_end}
use Rattle.sheet.proofs.put_numbers.Goals as goal

pub loop-n-init : goal.loop-n-init
loop-n-init c = none_numbered _ _ c.requires

pub put_number-at-requires : goal.put_number-at-requires
put_number-at-requires c = numbering_room c.loop-n.invariant c.loop-n-test.true

pub loop-n-preserved : goal.loop-n-preserved
loop-n-preserved c = numbering_more c.loop-n.invariant c.loop-n-test.true c.put_number-at.ensures.0 c.put_number-at.ensures.1

pub shape_of-bytes : goal.shape_of-bytes
shape_of-bytes c = numbering_length c.loop-n.invariant

pub returns : goal.returns
returns c = numbering_end c.loop-n.invariant c.loop-n-test.false
