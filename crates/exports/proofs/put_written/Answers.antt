-- By the answer's case: the bytes' count, or the refusal.
use mathlib.Core.Path.{refl, ap}
use Rattle.sheet.specs.Writing.{numbers_of, written_in}
use Rattle.exports.specs.Small.{SmallWritten}
use Rattle.exports.proofs.Over.{holds_by, written_by_lem}
use Rattle.exports.proofs.put_written.Goals as goal

pub put_size-requires : goal.put_size-requires
put_size-requires c = holds_by (ap written_in c.in-Ok.is) refl SmallWritten c.requires

pub put_refused-requires : goal.put_refused-requires
put_refused-requires c = holds_by (ap written_in c.in-Err.is) refl SmallWritten c.requires

pub returns-in-Ok : goal.returns-in-Ok
returns-in-Ok c = written_by_lem (ap written_in c.in-Ok.is) refl numbers_of _ c.put_size.ensures

pub returns-in-Err : goal.returns-in-Err
returns-in-Err c = written_by_lem (ap written_in c.in-Err.is) refl numbers_of _ c.put_refused.ensures
