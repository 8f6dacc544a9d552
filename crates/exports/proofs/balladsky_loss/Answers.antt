-- By the answer's case: five numbers, or the refusal.
use mathlib.Core.Path.{ap}
use Rattle.journal.specs.Loss.{loss_numbers, lost_in}
use Rattle.exports.specs.Small.{SmallLost}
use Rattle.exports.proofs.Over.{holds_by, written_by_lem}
use Rattle.exports.proofs.Bounds.{lost_small}
use Rattle.exports.proofs.balladsky_loss.Goals as goal

pub put_refused-requires : goal.put_refused-requires
put_refused-requires c = holds_by (ap lost_in c.in-Err.is) c.loss.ensures SmallLost (lost_small _ _ _ _ _)

pub returns-in-Ok : goal.returns-in-Ok
returns-in-Ok c = written_by_lem (ap lost_in c.in-Ok.is) c.loss.ensures loss_numbers _ c.put_losses.ensures

pub returns-in-Err : goal.returns-in-Err
returns-in-Err c = written_by_lem (ap lost_in c.in-Err.is) c.loss.ensures loss_numbers _ c.put_refused.ensures
