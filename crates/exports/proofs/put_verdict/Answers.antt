-- By the verdict's case: 0 and 0, or the refusal.
use mathlib.Core.Path.{refl, ap}
use Rattle.verdict.specs.Refusals.{numbers_of, verdict_in}
use Rattle.exports.specs.Small.{SmallVerdict}
use Rattle.exports.proofs.Over.{holds_by, written_by_lem}
use Rattle.exports.proofs.put_verdict.Goals as goal

pub put_refused-requires : goal.put_refused-requires
put_refused-requires c = holds_by (ap verdict_in c.in-Err.is) refl SmallVerdict c.requires

pub returns-in-Ok : goal.returns-in-Ok
returns-in-Ok c = written_by_lem (ap verdict_in c.in-Ok.is) refl numbers_of _ c.put_refusal.ensures

pub returns-in-Err : goal.returns-in-Err
returns-in-Err c = written_by_lem (ap verdict_in c.in-Err.is) refl numbers_of _ c.put_refused.ensures
