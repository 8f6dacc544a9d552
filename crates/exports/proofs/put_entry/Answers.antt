-- By the verdict: the stores, or the refusal.
use mathlib.Core.Path.{ap}
use mathlib.Core.List.{[], ◌∷◌}
use Rattle.journal.specs.Calls.{recorded_in}
use Rattle.journal.specs.Claims.{RecordedOccurs}
use Rattle.controller.proofs.Claims.{claims}
use Rattle.exports.specs.Written.{recorded_out}
use Rattle.exports.specs.Small.{SmallRecorded}
use Rattle.exports.proofs.Over.{holds_by, written_by_lem, bytes_over}
use Rattle.exports.proofs.Bounds.{recorded_small}
use Rattle.exports.proofs.put_entry.Goals as goal

pub put_stores-requires : goal.put_stores-requires
put_stores-requires c = let small = holds_by (ap recorded_in c.in-Ok.is) c.«record».ensures SmallRecorded (recorded_small _ _ _ _ _) in (small.start, small.count)

pub put_refused-requires : goal.put_refused-requires
put_refused-requires c = (holds_by (ap recorded_in c.in-Err.is) c.«record».ensures SmallRecorded (recorded_small _ _ _ _ _)).verdict

pub returns-in-Ok : goal.returns-in-Ok
returns-in-Ok c =
    let w = c.in-Ok.stores in
    let size = (holds_by (ap recorded_in c.in-Ok.is) c.«record».ensures RecordedOccurs (claims.recorded_occurs _ _ _ _ _)).size in
    written_by_lem (ap recorded_in c.in-Ok.is) c.«record».ensures recorded_out _
    (bytes_over (0 ∷ 0 ∷ w.start ∷ w.count ∷ []) w.bytes c.args.out.now size c.put_stores.ensures)

pub returns-in-Err : goal.returns-in-Err
returns-in-Err c = written_by_lem (ap recorded_in c.in-Err.is) c.«record».ensures recorded_out _ c.put_refused.ensures
