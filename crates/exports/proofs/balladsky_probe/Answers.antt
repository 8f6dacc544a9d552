-- By the answer's case: two depletions, or the refusal; each probe is that of its kind.
use mathlib.Core.Path.{ap}
use Rattle.measuring.specs.Probing.{probed_numbers, probed_in}
use Rattle.exports.specs.Small.{SmallProbed}
use Rattle.exports.proofs.Over.{holds_by, written_by_lem, probes_are}
use Rattle.exports.proofs.Bounds.{probed_small}
use Rattle.exports.proofs.balladsky_probe.Goals as goal

pub put_refused-requires : goal.put_refused-requires
put_refused-requires c = holds_by (ap probed_in c.in-Err.is) c.probe.ensures SmallProbed (probed_small _ _ _ _ _ _ _)

pub returns-in-Ok : goal.returns-in-Ok
returns-in-Ok c = let a = c.args in
    written_by_lem (ap probed_in c.in-Ok.is)
    (probes_are a.role a.climate.now a.block.now a.area.now a.capacity c.probe_of-above.ensures c.probe_of-below.ensures c.probe.ensures)
    probed_numbers _ c.put_depletions.ensures

pub returns-in-Err : goal.returns-in-Err
returns-in-Err c = let a = c.args in
    written_by_lem (ap probed_in c.in-Err.is)
    (probes_are a.role a.climate.now a.block.now a.area.now a.capacity c.probe_of-above.ensures c.probe_of-below.ensures c.probe.ensures)
    probed_numbers _ c.put_refused.ensures
