-- By what the opening found: two numbers, the ledger's, the count and the places, or the refusal.
use mathlib.Core.Path.{ap}
use native.Mathlib.Omega.{arith}
use Rattle.journal.specs.Opening.{Clean, Torn, numbers_of, opening_in}
use Rattle.exports.specs.Written.{opened_out}
use Rattle.exports.specs.Small.{SmallOpened}
use Rattle.exports.proofs.Over.{holds_by, written_by_lem, opened_case, places_over}
use Rattle.exports.proofs.Bounds.{opened_small}
use Rattle.exports.proofs.balladsky_open.Goals as goal

pub put_opening-requires : goal.put_opening-requires
put_opening-requires c = let small = holds_by (opened_case _ (ap opening_in c.in-Clean.is)) c.open-opened.ensures SmallOpened (opened_small _ _ _ _) in (omega arith, small.opening, small.count, small.places 0, small.places 1, small.places 2)

pub put_opening-requires-in-Torn : goal.put_opening-requires-in-Torn
put_opening-requires-in-Torn c = let small = holds_by (opened_case _ (ap opening_in c.in-Torn.is)) c.open-opened.ensures SmallOpened (opened_small _ _ _ _) in (small.opening.1, small.opening.0, small.count, small.places 0, small.places 1, small.places 2)

pub put_refused-requires : goal.put_refused-requires
put_refused-requires c = (holds_by (opened_case _ (ap opening_in c.in-Refused.is)) c.open-opened.ensures SmallOpened (opened_small _ _ _ _)).opening

pub returns-in-Clean : goal.returns-in-Clean
returns-in-Clean c = written_by_lem (opened_case _ (ap opening_in c.in-Clean.is)) c.open-opened.ensures opened_out _ (places_over c.args.role c.args.climate.now c.args.block.now c.args.area.now c.open-opened.ensures (numbers_of (Clean c.in-Clean.l)) c.args.out.now c.put_opening.ensures)

pub returns-in-Torn : goal.returns-in-Torn
returns-in-Torn c = written_by_lem (opened_case _ (ap opening_in c.in-Torn.is)) c.open-opened.ensures opened_out _ (places_over c.args.role c.args.climate.now c.args.block.now c.args.area.now c.open-opened.ensures (numbers_of (Torn c.in-Torn.l c.in-Torn.place)) c.args.out.now c.put_opening-in-Torn.ensures)

pub returns-in-Refused : goal.returns-in-Refused
returns-in-Refused c = written_by_lem (opened_case _ (ap opening_in c.in-Refused.is)) c.open-opened.ensures opened_out _ c.put_refused.ensures
