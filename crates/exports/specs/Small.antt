-- No place, count or number returned with a refusal passes 8,192, so each fits 32 bits.
use Rattle.std.specs.Prelude.{ℕ, ◌≤◌, get_or}
use Rattle.verdict.specs.Refusals.{Verdict, Accepted, Refused}
use Rattle.journal.specs.Opening.{Opening}
use Rattle.journal.specs.Opening as found
use Rattle.journal.specs.Calls.{Recorded, Opened}
use Rattle.journal.specs.Loss.{Lost}
use Rattle.journal.specs.Loss as losing
use Rattle.planner.specs.Answer.{Planned}
use Rattle.planner.specs.Answer as planned
use Rattle.measuring.specs.Probing.{Probed}
use Rattle.measuring.specs.Probing as probed
use Rattle.decades.specs.Table.{Tabled}
use Rattle.decades.specs.Table as table
use Rattle.sheet.specs.Writing.{Written}
use Rattle.sheet.specs.Writing as writer

abbrev pub SmallVerdict : Verdict → Type 0
SmallVerdict Accepted = Unit {0}
SmallVerdict (Refused number value) = value ≤ 8192

abbrev pub SmallOpening : Opening → Type 0
SmallOpening (found.Clean l) = l.place ≤ 8192
SmallOpening (found.Torn l place) = (l.place ≤ 8192) × (place ≤ 8192)
SmallOpening (found.Refused number value) = value ≤ 8192

pub record SmallOpened (r : Opened) : Type 0 where
  pub opening : SmallOpening r.opening
  pub count : r.count ≤ 8192
  pub places : (i : ℕ) → get_or r.places i 0 ≤ 8192

pub record SmallRecorded (r : Recorded) : Type 0 where
  pub verdict : SmallVerdict r.verdict
  pub start : r.stores.start ≤ 8192
  pub count : r.stores.count ≤ 8192

abbrev pub SmallLost : Lost → Type 0
SmallLost (losing.Parts p) = Unit {0}
SmallLost (losing.Refused number value) = value ≤ 8192

abbrev pub SmallPlanned : Planned → Type 0
SmallPlanned (planned.Made days net gross) = Unit {0}
SmallPlanned (planned.Refused number value) = value ≤ 8192

abbrev pub SmallProbed : Probed → Type 0
SmallProbed (probed.Depletions ledger probes) = Unit {0}
SmallProbed (probed.Refused number value) = value ≤ 8192

abbrev pub SmallTabled : Tabled → Type 0
SmallTabled (table.Rows count) = count ≤ 8192
SmallTabled (table.Refused number value) = value ≤ 8192

abbrev pub SmallWritten : Written → Type 0
SmallWritten (writer.Made count) = count ≤ 8192
SmallWritten (writer.Refused number value) = value ≤ 8192
