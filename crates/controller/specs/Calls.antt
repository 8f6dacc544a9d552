-- The calls on bytes, as a role that may make them has them (Roles has them by any role). Refusals 1 to 7 concern every call that is given a climate sheet
-- and a block sheet: it gives the first of them that applies, and else what it answers of their season. The two writers are given numbers:
-- `climate_written` and `block_written` of sheet's specs/Writing.antt.
use Rattle.std.specs.Prelude.{ℕ, cond, List, [], ltb}
use Rattle.season.specs.declared.Season.{Season}
use Rattle.season.specs.Sheet.{season_days}
use Rattle.verdict.specs.Refusals.{Verdict, Accepted, Refused}
use Rattle.sheet.specs.Sheets.{sheets_of}
use Rattle.journal.specs.declared.Entry.{Entry}
use Rattle.journal.specs.Opening.{Opening, opening}
use Rattle.journal.specs.Opening as found
use Rattle.journal.specs.Calls.{Recorded, Opened, no_stores, recorded_with, recorded, opened_with, opened}
use Rattle.journal.specs.Loss.{Lost, lost}
use Rattle.journal.specs.Loss as losing
use Rattle.journal.specs.Entries.{waiting}
use Rattle.planner.specs.Answer.{Planned, answer}
use Rattle.planner.specs.Answer as planned
use Rattle.decades.specs.Table.{Tabled, tabled}
use Rattle.decades.specs.Table as table
use Rattle.probes.specs.declared.Probe.{Probe}
use Rattle.probes.specs.Contents.{reading_of}
use Rattle.measuring.specs.Probing.{Probed, probed_on}
use Rattle.measuring.specs.Probing as probed

abbrev pub by_verdict : {A : Type 0} → (ℕ → ℕ → A) → (Season → A) → Season → Verdict → A
by_verdict refuse reply s Accepted = reply s
by_verdict refuse reply s (Refused number value) = refuse number value

unfoldable pub on_sheets : {A : Type 0} → (ℕ → ℕ → A) → (Season → A) → List ℕ → List ℕ → A
on_sheets refuse reply climate block = by_verdict refuse reply (sheets_of climate block).season (sheets_of climate block).verdict

-- Open. A refusal has no stores.
abbrev pub sheet_opened : List ℕ → List ℕ → List ℕ → Opened
sheet_opened climate block area = on_sheets (λ number value. opened_with (found.Refused number value) []) (λ s. opened s area) climate block

-- Rain, irrigation and close, likewise.
abbrev pub sheet_recorded : List ℕ → List ℕ → List ℕ → Entry → Recorded
sheet_recorded climate block area e = on_sheets (λ number value. recorded_with (Refused number value) no_stores) (λ s. recorded s area e) climate block

-- Loss, by a yield response factor.
abbrev pub sheet_lost : List ℕ → List ℕ → List ℕ → ℕ → Lost
sheet_lost climate block area ky = on_sheets losing.Refused (λ s. lost s area ky) climate block

-- Plan, on a journal that opens so, with the lent buffer: 8 to 10, then 11, then 15 and 16. It runs from the ledger's open day, starting at its depletion.
unfoldable pub planned_on : Season → List ℕ → Opening → Planned × List ℕ
planned_on s out (found.Clean l) =
    cond (ltb (season_days s) l.day) (planned.Refused 11 0, out) (answer s l.day l.depletion (waiting l) out)
planned_on s out (found.Torn l place) = (planned.Refused 10 place, out)
planned_on s out (found.Refused number place) = (planned.Refused number place, out)

abbrev pub sheet_planned : List ℕ → List ℕ → List ℕ → List ℕ → Planned × List ℕ
sheet_planned climate block area out = on_sheets (λ number value. (planned.Refused number value, out)) (λ s. planned_on s out (opening s area)) climate block

-- Probe, by the field capacity in ten-thousandths.
abbrev pub sheet_probed : List ℕ → List ℕ → List ℕ → Probe → Probe → ℕ → Probed
sheet_probed climate block area shallow deep f = on_sheets probed.Refused (λ s. probed_on s (reading_of shallow deep) f (opening s area)) climate block

-- Table, with the lent buffer.
abbrev pub sheet_tabled : List ℕ → List ℕ → List ℕ → Tabled × List ℕ
sheet_tabled climate block out = on_sheets (λ number value. (table.Refused number value, out)) (λ s. tabled s out) climate block
