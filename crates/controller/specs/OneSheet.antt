-- A pair of sheets gets the answers that its numbers got in one sheet (document 02, T-08): each call beside the one that the requests before had.
use Rattle.std.specs.Prelude.{ℕ, ◌≡◌, List, []}
use Rattle.season.specs.declared.Season.{Season}
use Rattle.verdict.specs.Refusals.{Refused}
use Rattle.sheet.specs.OneSheet.{sheet_of, one_sheet}
use Rattle.journal.specs.declared.Entry.{Entry}
use Rattle.journal.specs.Opening as found
use Rattle.journal.specs.Loss as losing
use Rattle.journal.specs.Opening.{opening}
use Rattle.journal.specs.Calls.{no_stores, recorded_with, recorded, opened_with, opened}
use Rattle.journal.specs.Loss.{lost}
use Rattle.planner.specs.Answer as planned
use Rattle.decades.specs.Table as table
use Rattle.decades.specs.Table.{tabled}
use Rattle.probes.specs.declared.Probe.{Probe}
use Rattle.probes.specs.Contents.{reading_of}
use Rattle.measuring.specs.Probing as probed
use Rattle.measuring.specs.Probing.{probed_on}
use Rattle.controller.specs.Calls.{by_verdict, planned_on, sheet_opened, sheet_recorded, sheet_lost, sheet_planned, sheet_probed, sheet_tabled}

-- A call on one sheet, its text as it was.
abbrev pub on_sheet : {A : Type 0} → (ℕ → ℕ → A) → (Season → A) → List ℕ → A
on_sheet refuse reply sheet = by_verdict refuse reply (sheet_of sheet).season (sheet_of sheet).verdict

-- Every call on the pair is the call that it was on the one sheet of the pair's numbers, for every area, entry, buffer, Ky, probe and field capacity.
pub record SameAsOneSheet (climate block : List ℕ) : Type 0 where
  pub opens : (area : List ℕ)
      → sheet_opened climate block area ≡ on_sheet (λ number value. opened_with (found.Refused number value) []) (λ s. opened s area) (one_sheet climate block)
  pub enters : (area : List ℕ) (e : Entry)
      → sheet_recorded climate block area e ≡ on_sheet (λ number value. recorded_with (Refused number value) no_stores) (λ s. recorded s area e) (one_sheet climate block)
  pub loses : (area : List ℕ) (ky : ℕ) → sheet_lost climate block area ky ≡ on_sheet losing.Refused (λ s. lost s area ky) (one_sheet climate block)
  pub plans : (area out : List ℕ)
      → sheet_planned climate block area out ≡ on_sheet (λ number value. (planned.Refused number value, out)) (λ s. planned_on s out (opening s area)) (one_sheet climate block)
  pub probes : (area : List ℕ) (shallow deep : Probe) (f : ℕ)
      → sheet_probed climate block area shallow deep f
      ≡ on_sheet probed.Refused (λ s. probed_on s (reading_of shallow deep) f (opening s area)) (one_sheet climate block)
  pub tables : (out : List ℕ)
      → sheet_tabled climate block out ≡ on_sheet (λ number value. (table.Refused number value, out)) (λ s. tabled s out) (one_sheet climate block)
