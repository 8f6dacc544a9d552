-- Document 02, T-09: what each call answers a role. 20 and 21 come before anything else is looked at; a refused role has no stores and leaves every lent
-- buffer as it was.
use Rattle.std.specs.Prelude.{ℕ, ◌≤◌, ◌≡◌, List, Result, IfOk}
use Rattle.verdict.specs.declared.Refusal as refusal
use Rattle.verdict.specs.Refusals.{Verdict, Accepted, Refused, first_of, verdict_in}
use Rattle.sheet.specs.Writing.{Written, climate_written, block_written}
use Rattle.sheet.specs.Writing as writer
use Rattle.journal.specs.declared.Entry.{Entry}
use Rattle.journal.specs.Calls.{Recorded, Opened}
use Rattle.journal.specs.Loss.{Lost}
use Rattle.journal.specs.Loss as losing
use Rattle.journal.specs.Roles.{look_lines, by_role}
use Rattle.journal.specs.History.{without_stores, recorded_as, opened_as}
use Rattle.planner.specs.Answer.{Planned}
use Rattle.planner.specs.Answer as planned
use Rattle.bank.specs.Banks.{banked}
use Rattle.decades.specs.Table.{Tabled}
use Rattle.decades.specs.Table as table
use Rattle.probes.specs.declared.Probe.{Probe}
use Rattle.measuring.specs.Probing.{Probed}
use Rattle.measuring.specs.Probing as probed
use Rattle.controller.specs.declared.Role.{Role}
use Rattle.controller.specs.declared.Role.TheVariants.{Looks, Enters, Mends}
use Rattle.controller.specs.Calls.{sheet_opened, sheet_recorded, sheet_lost, sheet_planned, sheet_probed, sheet_tabled}

-- What the code makes of a role's number: refusal 20, or the role of that number.
abbrev pub role_number : Role → ℕ
role_number Looks = 1
role_number Enters = 2
role_number Mends = 3

abbrev pub Says : ℕ → Result Role refusal.Refusal → Type 0
Says role r = (verdict_in r ≡ first_of Accepted (look_lines role)) × IfOk r (λ k. role_number k ≡ role)

-- Open: roles 1 and 2 get no stores.
abbrev pub opened_by : ℕ → List ℕ → List ℕ → List ℕ → Opened
opened_by role climate block area = opened_as role (sheet_opened climate block area)

-- Rain, irrigation and close: role 1 is refused 21.
abbrev pub recorded_by : ℕ → List ℕ → List ℕ → List ℕ → Entry → Recorded
recorded_by role climate block area e = recorded_as role (sheet_recorded climate block area e)

-- The others have no place for a store: roles 1 to 3 get one answer.
abbrev pub loss_by : ℕ → List ℕ → List ℕ → List ℕ → ℕ → Lost
loss_by role climate block area ky = by_role (look_lines role) losing.Refused (sheet_lost climate block area ky)

abbrev pub planned_by : ℕ → List ℕ → List ℕ → List ℕ → List ℕ → Planned × List ℕ
planned_by role climate block area out = by_role (look_lines role) (λ number value. (planned.Refused number value, out)) (sheet_planned climate block area out)

abbrev pub probed_by : ℕ → List ℕ → List ℕ → List ℕ → Probe → Probe → ℕ → Probed
probed_by role climate block area shallow deep f = by_role (look_lines role) probed.Refused (sheet_probed climate block area shallow deep f)

-- Of a bank: the verdict, the answers and the depths.
abbrev pub banked_by : ℕ → List ℕ → ℕ → ℕ → List ℕ → List ℕ → List ℕ → List ℕ → List ℕ → Verdict × List ℕ × List ℕ
banked_by role climate blocks limit lengths sheets areas depths answers =
    by_role (look_lines role) (λ number value. (Refused number value, answers, depths)) (banked climate blocks limit lengths sheets areas depths answers)

abbrev pub tabled_by : ℕ → List ℕ → List ℕ → List ℕ → Tabled × List ℕ
tabled_by role climate block out = by_role (look_lines role) (λ number value. (table.Refused number value, out)) (sheet_tabled climate block out)

abbrev pub climate_written_by : ℕ → List ℕ → List ℕ → Written × List ℕ
climate_written_by role c out = by_role (look_lines role) (λ number value. (writer.Refused number value, out)) (climate_written c out)

abbrev pub block_written_by : ℕ → List ℕ → List ℕ → Written × List ℕ
block_written_by role vs out = by_role (look_lines role) (λ number value. (writer.Refused number value, out)) (block_written vs out)

-- The answers of the definitions without a role, for every sheet, area, entry, buffer, Ky, probe and field capacity: so what is proved of those holds of
-- the calls.
pub record SameForRoles : Type 0 where
  pub opens : (climate block area : List ℕ) → opened_by 3 climate block area ≡ sheet_opened climate block area
  pub opens_looking : (role : ℕ) → 1 ≤ role → role ≤ 2 → (climate block area : List ℕ)
      → opened_by role climate block area ≡ without_stores (sheet_opened climate block area)
  pub enters : (role : ℕ) → 2 ≤ role → role ≤ 3 → (climate block area : List ℕ) (e : Entry)
      → recorded_by role climate block area e ≡ sheet_recorded climate block area e
  pub loses : (role : ℕ) → 1 ≤ role → role ≤ 3 → (climate block area : List ℕ) (ky : ℕ) → loss_by role climate block area ky ≡ sheet_lost climate block area ky
  pub plans : (role : ℕ) → 1 ≤ role → role ≤ 3 → (climate block area out : List ℕ)
      → planned_by role climate block area out ≡ sheet_planned climate block area out
  pub probes : (role : ℕ) → 1 ≤ role → role ≤ 3 → (climate block area : List ℕ) (shallow deep : Probe) (f : ℕ)
      → probed_by role climate block area shallow deep f ≡ sheet_probed climate block area shallow deep f
  pub banks : (role : ℕ) → 1 ≤ role → role ≤ 3 → (climate : List ℕ) (blocks limit : ℕ) (lengths sheets areas depths answers : List ℕ)
      → banked_by role climate blocks limit lengths sheets areas depths answers ≡ banked climate blocks limit lengths sheets areas depths answers
  pub tables : (role : ℕ) → 1 ≤ role → role ≤ 3 → (climate block out : List ℕ) → tabled_by role climate block out ≡ sheet_tabled climate block out
  pub writes_climate : (role : ℕ) → 1 ≤ role → role ≤ 3 → (c out : List ℕ) → climate_written_by role c out ≡ climate_written c out
  pub writes_block : (role : ℕ) → 1 ≤ role → role ≤ 3 → (vs out : List ℕ) → block_written_by role vs out ≡ block_written vs out
