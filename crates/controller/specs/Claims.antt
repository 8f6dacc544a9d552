-- What is proved of the calls, gathered: `claims`, in proofs/Claims.antt, has a proof of each field. The lower crates' claims stand in their own `Claims`.
use Rattle.std.specs.Prelude.{◌≡◌, ◌↔◌, List, [], ◌++◌, map, ℕ, ◌≤◌, ◌<◌, length, drop}
use Rattle.verdict.specs.Refusals.{Accepted, Refused, first_of, verdict_of}
use Rattle.season.specs.Sheet.{season_days}
use Rattle.leb128.specs.Claims.{Bytes}
use Rattle.sheet.specs.Writing as writer
use Rattle.sheet.specs.Numbers.{written}
use Rattle.fields.specs.Refusals.{climate_lines, block_lines}
use Rattle.sheet.specs.Sheets.{climate_of, block_of, sheets_of}
use Rattle.sheet.specs.Writing.{sheet_fields, write_lines, write_verdict}
use Rattle.sheet.specs.OneSheet.{sheet_of, one_sheet}
use Rattle.sheet.specs.Claims as sheet
use Rattle.journal.specs.declared.Entry.{Entry}
use Rattle.journal.specs.declared.Ledger.{Ledger}
use Rattle.journal.specs.Opening.{Clean}
use Rattle.journal.specs.Opening as found
use Rattle.journal.specs.Specified.{Opens}
use Rattle.journal.specs.Calls.{no_stores, recorded_with, wipe_places, opened_with, wipe, wipes_in}
use Rattle.journal.specs.Loss.{loss_numbers}
use Rattle.journal.specs.Book.{Step}
use Rattle.journal.specs.Roles.{look_lines, enter_lines}
use Rattle.journal.specs.Claims as journal
use Rattle.journal.specs.Claims.{RecordedOccurs, OpenedOccurs}
use Rattle.planner.specs.Outlook.{days_left}
use Rattle.planner.specs.Answer as planned
use Rattle.planner.specs.Claims as planner
use Rattle.bank.specs.Blocks.{part_of}
use Rattle.bank.specs.Banks.{five}
use Rattle.bank.specs.Claims as bank
use Rattle.bank.specs.Claims.{numbers_at, BankRight}
use Rattle.decades.specs.Table as tabled
use Rattle.probes.specs.declared.Probe.{Probe}
use Rattle.probes.specs.Claims as probes
use Rattle.measuring.specs.Probing.{Probed, probed_numbers}
use Rattle.controller.specs.Calls.{sheet_opened, sheet_planned}
use Rattle.controller.specs.Roles.{opened_by, recorded_by, loss_by, planned_by, probed_by, banked_by, tabled_by, climate_written_by, block_written_by, SameForRoles}
use Rattle.controller.specs.Refusals.{on_lines, open_lines, loss_lines, entry_lines, plan_lines, probe_lines, table_lines, bank_lines}
use Rattle.controller.specs.Demands.{PlanKept, Demand3, Press, area_pressed, OnlyLook}
use Rattle.controller.specs.OneSheet.{SameAsOneSheet}
use Rattle.controller.specs.Cases.{cases, leap_cases, probe_cases, role_cases}

pub record Claims : Type 0 where
  -- Demand 3: for every accepted pair of sheets, area length, history with its roles and cuts, and lent buffer; opening and plan by each of roles 1 to 3.
  pub demand_3 : (climate block : List ℕ) → (sheets_of climate block).verdict ≡ Accepted → (size : ℕ) → size ≤ 8192 → (steps : List Step) (out : List ℕ)
      → (role : ℕ) → 1 ≤ role → role ≤ 3 → Demand3 climate block size steps out role
  -- Whatever role 1 calls, the journal stays: for every area, every sheets' bytes and every call, refused ones too, and for roles that are refused 20.
  pub role_1_keeps : (area : List ℕ) (ps : List Press) → OnlyLook ps → area_pressed area ps ≡ area
  -- For a role that may make it, a call answers what it answered without roles; roles 1 and 2 open without stores. So the claims below that speak of
  -- the definitions without a role are of the calls.
  pub same_for_roles : SameForRoles
  -- Demand 1: each call gives the first refusal that applies,
  pub open_refuses : (role : ℕ) (climate block area : List ℕ)
      → verdict_of (found.numbers_of (opened_by role climate block area).opening) ≡ first_of Accepted (on_lines (look_lines role) climate block (open_lines area))
  pub entry_refuses : (role : ℕ) (climate block area : List ℕ) (e : Entry)
      → (recorded_by role climate block area e).verdict ≡ first_of Accepted (on_lines (enter_lines role) climate block (entry_lines area e))
  pub loss_refuses : (role : ℕ) (climate block area : List ℕ) (ky : ℕ)
      → verdict_of (loss_numbers (loss_by role climate block area ky)) ≡ first_of Accepted (on_lines (look_lines role) climate block (loss_lines area ky))
  pub plan_refuses : (role : ℕ) (climate block area out : List ℕ)
      → verdict_of (planned.numbers_of (planned_by role climate block area out).0) ≡ first_of Accepted (on_lines (look_lines role) climate block (plan_lines area (length out)))
  pub probe_refuses : (role : ℕ) (climate block area : List ℕ) (shallow deep : Probe) (f : ℕ)
      → verdict_of (probed_numbers (probed_by role climate block area shallow deep f)) ≡ first_of Accepted (on_lines (look_lines role) climate block (probe_lines area shallow deep f))
  pub bank_refuses : (role : ℕ) (climate : List ℕ) (blocks limit : ℕ) (lengths sheets areas depths answers : List ℕ)
      → (banked_by role climate blocks limit lengths sheets areas depths answers).0
      ≡ first_of Accepted (look_lines role ++ bank_lines climate blocks limit lengths sheets areas (length depths))
  pub table_refuses : (role : ℕ) (climate block out : List ℕ)
      → verdict_of (tabled.numbers_of (tabled_by role climate block out).0) ≡ first_of Accepted (on_lines (look_lines role) climate block (table_lines (length out)))
  pub climate_write_refuses : (role : ℕ) (c out : List ℕ)
      → write_verdict (climate_written_by role c out).0 ≡ first_of Accepted (look_lines role ++ write_lines (climate_lines c) (written c) (length out))
  pub block_write_refuses : (role : ℕ) (vs out : List ℕ)
      → write_verdict (block_written_by role vs out).0 ≡ first_of Accepted (look_lines role ++ write_lines (block_lines (sheet_fields vs)) (written (sheet_fields vs)) (length out))
  -- and a refused call has no stores and leaves every lent buffer as it was.
  pub open_no_stores : (role : ℕ) (climate block area : List ℕ) (number value : ℕ) → (opened_by role climate block area).opening ≡ found.Refused number value
      → opened_by role climate block area ≡ opened_with (found.Refused number value) []
  pub entry_no_stores : (role : ℕ) (climate block area : List ℕ) (e : Entry) (number value : ℕ) → (recorded_by role climate block area e).verdict ≡ Refused number value
      → recorded_by role climate block area e ≡ recorded_with (Refused number value) no_stores
  pub plan_unaltered : (role : ℕ) (climate block area out : List ℕ) (number value : ℕ)
      → verdict_of (planned.numbers_of (planned_by role climate block area out).0) ≡ Refused number value → (planned_by role climate block area out).1 ≡ out
  pub bank_unaltered : (role : ℕ) (climate : List ℕ) (blocks limit : ℕ) (lengths sheets areas depths answers : List ℕ) (number value : ℕ)
      → (banked_by role climate blocks limit lengths sheets areas depths answers).0 ≡ Refused number value
      → banked_by role climate blocks limit lengths sheets areas depths answers ≡ (Refused number value, answers, depths)
  pub table_unaltered : (role : ℕ) (climate block out : List ℕ) (number value : ℕ)
      → verdict_of (tabled.numbers_of (tabled_by role climate block out).0) ≡ Refused number value → (tabled_by role climate block out).1 ≡ out
  pub climate_write_unaltered : (role : ℕ) (c out : List ℕ) (number value : ℕ) → (climate_written_by role c out).0 ≡ writer.Refused number value
      → (climate_written_by role c out).1 ≡ out
  pub block_write_unaltered : (role : ℕ) (vs out : List ℕ) (number value : ℕ) → (block_written_by role vs out).0 ≡ writer.Refused number value
      → (block_written_by role vs out).1 ≡ out
  -- Of any area, not only after a history: open has no stores where the journal is clean; where it is torn, FF for each byte of the torn part that is
  -- not FF, highest place first, and there is such a byte.
  pub clean_no_stores : (climate block area : List ℕ) (l : Ledger) → (sheet_opened climate block area).opening ≡ Clean l → sheet_opened climate block area ≡ opened_with (Clean l) []
  pub torn_stores : (climate block area : List ℕ) (l : Ledger) (place : ℕ) → (sheet_opened climate block area).opening ≡ found.Torn l place
      → (wipes_in (sheet_opened climate block area) ≡ map wipe (wipe_places place (drop place area))) × (1 ≤ (sheet_opened climate block area).count)
  -- What demand 3 says of a plan holds on every area that opens clean with an open day, however it came about.
  pub plan_right : (climate block area out : List ℕ) (l : Ledger) → (sheets_of climate block).verdict ≡ Accepted → (sheet_opened climate block area).opening ≡ Clean l
      → l.day ≤ season_days (sheets_of climate block).season → days_left (sheets_of climate block).season l.day ≤ length out
      → PlanKept (sheets_of climate block).season l out (sheet_planned climate block area out)
  -- An accepted bank (document 02, T-10): each block is right on the turn days that the plans given before it leave, and on no day do more than `limit`
  -- blocks water. The array of answers has 200 numbers.
  pub bank_right : (role : ℕ) (climate : List ℕ) (blocks limit : ℕ) (lengths sheets areas depths answers answers' depths' : List ℕ) → length answers ≡ 200
      → banked_by role climate blocks limit lengths sheets areas depths answers ≡ (Accepted, answers', depths')
      → BankRight climate blocks limit lengths sheets areas depths answers answers' depths'
  -- Where the limit is at least the count of blocks, each block's numbers and part are those of its plan call.
  pub bank_alone : (role : ℕ) (climate : List ℕ) (blocks limit : ℕ) (lengths sheets areas depths answers answers' depths' : List ℕ) → length answers ≡ 200
      → banked_by role climate blocks limit lengths sheets areas depths answers ≡ (Accepted, answers', depths') → blocks ≤ limit → (k : ℕ) → k < blocks
      → let alone = planned_by role climate (part_of lengths 0 sheets k) (part_of lengths 1 areas k) (part_of lengths 2 depths k) in
      (numbers_at answers' k ≡ five alone.0) × (part_of lengths 2 depths' k ≡ alone.1)
  -- The bank's claims, whole: its plans are `bank_plans` of its blocks; and a case worked by hand.
  pub banking : bank.Claims
  -- The planner's claims, whole: of any outlook, a plan is refused exactly when no choice holds, and a plan made is the best.
  pub planning : planner.Claims
  -- The probes' claims, whole: a content in ten-thousandths is the greatest whole number at most its exact value.
  pub probing : probes.Claims
  -- Demand 2: the sheets' claims, whole: accepted sheets and their numbers match one to one, what a writer makes is read as its numbers, and a sheet that
  -- the reader accepts is what its writer makes of them.
  pub sheets : sheet.Claims
  -- Of these: any climate goes with any block; the season is the one that the numbers had in one sheet; a season has one pair.
  pub pair_accepted_iff : (climate block : List ℕ) → ((sheets_of climate block).verdict ≡ Accepted) ↔ (((climate_of climate).verdict ≡ Accepted) × ((block_of block).verdict ≡ Accepted))
  pub as_one_sheet : (climate block : List ℕ) → (sheets_of climate block).verdict ≡ Accepted → sheet_of (one_sheet climate block) ≡ sheets_of climate block
  pub one_spelling : (c b d e : List ℕ) → Bytes c → Bytes b → Bytes d → Bytes e → (sheets_of c b).verdict ≡ Accepted → (sheets_of d e).verdict ≡ Accepted
      → (sheets_of c b).season ≡ (sheets_of d e).season → (c ≡ d) × (b ≡ e)
  -- So every call on an accepted pair answers what it answered on the one sheet of the pair's numbers.
  pub same_as_one_sheet : (climate block : List ℕ) → (sheets_of climate block).verdict ≡ Accepted → SameAsOneSheet climate block
  -- Entries and their bytes match one to one too: `bytes_read`, `read_stands` and `bytes_one_to_one` of the journal's claims.
  pub entries : journal.Claims
  -- Opening finds clean, torn and damaged in document 01's words, behind the longest run of whole entries that would each have been accepted.
  pub opening_says : (climate block area : List ℕ) → (sheets_of climate block).verdict ≡ Accepted → length area ≤ 8192
      → Opens (sheets_of climate block).season area (sheet_opened climate block area).opening
  -- The calls' answers are among those on which their numberings are one to one (the journal's `Claims`; a plan's, a table's, a loss's and a probe's are, on all answers).
  pub opened_occurs : (role : ℕ) (climate block area : List ℕ) → OpenedOccurs (opened_by role climate block area)
  pub recorded_occurs : (role : ℕ) (climate block area : List ℕ) (e : Entry) → RecordedOccurs (recorded_by role climate block area e)
  -- Different answers of probe have different numbers.
  pub probed_one_to_one : (a b : Probed) → probed_numbers a ≡ probed_numbers b → a ≡ b
  -- The cases marked †.
  pub cases_hold : map (λ (c : List ℕ × List ℕ). c.0) cases ≡ map (λ (c : List ℕ × List ℕ). c.1) cases
  -- The leap pair's, with a February of 28 days and of 29.
  pub leap_cases_hold : map (λ (c : List ℕ × List ℕ). c.0) leap_cases ≡ map (λ (c : List ℕ × List ℕ). c.1) leap_cases
  -- The probes' (document 02, T-07).
  pub probe_cases_hold : map (λ (c : List ℕ × List ℕ). c.0) probe_cases ≡ map (λ (c : List ℕ × List ℕ). c.1) probe_cases
  -- The roles' (document 02, T-09).
  pub role_cases_hold : map (λ (c : List ℕ × List ℕ). c.0) role_cases ≡ map (λ (c : List ℕ × List ℕ). c.1) role_cases
