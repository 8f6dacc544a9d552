-- The proofs of `specs/Claims.antt`, in its order.
use mathlib.Core.Path.{◌≡◌, refl, sym, ap, ◌∙◌, subst⁻¹}
use mathlib.Core.Bool.{cond}
use mathlib.Core.Logic.{inl, inr}
use mathlib.Core.List.{List, [], ◌++◌, map}
use Prim.Native.Nat.{ℕ, ◌≤◌}
use native.Mathlib.Omega.{arith}
use lib.Ieee.{of_bits, le}
use lib.ListN.{length, drop, set}
use Rattle.season.specs.declared.Season.{Season}
use Rattle.season.specs.Rules.{ramp, ramp_z}
use Rattle.season.specs.Calendar.{next_day, days_on}
use Rattle.season.specs.Day.{date_of, stage_of, in_stage, kc_of, crop_need, rain_on}
use Rattle.season.specs.Closing.{close_day}
use Rattle.season.specs.SmallSheet as season
use Rattle.verdict.specs.Refusals.{Verdict, Accepted, or_refused, first_of, verdict_of}
use Rattle.verdict.specs.Refusals as verdict
use Rattle.leb128.specs.Groups.{encode, over_groups, over_in, group_count}
use Rattle.leb128.specs.Forms.{decode, decode_from, below}
use Rattle.sheet.specs.Numbers.{before, numbers, after, further, ended, numbers_in, written}
use Rattle.fields.specs.Fields.{outside, lowest_outside, season_of, merged}
use Rattle.fields.specs.Refusals.{climate_lines, block_lines, climate_verdict, block_verdict}
use Rattle.sheet.specs.Sheets.{climate_of, block_of, sheet_is, block_with, sheets_of}
use Rattle.sheet.specs.Cases.{small_climate, small_block}
use Rattle.sheet.specs.Writing.{Written, sheet_fields, write_lines, climate_written, block_written, write_verdict}
use Rattle.sheet.specs.Writing as writer
use Rattle.sheet.proofs.Claims as sheets
use Rattle.journal.specs.declared.Entry.{Entry}
use Rattle.journal.specs.Opening.{Opening, value, least, starts, entry_of, only, entry_at, replay, replayed, is_blank, trim, torn_at, behind, opening}
use Rattle.journal.specs.Opening as found
use Rattle.journal.specs.Calls.{Recorded, Opened, no_stores, stores_of, recorded_with, recorded_on, recorded, wipe_places, opened_with, opened_on, opened, wipe, wipes_in, opened_numbers}
use Rattle.journal.specs.declared.Ledger.{Ledger}
use Rattle.journal.specs.Entries.{tag_of, source_tag, number_of, start, closing, enter, refusal, accepts, passes}
use Rattle.journal.specs.Entries as journal
use Rattle.journal.specs.Roles.{Line, look_lines, enter_lines, may_mend, by_role}
use Rattle.journal.specs.History.{without_stores}
use Rattle.journal.specs.Loss.{Lost, lost, loss_numbers}
use Rattle.journal.specs.Loss as losing
use Rattle.journal.specs.Specified.{Opens}
use Rattle.journal.specs.Claims.{OpeningOccurs, RecordedOccurs, CountOccurs, OpenedOccurs}
use Rattle.journal.proofs.Answers.{opened_opening, opened_clean, opened_refused}
use Rattle.journal.proofs.Claims as journals
use Rattle.planner.specs.Answer.{Planned, sum, answer_to, answer}
use Rattle.planner.specs.Answer as planned
use Rattle.planner.specs.Choices.{irrigated}
use Rattle.planner.specs.Plan.{ending, walk, watered, pad, on_walk, by_walks}
use Rattle.decades.specs.Table.{Tabled, day_row, with_day, rows_to, six, flat, tabled}
use Rattle.decades.specs.Table as table
use Rattle.planner.proofs.Claims as plans
use Rattle.probes.specs.Contents.{is_content, ten_thousandths, content_of, pair_of, reading_of}
use Rattle.probes.specs.Depletion.{measured}
use Rattle.probes.proofs.Claims as probings
use Rattle.measuring.specs.Probing.{Probed, Depletions, probed_on, probed_numbers}
use Rattle.measuring.specs.Probing as probed
use Rattle.controller.specs.Calls.{planned_on, sheet_opened, sheet_recorded, sheet_planned, sheet_tabled, on_sheets}
use Rattle.controller.specs.Roles.{opened_by, recorded_by, planned_by, tabled_by}
use Rattle.controller.specs.Refusals.{on_lines, open_lines, loss_lines, entry_lines, plan_lines, probe_lines, table_lines}
use Rattle.controller.specs.OneSheet.{SameAsOneSheet}
use Rattle.controller.specs.Cases.{cases, leap_cases, probe_cases, role_cases}
use Rattle.controller.specs.Claims.{Claims}
use Rattle.controller.proofs.Sheets.{on_sheets_lem, as_on_sheet}
use Rattle.controller.proofs.Roles.{same_for_roles, look_by, enter_by, look_verdict, enter_verdict, either_way, role_1_keeps}
use Rattle.bank.proofs.Claims as banks
use Rattle.controller.proofs.Banks.{bank_refuses, bank_unaltered, bank_right, bank_alone}
use Rattle.controller.proofs.Demands.{opens, plan_right, demand_3}
use Rattle.controller.proofs.Refusing.{sheets_verdict, looks_verdict, numbers_refused, plan_verdict, table_verdict, open_verdict, entry_verdict, loss_verdict, plan_verdict_lem, probe_verdict, table_verdict_lem, entry_refused, plan_refused_keeps, table_refused_keeps}

-- The calls' two ways: a refused pair, and an accepted season.
module _ (climate block : List ℕ) where
  module _ (area : List ℕ) where
    abbrev no_opening : ℕ → ℕ → Opened
    no_opening number value = opened_with (found.Refused number value) []

    abbrev no_entry : ℕ → ℕ → Recorded
    no_entry number value = recorded_with (verdict.Refused number value) no_stores

    entry_no_stores : (e : Entry) (number value : ℕ) → (sheet_recorded climate block area e).verdict ≡ verdict.Refused number value → sheet_recorded climate block area e ≡ no_entry number value
    unfolding recorded_with
    entry_no_stores e number value =
        on_sheets_lem no_entry (λ s. recorded s area e) climate block (λ (r : Recorded). r.verdict ≡ verdict.Refused number value → r ≡ no_entry number value)
        (λ m w v h. let i : m ≡ number = cc in let j : w ≡ value = cc in rw (i, j))
        (λ s v q o h. entry_refused s area e number value h)

    -- An opening that has no stores on a season's journal has none on the pair.
    no_stores_lem : (p : Opening) → ((s : Season) → p ≡ opening s area → opened s area ≡ opened_with p []) → (sheet_opened climate block area).opening ≡ p
        → sheet_opened climate block area ≡ opened_with p []
    no_stores_lem p on-season =
        on_sheets_lem no_opening (λ s. opened s area) climate block (λ (r : Opened). r.opening ≡ p → r ≡ opened_with p [])
        (λ m w v h. ap (λ (o : Opening). opened_with o []) h)
        (λ s v q o h. on-season s (sym h ∙ opened_opening s area))

    open_no_stores : (number value : ℕ) → (sheet_opened climate block area).opening ≡ found.Refused number value → sheet_opened climate block area ≡ no_opening number value
    open_no_stores number value = no_stores_lem (found.Refused number value) (λ s e. opened_refused s area e refl)

    clean_no_stores : (l : Ledger) → (sheet_opened climate block area).opening ≡ found.Clean l → sheet_opened climate block area ≡ opened_with (found.Clean l) []
    clean_no_stores l = no_stores_lem (found.Clean l) (λ s e. opened_clean s area e refl)

    torn_stores : (l : Ledger) (place : ℕ) → (sheet_opened climate block area).opening ≡ found.Torn l place
        → (wipes_in (sheet_opened climate block area) ≡ map wipe (wipe_places place (drop place area))) × (1 ≤ (sheet_opened climate block area).count)
    torn_stores l place =
        on_sheets_lem no_opening (λ s. opened s area) climate block
        (λ (r : Opened). r.opening ≡ found.Torn l place → (wipes_in r ≡ map wipe (wipe_places place (drop place area))) × (1 ≤ r.count))
        (λ m w v h. absurd (let z : ◌≡◌ {A = ℕ} 0 1 = cc in omega arith))
        (λ s v q o h. (journals.claims).torn_stores s o area l place (sym (opened_opening s area) ∙ h))

    opened_occurs : OpenedOccurs (sheet_opened climate block area)
    opened_occurs =
        on_sheets_lem no_opening (λ s. opened s area) climate block OpenedOccurs
        (λ number value v. let r = (sheets.claims).refused_number climate block number value v in
        record { found = inl (r.0, omega arith); placed = record { size = refl; few = omega arith; rest = refl }; none = refl })
        (λ s v q o. (journals.claims).opened_occurs s o area)

    recorded_occurs : (e : Entry) → RecordedOccurs (sheet_recorded climate block area e)
    unfolding recorded_with
    recorded_occurs e =
        on_sheets_lem no_entry (λ s. recorded s area e) climate block RecordedOccurs
        (λ number value v. (((sheets.claims).refused_number climate block number value v).0, refl))
        (λ s v q o. (journals.claims).recorded_occurs s o area e)

    plan_unaltered : (out : List ℕ) (number value : ℕ) → plan_verdict (sheet_planned climate block area out) ≡ verdict.Refused number value → (sheet_planned climate block area out).1 ≡ out
    plan_unaltered out number value =
        on_sheets_lem (λ m w. (planned.Refused m w, out)) (λ s. planned_on s out (opening s area)) climate block (λ (a : Planned × List ℕ). plan_verdict a ≡ verdict.Refused number value → a.1 ≡ out)
        (λ m w v h. refl)
        (λ s v q o h. plan_refused_keeps s area out number value h)

  table_unaltered : (out : List ℕ) (number value : ℕ) → table_verdict (sheet_tabled climate block out) ≡ verdict.Refused number value → (sheet_tabled climate block out).1 ≡ out
  table_unaltered out number value =
      on_sheets_lem (λ m w. (table.Refused m w, out)) (λ s. tabled s out) climate block (λ (a : Tabled × List ℕ). table_verdict a ≡ verdict.Refused number value → a.1 ≡ out)
      (λ m w v h. refl)
      (λ s v q o h. table_refused_keeps s out number value h)

-- By a role: refused by it, or as without one.
module _ (role : ℕ) where
  module _ (climate block : List ℕ) where
    module _ (area : List ℕ) where
      abbrev unopened : ℕ → ℕ → Opened
      unopened number value = opened_with (found.Refused number value) []

      abbrev at_sheets : Opened
      at_sheets = sheet_opened climate block area

      -- What holds of 20, of the opening and of the opening without stores.
      opening_by_role : (P : Opened → Type 0) → (P (unopened 20 0)) → P at_sheets → P (without_stores at_sheets) → P (opened_by role climate block area)
      opening_by_role P no-role with_stores without =
          look_by P unopened (cond (may_mend role) at_sheets (without_stores at_sheets)) role no-role (either_way P at_sheets (may_mend role) with_stores without)

      open_refuses_by : verdict_of (found.numbers_of (opened_by role climate block area).opening) ≡ first_of Accepted (on_lines (look_lines role) climate block (open_lines area))
      open_refuses_by =
          let verdict_in : Opened → Verdict = λ r. verdict_of (found.numbers_of r.opening) in
          let so = sheets_verdict climate block verdict_in unopened (λ s. opened s area) (open_lines area) numbers_refused (λ s o. open_verdict s area) in
          look_verdict verdict_in unopened numbers_refused (cond (may_mend role) at_sheets (without_stores at_sheets)) (on_lines [] climate block (open_lines area))
          (either_way (λ r. verdict_in r ≡ first_of Accepted (on_lines [] climate block (open_lines area))) at_sheets (may_mend role) so so) role

      open_no_stores_by : (number value : ℕ) → (opened_by role climate block area).opening ≡ found.Refused number value → opened_by role climate block area ≡ unopened number value
      open_no_stores_by number value =
          opening_by_role (λ (r : Opened). r.opening ≡ found.Refused number value → r ≡ unopened number value)
          (λ h. ap (λ (o : Opening). opened_with o []) h)
          (open_no_stores climate block area number value)
          (λ h. ap (λ (o : Opening). opened_with o []) h)

      none_counted : (o : Opening) → CountOccurs o 0
      none_counted (found.Clean l) = refl
      none_counted (found.Torn l place) = tt
      none_counted (found.Refused number value) = refl

      opened_occurs_by : OpenedOccurs (opened_by role climate block area)
      opened_occurs_by =
          let no-places : (o : Opening) → OpeningOccurs o → OpenedOccurs (opened_with o [])
          = λ o h. record { found = h; placed = record { size = refl; few = omega arith; rest = refl }; none = none_counted o } in
          let so = opened_occurs climate block area in
          opening_by_role OpenedOccurs (no-places (found.Refused 20 0) (inr refl)) so (no-places at_sheets.opening so.found)

      module _ (e : Entry) where
        abbrev unrecorded : ℕ → ℕ → Recorded
        unrecorded number value = recorded_with (verdict.Refused number value) no_stores

        abbrev recording : Recorded
        recording = sheet_recorded climate block area e

        entry_refuses_by : (recorded_by role climate block area e).verdict ≡ first_of Accepted (on_lines (enter_lines role) climate block (entry_lines area e))
        unfolding recorded_with
        entry_refuses_by =
            enter_verdict (λ (r : Recorded). r.verdict) unrecorded (λ number value h. refl) recording (on_lines [] climate block (entry_lines area e))
            (sheets_verdict climate block (λ (r : Recorded). r.verdict) unrecorded (λ s. recorded s area e) (entry_lines area e) (λ number value h. refl) (λ s o. entry_verdict s area e)) role

        entry_no_stores_by : (number value : ℕ) → (recorded_by role climate block area e).verdict ≡ verdict.Refused number value
            → recorded_by role climate block area e ≡ unrecorded number value
        unfolding recorded_with
        entry_no_stores_by number value =
            enter_by (λ (r : Recorded). r.verdict ≡ verdict.Refused number value → r ≡ unrecorded number value) unrecorded recording role
            (λ m few h. let i : m ≡ number = cc in let j : 0 ≡ value = cc in rw (i, ← j))
            (entry_no_stores climate block area e number value)

        recorded_occurs_by : RecordedOccurs (recorded_by role climate block area e)
        unfolding recorded_with
        recorded_occurs_by =
            enter_by RecordedOccurs unrecorded recording role (λ number few. (omega arith, refl)) (recorded_occurs climate block area e)

      plan_unaltered_by : (out : List ℕ) (number value : ℕ) → plan_verdict (planned_by role climate block area out) ≡ verdict.Refused number value → (planned_by role climate block area out).1 ≡ out
      plan_unaltered_by out number value =
          look_by (λ (a : Planned × List ℕ). plan_verdict a ≡ verdict.Refused number value → a.1 ≡ out) (λ m w. (planned.Refused m w, out)) (sheet_planned climate block area out) role
          (λ h. refl)
          (plan_unaltered climate block area out number value)

    table_unaltered_by : (out : List ℕ) (number value : ℕ) → table_verdict (tabled_by role climate block out) ≡ verdict.Refused number value → (tabled_by role climate block out).1 ≡ out
    table_unaltered_by out number value =
        look_by (λ (a : Tabled × List ℕ). table_verdict a ≡ verdict.Refused number value → a.1 ≡ out) (λ m w. (table.Refused m w, out)) (sheet_tabled climate block out) role
        (λ h. refl)
        (table_unaltered climate block out number value)

  -- A writer, whose own refusals and unaltered buffer are the sheet's claims.
  module _ (out : List ℕ) (made : Written × List ℕ) where
    abbrev unwritten : ℕ → ℕ → Written × List ℕ
    unwritten number value = (writer.Refused number value, out)

    write_refuses_by : (lines : List Line) → write_verdict made.0 ≡ first_of Accepted lines
        → write_verdict (by_role (look_lines role) unwritten made).0 ≡ first_of Accepted (look_lines role ++ lines)
    write_refuses_by lines h = look_verdict (λ (a : Written × List ℕ). write_verdict a.0) unwritten (λ number value i. refl) made lines h role

    write_unaltered_by : (number value : ℕ) → (made.0 ≡ writer.Refused number value → made.1 ≡ out)
        → (by_role (look_lines role) unwritten made).0 ≡ writer.Refused number value → (by_role (look_lines role) unwritten made).1 ≡ out
    write_unaltered_by number value h =
        look_by (λ (a : Written × List ℕ). a.0 ≡ writer.Refused number value → a.1 ≡ out) unwritten made role (λ i. refl) h

cases_hold : map (λ (c : List ℕ × List ℕ). c.0) cases ≡ map (λ (c : List ℕ × List ℕ). c.1) cases
unfolding cases on_sheets planned_on sheets_of block_with climate_of block_of merged lowest_outside outside numbers_in further after ended numbers before written decode decode_from below encode over_groups over_in group_count or_refused opening replayed replay behind is_blank trim torn_at entry_at entry_of only value least starts start enter refusal accepts passes tag_of source_tag number_of journal.outside opened opened_on wipe_places opened_numbers wipes_in answer answer_to by_walks on_walk pad walk ending watered irrigated sum date_of kc_of crop_need rain_on next_day days_on ramp ramp_z
cases_hold = refl

leap_cases_hold : map (λ (c : List ℕ × List ℕ). c.0) leap_cases ≡ map (λ (c : List ℕ × List ℕ). c.1) leap_cases
unfolding leap_cases season.leap on_sheets merged closing close_day stage_of in_stage encode over_groups over_in group_count tabled rows_to with_day day_row six flat planned_on decode decode_from below or_refused opening replayed replay behind is_blank trim torn_at entry_at entry_of only value least starts start enter refusal accepts passes tag_of source_tag number_of journal.outside opened opened_on wipe_places opened_numbers wipes_in answer answer_to by_walks on_walk pad walk ending watered irrigated sum date_of kc_of crop_need rain_on next_day days_on ramp ramp_z
leap_cases_hold = rw ((sheets.claims).leap_read.0, (sheets.claims).leap_read.1) refl

-- The small pair with full roots of 20 and of 40 cm is accepted.
abbrev deep : ℕ → List ℕ
deep full = set small_block 11 full

probed_read : (full : ℕ) → climate_verdict small_climate ≡ verdict.Accepted → block_verdict (deep full) ≡ verdict.Accepted
    → sheets_of (written small_climate) (written (deep full)) ≡ sheet_is (season_of (merged small_climate (deep full))) verdict.Accepted
probed_read full = (sheets.claims).pair_written small_climate (deep full) refl (omega arith) (omega arith)

probed_read_20 : sheets_of (written small_climate) (written (deep 20)) ≡ sheet_is (season_of (merged small_climate (deep 20))) verdict.Accepted
unfolding climate_verdict block_verdict merged lowest_outside outside or_refused
probed_read_20 = probed_read 20 refl refl

probed_read_40 : sheets_of (written small_climate) (written (deep 40)) ≡ sheet_is (season_of (merged small_climate (deep 40))) verdict.Accepted
unfolding climate_verdict block_verdict merged lowest_outside outside or_refused
probed_read_40 = probed_read 40 refl refl

probe_cases_hold : map (λ (c : List ℕ × List ℕ). c.0) probe_cases ≡ map (λ (c : List ℕ × List ℕ). c.1) probe_cases
unfolding probe_cases on_sheets merged probed_on reading_of pair_of content_of is_content ten_thousandths measured le of_bits closing close_day stage_of in_stage decode decode_from below encode over_groups over_in group_count or_refused opening replayed replay behind is_blank trim torn_at entry_at entry_of only value least starts start enter refusal accepts passes tag_of source_tag number_of journal.outside date_of kc_of crop_need next_day days_on ramp ramp_z
probe_cases_hold = rw (probed_read_20, probed_read_40) refl

role_cases_hold : map (λ (c : List ℕ × List ℕ). c.0) role_cases ≡ map (λ (c : List ℕ × List ℕ). c.1) role_cases
unfolding role_cases by_role look_lines enter_lines on_sheets sheets_of block_with climate_of block_of merged lowest_outside outside numbers_in further after ended numbers before written decode decode_from below encode over_groups over_in group_count or_refused opening replayed replay behind is_blank trim torn_at entry_at entry_of only value least starts start enter refusal accepts passes tag_of source_tag number_of journal.outside opened opened_on wipe_places recorded recorded_on recorded_with stores_of
role_cases_hold = refl

same_as_one_sheet : (climate block : List ℕ) → (sheets_of climate block).verdict ≡ verdict.Accepted → SameAsOneSheet climate block
same_as_one_sheet climate block v = record {
  opens = λ area. as_on_sheet _ _ climate block v;
  enters = λ area e. as_on_sheet _ _ climate block v;
  loses = λ area ky. as_on_sheet _ _ climate block v;
  plans = λ area out. as_on_sheet _ _ climate block v;
  probes = λ area shallow deep f. as_on_sheet _ _ climate block v;
  tables = λ out. as_on_sheet _ _ climate block v;
}

-- Different answers of probe have different numbers.
probed_one : (a b : Probed) → probed_numbers a ≡ probed_numbers b → a ≡ b
probed_one (Depletions l m) (Depletions n o) e = let p : l ≡ n = cc in let q : m ≡ o = cc in rw (p, q)
probed_one (Depletions l m) (probed.Refused number value) e = absurd (omega (arith, ap length e))
probed_one (probed.Refused number value) (Depletions l m) e = absurd (omega (arith, ap length e))
probed_one (probed.Refused m w) (probed.Refused number value) e = let p : m ≡ number = cc in let q : w ≡ value = cc in rw (p, q)

pub claims : Claims
claims = record {
  demand_3 = demand_3;
  role_1_keeps = role_1_keeps;
  same_for_roles = same_for_roles;
  open_refuses = open_refuses_by;
  entry_refuses = entry_refuses_by;
  loss_refuses = λ role climate block area ky.
      looks_verdict climate block role (λ (r : Lost). verdict_of (loss_numbers r)) losing.Refused (λ s. lost s area ky) (loss_lines area ky) numbers_refused (λ s o. loss_verdict s area ky);
  plan_refuses = λ role climate block area out.
      looks_verdict climate block role plan_verdict (λ number value. (planned.Refused number value, out)) (λ s. planned_on s out (opening s area)) (plan_lines area (length out)) numbers_refused (λ s o. plan_verdict_lem s area out);
  probe_refuses = λ role climate block area shallow deep f.
      looks_verdict climate block role (λ (r : Probed). verdict_of (probed_numbers r)) probed.Refused (λ s. probed_on s (reading_of shallow deep) f (opening s area)) (probe_lines area shallow deep f) numbers_refused (λ s o. probe_verdict s area shallow deep f);
  bank_refuses = bank_refuses;
  table_refuses = λ role climate block out.
      looks_verdict climate block role table_verdict (λ number value. (table.Refused number value, out)) (λ s. tabled s out) (table_lines (length out)) numbers_refused (λ s o. table_verdict_lem s out);
  climate_write_refuses = λ role c out. write_refuses_by role out (climate_written c out) (write_lines (climate_lines c) (written c) (length out)) ((sheets.claims).climate_write_refuses c out);
  block_write_refuses = λ role vs out. write_refuses_by role out (block_written vs out) (write_lines (block_lines (sheet_fields vs)) (written (sheet_fields vs)) (length out)) ((sheets.claims).block_write_refuses vs out);
  open_no_stores = open_no_stores_by;
  entry_no_stores = entry_no_stores_by;
  plan_unaltered = plan_unaltered_by;
  bank_unaltered = bank_unaltered;
  table_unaltered = table_unaltered_by;
  climate_write_unaltered = λ role c out number value. write_unaltered_by role out (climate_written c out) number value ((sheets.claims).climate_write_unaltered c out number value);
  block_write_unaltered = λ role vs out number value. write_unaltered_by role out (block_written vs out) number value ((sheets.claims).block_write_unaltered vs out number value);
  clean_no_stores = clean_no_stores;
  torn_stores = torn_stores;
  plan_right = λ climate block area out l v o day room. plan_right climate block v area out l (sym (opens climate block v area) ∙ o) day room;
  bank_right = λ role climate blocks limit lengths sheets areas depths answers answers' depths' size is. bank_right role climate blocks limit lengths sheets areas depths answers is size;
  bank_alone = λ role climate blocks limit lengths sheets areas depths answers answers' depths' size is. bank_alone role climate blocks limit lengths sheets areas depths answers is size;
  banking = banks.claims;
  planning = plans.claims;
  probing = probings.claims;
  sheets = sheets.claims;
  pair_accepted_iff = (sheets.claims).pair_accepted_iff;
  as_one_sheet = (sheets.claims).as_one_sheet;
  one_spelling = (sheets.claims).one_spelling;
  same_as_one_sheet = same_as_one_sheet;
  entries = journals.claims;
  opening_says = λ climate block area v h.
      subst⁻¹ (Opens (sheets_of climate block).season area) (opens climate block v area) ((journals.claims).opening_says (sheets_of climate block).season area h);
  opened_occurs = opened_occurs_by;
  recorded_occurs = recorded_occurs_by;
  probed_one_to_one = probed_one;
  cases_hold = cases_hold;
  leap_cases_hold = leap_cases_hold;
  probe_cases_hold = probe_cases_hold;
  role_cases_hold = role_cases_hold;
}
