-- No place, count or number returned with a refusal passes 8,192.
use Prim.Native.Nat.{ℕ, zero, suc, ◌+◌, ◌*◌, ◌≤◌}
use mathlib.Core.Path.{◌≡◌, refl, sym, ap, ◌∙◌}
use mathlib.Core.Bool.{Bool, true, false, cond}
use mathlib.Core.List.{List, [], ◌∷◌, ◌++◌}
use native.Mathlib.Omega.{arith}
use borrow.Author.Tests.{ltb-false}
use lib.Dec.{ltb, eqb}
use lib.ListN.{length, drop, take, get_or, length-drop}
use Rattle.season.specs.declared.Season.{Season}
use Rattle.season.specs.Day.{AcceptedSeason}
use Rattle.verdict.specs.Refusals.{Verdict, Accepted, Refused, or_refused, first_of}
use Rattle.verdict.proofs.First.{Refusal, first_refusal}
use Rattle.sheet.proofs.Numbered.{refused_is, climate_write_refused_is, block_write_refused_is}
use Rattle.sheet.proofs.Claims as sheets
use Rattle.sheet.specs.Writing.{Written, sheet_fields, climate_written, block_written, write_verdict}
use Rattle.sheet.specs.Writing as writer
use Rattle.sheet.specs.Numbers.{written}
use Rattle.sheet.specs.Sheets.{climate_of, block_with, sheets_of}
use Rattle.season.specs.Sheet.{season_days, longest_season}
use Rattle.journal.specs.declared.Entry.{Entry}
use Rattle.journal.specs.declared.Ledger.{Ledger}
use Rattle.journal.specs.declared.Stores.{Stores}
use Rattle.journal.specs.Calls.{Recorded, Opened, stores_of, no_stores, recorded_with, recorded_on, recorded, wipe_places, opened_with, opened_on, opened}
use Rattle.journal.specs.Opening as found
use Rattle.journal.specs.Entries.{waiting, refusals, refusal}
use Rattle.journal.specs.Opening.{opening}
use Rattle.journal.specs.Roles.{look_lines, may_mend, by_role}
use Rattle.journal.specs.History.{without_stores}
use Rattle.journal.specs.Loss as losing
use Rattle.journal.specs.Loss.{losses_of, loss_refusals, lost_unless, lost_by, lost_on, lost}
use Rattle.journal.specs.Claims.{StoresOccur}
use Rattle.planner.specs.Answer.{Planned, answer_to, answer}
use Rattle.planner.specs.Answer as planned
use Rattle.planner.specs.Plan.{Plan, depths, refused, plan}
use Rattle.planner.specs.Outlook.{outlook, days_left}
use Rattle.planner.proofs.Claims as plans
use Rattle.bank.specs.Judging.{Judged, standing_on, judged_by, judged, Blocks, blocks_of, judged_at, before, first_refused, starts_differ, blocks_verdict}
use Rattle.bank.specs.Blocks.{length_of, part_of, bank_wrong}
use Rattle.bank.specs.Banks.{Progress, banked_if, bank_verdict, banked}
use Rattle.decades.specs.Table.{Tabled, row_count, tabled}
use Rattle.decades.specs.Table as table
use Rattle.decades.proofs.Count.{rows_at_most}
use Rattle.probes.specs.declared.Probe.{Probe}
use Rattle.probes.specs.Contents.{Reading, reading_of}
use Rattle.measuring.specs.Probing as probed
use Rattle.measuring.specs.Probing.{probe_refusals, probed_unless, probed_from, probed_on}
use Rattle.controller.specs.Calls.{planned_on, sheet_opened, sheet_recorded, sheet_lost, sheet_planned, sheet_probed, sheet_tabled}
use Rattle.controller.specs.Roles.{opened_by, recorded_by, loss_by, planned_by, probed_by, banked_by, tabled_by, climate_written_by, block_written_by}
use Rattle.controller.proofs.Sheets.{on_sheets_lem}
use Rattle.controller.proofs.Roles.{look_by, enter_by, either_way}
use Rattle.controller.proofs.Refusing.{opening_by}
use Rattle.controller.proofs.Claims.{claims}
use Rattle.exports.specs.Small.{SmallVerdict, SmallOpening, SmallOpened, SmallRecorded, SmallLost, SmallPlanned, SmallProbed, SmallTabled, SmallWritten}

-- ---- the sheets

refused_small : (climate block : List ℕ) (number value : ℕ) → (sheets_of climate block).verdict ≡ Refused number value → value ≤ 8192
refused_small climate block number value e = omega (arith, (refused_is climate block number value e).1)

-- ---- open

abbrev EachUpTo : ℕ → List ℕ → Type 0
EachUpTo most xs = (i : ℕ) → get_or xs i 0 ≤ most

each_append : (most : ℕ) (xs ys : List ℕ) → EachUpTo most xs → EachUpTo most ys → EachUpTo most (xs ++ ys)
each_append most [] ys h g i = g i
each_append most (x ∷ xs) ys h g zero = h 0
each_append most (x ∷ xs) ys h g (suc i) = each_append most xs ys (λ j. h (suc j)) g i

each_take : (most n : ℕ) (xs : List ℕ) → EachUpTo most xs → EachUpTo most (take n xs)
each_take most zero xs h i = omega arith
each_take most (suc n) [] h i = omega arith
each_take most (suc n) (x ∷ xs) h zero = h 0
each_take most (suc n) (x ∷ xs) h (suc i) = each_take most n xs (λ j. h (suc j)) i

each_one : (most x : ℕ) → x ≤ most → EachUpTo most (x ∷ [])
each_one most x h zero = h
each_one most x h (suc i) = omega arith

zeros_up_to : (most : ℕ) → EachUpTo most (0 ∷ 0 ∷ 0 ∷ [])
zeros_up_to most zero = omega arith
zeros_up_to most (suc zero) = omega arith
zeros_up_to most (suc (suc zero)) = omega arith
zeros_up_to most (suc (suc (suc i))) = omega arith

wipe_places_up_to : (most p : ℕ) (bs : List ℕ) → p + length bs ≤ most → EachUpTo most (wipe_places p bs)
unfolding wipe_places
wipe_places_up_to most p [] h = λ i. omega arith
wipe_places_up_to most p (b ∷ bs) h = test (eqb b 0xFF) (wipe_places_up_to most (suc p) bs (omega arith))
  where
    test : (t : Bool) → EachUpTo most (wipe_places (suc p) bs) → EachUpTo most (elim t [ true ↦ wipe_places (suc p) bs | false ↦ wipe_places (suc p) bs ++ (p ∷ []) ])
    test true g = g
    test false g = each_append most (wipe_places (suc p) bs) (p ∷ []) g (each_one most p (omega arith))

-- What it found and the places.
record Wipes (r : Opened) : Type 0 where
  opening : SmallOpening r.opening
  places : EachUpTo 8192 r.places

opened_wipes : (climate block area : List ℕ) → Wipes (sheet_opened climate block area)
unfolding opened opened_on
opened_wipes climate block area =
    on_sheets_lem (λ number value. opened_with (found.Refused number value) []) (λ s. opened s area) climate block Wipes
    (λ number value v. record { opening = refused_small climate block number value v; places = zeros_up_to 8192 })
    (λ s v q o. opening_by s area (λ p. Wipes (opened_on area p))
    (λ h. record { opening = omega arith; places = zeros_up_to 8192 })
    (λ h l i. record { opening = omega arith; places = zeros_up_to 8192 })
    (λ h l i. record {
      opening = (omega arith, omega arith);
      places = each_take 8192 3 (wipe_places l.place (drop l.place area) ++ (0 ∷ 0 ∷ 0 ∷ [])) (each_append 8192 (wipe_places l.place (drop l.place area)) (0 ∷ 0 ∷ 0 ∷ []) (wipe_places_up_to 8192 l.place (drop l.place area) (omega (arith, length-drop l.place area))) (zeros_up_to 8192));
    })
    (λ h l i. record { opening = omega arith; places = zeros_up_to 8192 }))

-- A role's: with them, without, or refused.
role_wipes : (role : ℕ) (climate block area : List ℕ) → Wipes (opened_by role climate block area)
role_wipes role climate block area =
    let r = sheet_opened climate block area in
    let w = opened_wipes climate block area in
    look_by Wipes (λ number value. opened_with (found.Refused number value) []) (cond (may_mend role) r (without_stores r)) role
    (record { opening = omega arith; places = zeros_up_to 8192 })
    (either_way Wipes r (may_mend role) w (record { opening = w.opening; places = zeros_up_to 8192 }))

pub opened_small : (role : ℕ) (climate block area : List ℕ) → SmallOpened (opened_by role climate block area)
opened_small role climate block area =
    let w = role_wipes role climate block area in
    record { opening = w.opening; count = omega (arith, (claims.opened_occurs role climate block area).placed.few); places = w.places }

-- ---- rain, irrigation and close

small : (v : Verdict) → Refusal (λ number value. value ≤ 8192) v → SmallVerdict v
small Accepted a = tt
small (Refused number value) a = a

entry_small : (days size : ℕ) (l : Ledger) (e : Entry) → SmallVerdict (refusal days size l e)
unfolding refusal
entry_small days size l e =
    small (refusal days size l e)
    (first_refusal (λ number value. value ≤ 8192) Accepted (refusals days size l e) tt (omega arith, (omega arith, (omega arith, (omega arith, tt)))))

-- A verdict and a start place.
record Begins (r : Recorded) : Type 0 where
  verdict : SmallVerdict r.verdict
  start : r.stores.start ≤ 8192

recorded_with_begins : (v : Verdict) (w : Stores) → SmallVerdict v → w.start ≤ 8192 → Begins (recorded_with v w)
unfolding recorded_with
recorded_with_begins Accepted w a h = record { verdict = tt; start = h }
recorded_with_begins (Refused number value) w a h = record { verdict = a; start = omega arith }

recorded_begins : (climate block area : List ℕ) (e : Entry) → Begins (sheet_recorded climate block area e)
unfolding recorded recorded_on stores_of
recorded_begins climate block area e =
    on_sheets_lem (λ number value. recorded_with (Refused number value) no_stores) (λ s. recorded s area e) climate block Begins
    (λ number value v. recorded_with_begins (Refused number value) no_stores (refused_small climate block number value v) (omega arith))
    (λ s v q o. opening_by s area (λ o. Begins (recorded_on (season_days s) (length area) e o))
    (λ h. recorded_with_begins (Refused 8 0) no_stores (omega arith) (omega arith))
    (λ h l i. recorded_with_begins (refusal (season_days s) (length area) l e) (stores_of l e) (entry_small (season_days s) (length area) l e) (omega arith))
    (λ h l i. recorded_with_begins (Refused 10 l.place) no_stores (omega arith) (omega arith))
    (λ h l i. recorded_with_begins (Refused 9 l.place) no_stores (omega arith) (omega arith)))

few_stores : (v : Verdict) (w : Stores) → StoresOccur v w → w.count ≤ 8192
few_stores Accepted w h = omega (arith, h.few)
few_stores (Refused number value) w h = omega (arith, ap (λ (x : Stores). x.count) h.1)

pub recorded_small : (role : ℕ) (climate block area : List ℕ) (e : Entry) → SmallRecorded (recorded_by role climate block area e)
recorded_small role climate block area e =
    let r = recorded_by role climate block area e in
    let b = enter_by Begins (λ number value. recorded_with (Refused number value) no_stores) (sheet_recorded climate block area e) role
    (λ number few. recorded_with_begins (Refused number 0) no_stores (omega arith) (omega arith))
    (recorded_begins climate block area e) in
    record { verdict = b.verdict; start = b.start; count = few_stores r.verdict r.stores (claims.recorded_occurs role climate block area e) }

-- ---- loss

-- Refusal 17 carries no place, 10 the ledger's.
lost_by_small : (ky : ℕ) (l : Ledger) (t : Bool) (place : ℕ) → place ≤ 8192 → SmallLost (lost_by ky l t place)
lost_by_small ky l t place h =
    unless (first_of Accepted (loss_refusals ky t place))
    (first_refusal (λ number value. value ≤ 8192) Accepted (loss_refusals ky t place) tt (omega arith, (h, tt)))
  where
    unless : (v : Verdict) → Refusal (λ number value. value ≤ 8192) v → SmallLost (lost_unless v (losses_of ky l))
    unless Accepted a = tt
    unless (Refused number value) a = a

pub lost_small : (role : ℕ) (climate block area : List ℕ) (ky : ℕ) → SmallLost (loss_by role climate block area ky)
unfolding lost lost_on
lost_small role climate block area ky =
    look_by SmallLost losing.Refused (sheet_lost climate block area ky) role (omega arith)
    (on_sheets_lem losing.Refused (λ s. lost s area ky) climate block SmallLost
    (λ number value v. refused_small climate block number value v)
    (λ s v q o. opening_by s area (λ p. SmallLost (lost_on ky p)) (λ h. omega arith) (λ h l i. lost_by_small ky l false 0 (omega arith)) (λ h l i. lost_by_small ky l true l.place (omega arith)) (λ h l i. omega arith)))

-- ---- probe

-- Refusals 11, 18 and 19 carry no place.
probed_from_small : (s : Season) (r : Reading) (f day depletion : ℕ) → SmallProbed (probed_from s r f day depletion)
probed_from_small s r f day depletion =
    unless (first_of Accepted (probe_refusals (ltb (season_days s) day) r f)) _
    (first_refusal (λ number value. value ≤ 8192) Accepted (probe_refusals (ltb (season_days s) day) r f) tt (omega arith, (omega arith, (omega arith, tt))))
  where
    unless : (v : Verdict) (p : ℕ) → Refusal (λ number value. value ≤ 8192) v → SmallProbed (probed_unless v (probed.Depletions depletion p))
    unless Accepted p a = tt
    unless (Refused number value) p a = a

pub probed_small : (role : ℕ) (climate block area : List ℕ) (shallow deep : Probe) (f : ℕ) → SmallProbed (probed_by role climate block area shallow deep f)
unfolding probed_on
probed_small role climate block area shallow deep f =
    let r = reading_of shallow deep in
    look_by SmallProbed probed.Refused (sheet_probed climate block area shallow deep f) role (omega arith)
    (on_sheets_lem probed.Refused (λ s. probed_on s r f (opening s area)) climate block SmallProbed
    (λ number value v. refused_small climate block number value v)
    (λ s v q o. opening_by s area (λ p. SmallProbed (probed_on s r f p)) (λ h. omega arith) (λ h l i. probed_from_small s r f l.day l.depletion) (λ h l i. omega arith) (λ h l i. omega arith)))

-- ---- plan and table

module _ (s : Season) (sown : AcceptedSeason s) (out : List ℕ) where
  -- Refusal 16 carries a season day.
  to_small : (e most : ℕ) (p : Plan) → most ≤ 8192 → ((f : ℕ) → p ≡ refused f → f ≤ most) → SmallPlanned (answer_to e out p).0
  unfolding answer_to
  to_small e most (depths xs) m h = tt
  to_small e most (refused f) m h = omega (arith, h f refl)

  day_small : (l : Ledger) → l.day ≤ season_days s → SmallPlanned (answer s l.day l.depletion (waiting l) out).0
  unfolding answer
  day_small l h = go (ltb (length out) (days_left s l.day))
    where
      p : Plan
      p = plan (outlook s l.day (waiting l)) (days_left s l.day) l.day l.depletion

      go : (b : Bool) → SmallPlanned (elim b as (λ x. Planned × List ℕ) [ true ↦ (planned.Refused 15 0, out) | false ↦ answer_to s.efficiency out p ]).0
      go true = omega arith
      go false = to_small s.efficiency longest_season p (omega arith) (λ f e. omega (arith, ((plans.claims).refused_first _ _ _ _ f e).0.to, sown.valid.year))

  ledger_small : (l : Ledger) → SmallPlanned (planned_on s out (found.Clean l)).0
  unfolding planned_on
  ledger_small l = go (ltb (season_days s) l.day) refl
    where
      go : (b : Bool) → ltb (season_days s) l.day ≡ b
          → SmallPlanned (cond {A = Planned × List ℕ} b (planned.Refused 11 0, out) (answer s l.day l.depletion (waiting l) out)).0
      go true e = omega arith
      go false e = day_small l (ltb-false (season_days s) l.day e)

  rows_few : SmallTabled (tabled s out).0
  unfolding tabled
  rows_few = go (ltb (length out) (row_count s * 6))
    where
      go : (b : Bool) → SmallTabled (cond {A = Tabled × List ℕ} b (table.Refused 15 0, out) (table.Rows (row_count s), table.table s ++ drop (row_count s * 6) out)).0
      go true = omega arith
      go false = omega (arith, rows_at_most s sown.valid)

pub planned_small : (role : ℕ) (climate block area out : List ℕ) → SmallPlanned (planned_by role climate block area out).0
unfolding planned_on
planned_small role climate block area out =
    look_by (λ (a : Planned × List ℕ). SmallPlanned a.0) (λ number value. (planned.Refused number value, out)) (sheet_planned climate block area out) role (omega arith)
    (on_sheets_lem (λ number value. (planned.Refused number value, out)) (λ s. planned_on s out (opening s area)) climate block (λ (a : Planned × List ℕ). SmallPlanned a.0)
    (λ number value v. refused_small climate block number value v)
    (λ s v q o. opening_by s area (λ p. SmallPlanned (planned_on s out p).0) (λ h. omega arith) (λ h l i. ledger_small s o out l) (λ h l i. omega arith) (λ h l i. omega arith)))

pub tabled_small : (role : ℕ) (climate block out : List ℕ) → SmallTabled (tabled_by role climate block out).0
tabled_small role climate block out =
    look_by (λ (a : Tabled × List ℕ). SmallTabled a.0) (λ number value. (table.Refused number value, out)) (sheet_tabled climate block out) role (omega arith)
    (on_sheets_lem (λ number value. (table.Refused number value, out)) (λ s. tabled s out) climate block (λ (a : Tabled × List ℕ). SmallTabled a.0)
    (λ number value v. refused_small climate block number value v)
    (λ s v q o. rows_few s o out))

-- ---- a bank

before_small : (v w : Verdict) → SmallVerdict v → SmallVerdict w → SmallVerdict (before v w)
before_small Accepted w a b = b
before_small (Refused number value) w a b = a

or_small : (v : Verdict) (t : Bool) (number : ℕ) → SmallVerdict v → SmallVerdict (or_refused v t number 0)
unfolding or_refused
or_small Accepted true number a = omega arith
or_small Accepted false number a = tt
or_small (Refused n value) t number a = a

first_small : (f : ℕ → Judged) (n : ℕ) → ((k : ℕ) → SmallVerdict (f k).verdict) → SmallVerdict (first_refused f n)
unfolding first_refused
first_small f zero h = tt
first_small f (suc n) h = before_small (first_refused f n) (f n).verdict (first_small f n h) (h n)

module _ (climate : List ℕ) where
  climate_sheet_small : SmallVerdict (climate_of climate).verdict
  unfolding sheets_of block_with
  climate_sheet_small = go (climate_of climate).verdict refl
    where
      go : (v : Verdict) → (climate_of climate).verdict ≡ v → SmallVerdict v
      go Accepted e = tt
      go (Refused number value) e = refused_small climate [] number value (rw e refl)

  judged_small : (block area : List ℕ) (room : ℕ) → SmallVerdict (judged (climate_of climate) block area room).verdict
  unfolding judged standing_on sheets_of
  judged_small block area room = go (sheets_of climate block).verdict refl
    where
      go : (v : Verdict) → (sheets_of climate block).verdict ≡ v → SmallVerdict (judged_by v (sheets_of climate block).season area room).verdict
      go (Refused number value) e = refused_small climate block number value e
      go Accepted e =
          let s = (sheets_of climate block).season in
          opening_by s area (λ o. SmallVerdict (standing_on s room o).verdict)
          (λ h. omega arith)
          (λ h l i. or_small _ (ltb room (days_left s l.day)) 15 (or_small Accepted (ltb (season_days s) l.day) 11 tt))
          (λ h l i. omega arith)
          (λ h l i. omega arith)

bank_small : (climate : List ℕ) (blocks limit : ℕ) (lengths sheets areas : List ℕ) (size : ℕ) → SmallVerdict (bank_verdict climate blocks limit lengths sheets areas size)
bank_small climate blocks limit lengths sheets areas size =
    before_small (or_refused Accepted (bank_wrong blocks limit lengths (length sheets) (length areas) size) 22 0) (before (climate_of climate).verdict (blocks_verdict (judged_at b) blocks))
    (or_small Accepted (bank_wrong blocks limit lengths (length sheets) (length areas) size) 22 tt)
    (before_small (climate_of climate).verdict (blocks_verdict (judged_at b) blocks) (climate_sheet_small climate)
    (or_small (first_refused (judged_at b) blocks) (starts_differ (judged_at b) blocks) 23
    (first_small (judged_at b) blocks (λ k. judged_small climate (part_of lengths 0 sheets k) (part_of lengths 1 areas k) (length_of lengths 2 k)))))
  where
    b : Blocks
    b = blocks_of (climate_of climate) lengths sheets areas

pub banked_small : (role : ℕ) (climate : List ℕ) (blocks limit : ℕ) (lengths sheets areas parts answers : List ℕ)
    → SmallVerdict (banked_by role climate blocks limit lengths sheets areas parts answers).0
unfolding banked
banked_small role climate blocks limit lengths sheets areas parts answers =
    look_by (λ (a : Verdict × List ℕ × List ℕ). SmallVerdict a.0) (λ number value. (Refused number value, answers, parts))
    (banked climate blocks limit lengths sheets areas parts answers) role (omega arith)
    (is_small (bank_verdict climate blocks limit lengths sheets areas (length parts)) _ (bank_small climate blocks limit lengths sheets areas (length parts)))
  where
    is_small : (v : Verdict) (p : Progress) → SmallVerdict v → SmallVerdict (banked_if v p answers parts).0
    is_small Accepted p h = h
    is_small (Refused number value) p h = h

-- ---- the writers

written_small : (w : Written) → ((count : ℕ) → w ≡ writer.Made count → count ≤ 8192) → ((number value : ℕ) → w ≡ writer.Refused number value → value ≤ 8192) → SmallWritten w
written_small (writer.Made count) f g = f count refl
written_small (writer.Refused number value) f g = g number value refl

-- A writer by a role.
role_small : (role : ℕ) (out : List ℕ) (made : Written × List ℕ) → SmallWritten made.0 → SmallWritten (by_role (look_lines role) (λ number value. (writer.Refused number value, out)) made).0
role_small role out made = look_by (λ (a : Written × List ℕ). SmallWritten a.0) (λ number value. (writer.Refused number value, out)) made role (omega arith)

pub climate_small : (role : ℕ) (fields out : List ℕ) → length fields ≡ 24 → SmallWritten (climate_written_by role fields out).0
climate_small role fields out n =
    role_small role out (climate_written fields out)
    (written_small (climate_written fields out).0
    (λ count e. omega (arith, ((sheets.claims).climate_write_length fields out count n e).1))
    (λ number value e. omega (arith, climate_write_refused_is (written fields) (length out) number value fields (sym ((sheets.claims).climate_write_refuses fields out) ∙ ap write_verdict e))))

pub block_small : (role : ℕ) (fields out : List ℕ) → length fields ≡ 17 → SmallWritten (block_written_by role fields out).0
block_small role fields out n =
    role_small role out (block_written fields out)
    (written_small (block_written fields out).0
    (λ count e. omega (arith, ((sheets.claims).block_write_length fields out count n e).1))
    (λ number value e. omega (arith, block_write_refused_is (written (sheet_fields fields)) (length out) number value (sheet_fields fields) (sym ((sheets.claims).block_write_refuses fields out) ∙ ap write_verdict e))))
