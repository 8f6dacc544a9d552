-- Demand 1: each call's verdict is the first of its lines that applies.
use mathlib.Core.Path.{◌≡◌, refl, sym, ◌∙◌, ap, ap₂}
use mathlib.Core.Bool.{Bool, true, false, ◌||◌, cond}
use mathlib.Core.List.{List, [], ◌∷◌, ◌++◌}
use Prim.Native.Nat.{ℕ, ◌*◌, ◌≤◌, ◌<◌}
use native.Mathlib.Omega.{arith}
use lib.Dec.{ltb}
use lib.ListN.{length, drop, length-append}
use borrow.Author.Tests.{lt-ltb, le-ltb}
use Rattle.season.specs.declared.Season.{Season}
use Rattle.season.specs.Sheet.{season_days}
use Rattle.season.specs.Day.{root_on, total_on, AcceptedSeason}
use Rattle.season.specs.Loss.{ky_outside}
use Rattle.season.proofs.Whole.{by_order}
use Rattle.verdict.specs.Refusals.{Verdict, Accepted, Refused, or_refused, first_of, verdict_of}
use Rattle.verdict.proofs.First.{Refusal, Lines, first_append, first_refused_lem, first_holds, first_fails, first_refusal, refused_accepted}
use Rattle.verdict.proofs.Claims as verdicts
use Rattle.sheet.specs.Sheets.{sheets_of}
use Rattle.sheet.specs.Refusals.{pair_lines}
use Rattle.sheet.proofs.Claims as sheets
use Rattle.journal.specs.declared.Entry.{Entry}
use Rattle.journal.specs.declared.Ledger.{Ledger}
use Rattle.journal.specs.Opening.{Opening, opening}
use Rattle.journal.specs.Opening as found
use Rattle.journal.specs.declared.Stores.{Stores}
use Rattle.journal.specs.Entries.{waiting, start, refusals, refusal}
use Rattle.journal.specs.Specified.{bytes_all, Says}
use Rattle.journal.specs.Specified as said
use Rattle.journal.specs.Calls.{no_stores, recorded_with, stores_of, recorded_on, recorded, opened}
use Rattle.journal.specs.Roles.{Line, look_lines, by_role}
use Rattle.journal.specs.Loss as yield
use Rattle.journal.specs.Loss.{losses_of, loss_refusals, lost_unless, lost_on, loss_numbers}
use Rattle.journal.proofs.Answers.{opened_opening}
use Rattle.journal.proofs.Claims as journals
use Rattle.planner.specs.Answer.{Planned, answer_to, answer}
use Rattle.planner.specs.Answer as planned
use Rattle.planner.specs.Plan.{Plan, depths, refused}
use Rattle.planner.specs.Outlook.{days_left}
use Rattle.planner.proofs.Claims as plans
use Rattle.decades.specs.Table.{row_count, tabled, Tabled}
use Rattle.decades.specs.Table as table
use Rattle.decades.proofs.Claims as tables
use Rattle.probes.specs.declared.Probe.{Probe}
use Rattle.probes.specs.Contents.{Reading, reading_of, content_in}
use Rattle.probes.specs.Depletion.{measured}
use Rattle.probes.proofs.Claims as probings
use Rattle.measuring.specs.Probing.{Depletions, capacity_outside, probe_refusals, probed_unless, probed_on, probed_numbers}
use Rattle.controller.specs.Calls.{on_sheets, planned_on}
use Rattle.controller.specs.Refusals.{on_lines, damaged, torn_line, ledger_in, open_lines, loss_lines, entry_lines, lost, plan_of, room_lines, plan_lines, probe_lines, table_lines}
use Rattle.controller.proofs.Sheets.{on_sheets_lem}
use Rattle.controller.proofs.Roles.{look_verdict}

-- Behind the role's, refusals 1 to 7 come first; the call's own go on from the sheets' verdict.
module _ (climate block : List ℕ) where
  on_lines_lem : (lines : Season → List Line)
      → first_of Accepted (on_lines [] climate block lines) ≡ first_of (sheets_of climate block).verdict (lines (sheets_of climate block).season)
  on_lines_lem lines =
      first_append Accepted (pair_lines climate block) (lines (sheets_of climate block).season)
      ∙ ap (λ (v : Verdict). first_of v (lines (sheets_of climate block).season)) (sym ((sheets.claims).refuses_first climate block))

  pub sheets_verdict : {A : Type 0} (verdict_in : A → Verdict) (refuse : ℕ → ℕ → A) (reply : Season → A) (lines : Season → List Line)
      → ((number value : ℕ) → 1 ≤ number → verdict_in (refuse number value) ≡ Refused number value)
      → ((s : Season) → AcceptedSeason s → verdict_in (reply s) ≡ first_of Accepted (lines s))
      → verdict_in (on_sheets refuse reply climate block) ≡ first_of Accepted (on_lines [] climate block lines)
  sheets_verdict verdict_in refuse reply lines no-sheets of-season =
      on_sheets_lem refuse reply climate block (λ a. verdict_in a ≡ first_of Accepted (on_lines [] climate block lines))
      (λ number value e. no-sheets number value ((sheets.claims).refused_number climate block number value e).0
      ∙ sym (on_lines_lem lines ∙ rw e (first_refused_lem number value (lines (sheets_of climate block).season))))
      (λ s e q o. of-season s o ∙ sym (on_lines_lem lines ∙ rw (e, q)))

  -- With the role's in front.
  pub looks_verdict : (role : ℕ) {A : Type 0} (verdict_in : A → Verdict) (refuse : ℕ → ℕ → A) (reply : Season → A) (lines : Season → List Line)
      → ((number value : ℕ) → 1 ≤ number → verdict_in (refuse number value) ≡ Refused number value)
      → ((s : Season) → AcceptedSeason s → verdict_in (reply s) ≡ first_of Accepted (lines s))
      → verdict_in (by_role (look_lines role) refuse (on_sheets refuse reply climate block)) ≡ first_of Accepted (on_lines (look_lines role) climate block lines)
  looks_verdict role verdict_in refuse reply lines no-sheets of-season =
      look_verdict verdict_in refuse no-sheets (on_sheets refuse reply climate block) (on_lines [] climate block lines) (sheets_verdict verdict_in refuse reply lines no-sheets of-season) role

-- A refusal's number and value are the verdict of an answer that begins with them.
pub numbers_refused : (number value : ℕ) → 1 ≤ number → verdict_of (number ∷ value ∷ []) ≡ Refused number value
numbers_refused number value h = (verdicts.claims).verdict_of_numbers (Refused number value) [] h

-- An answer that is given unless a line applies has the verdict of the first that does.
abbrev Numbered : ℕ → ℕ → Type 0
Numbered number value = 1 ≤ number

by_lines : (verdict_unless : Verdict → Verdict) → verdict_unless Accepted ≡ Accepted
    → ((number value : ℕ) → 1 ≤ number → verdict_unless (Refused number value) ≡ Refused number value)
    → (lines : List Line) → Lines Numbered lines → verdict_unless (first_of Accepted lines) ≡ first_of Accepted lines
by_lines verdict_unless accepts refuses lines h = go (first_of Accepted lines) (first_refusal Numbered Accepted lines tt h)
  where
    go : (v : Verdict) → Refusal Numbered v → verdict_unless v ≡ v
    go Accepted r = accepts
    go (Refused number value) r = refuses number value r

-- ---- what an opening can be

-- What holds in each case of an opening holds of it: a place is the ledger's, which lies in the area.
module _ (s : Season) (area : List ℕ) (P : Opening → Type 0) (long : 8192 < length area → P (found.Refused 8 0))
    (clean : length area ≤ 8192 → (l : Ledger) → l.place ≤ length area → P (found.Clean l))
    (torn : length area ≤ 8192 → (l : Ledger) → l.place ≤ length area → P (found.Torn l l.place))
    (damaged : length area ≤ 8192 → (l : Ledger) → l.place ≤ length area → P (found.Refused 9 l.place)) where
  by_tail : {l : Ledger} {bytes : List ℕ} {o : Opening} → length area ≤ 8192 → l.place ≤ length area → Says (season_days s) (length area) l bytes o → P o
  by_tail {l} h i (said.clean m e) = clean h l i
  by_tail {l} h i (said.torn t) = torn h l i
  by_tail {l} h i (said.damaged n t) = damaged h l i

  pub opening_by : P (opening s area)
  opening_by =
      by_order (length area) 8193
      (λ h. rw ((journals.claims).opening_refuses s area (omega arith)) (long (omega arith)))
      (λ h.
      let o = (journals.claims).opening_says s area (omega arith) in
      let run = bytes_all s (start s) o.run.entries in
      by_tail (omega arith) (omega (arith, o.place, ap length o.run.is, length-append run o.found.rest)) o.says)

-- ---- the verdict of a plan's and of a table's answer, by their numbers

abbrev pub plan_verdict : Planned × List ℕ → Verdict
plan_verdict a = verdict_of (planned.numbers_of a.0)

abbrev pub table_verdict : Tabled × List ℕ → Verdict
table_verdict a = verdict_of (table.numbers_of a.0)

-- ---- 8 to 14

abbrev area_lines : ℕ → Opening → List Line
area_lines size o = (ltb 8192 size, 8, 0) ∷ ((damaged o).0, 9, (damaged o).1) ∷ []

module _ (s : Season) (area : List ℕ) where
  -- A call whose verdict is 8, 9, then what `lines` give of the opening.
  pub by_opening : (verdict_in : Opening → Verdict) (lines : Opening → List Line)
      → ((number place : ℕ) → 1 ≤ number → verdict_in (found.Refused number place) ≡ Refused number place)
      → ((l : Ledger) → verdict_in (found.Clean l) ≡ first_of Accepted (lines (found.Clean l)))
      → ((l : Ledger) → verdict_in (found.Torn l l.place) ≡ first_of Accepted (lines (found.Torn l l.place)))
      → verdict_in (opening s area) ≡ first_of Accepted (area_lines (length area) (opening s area) ++ lines (opening s area))
  unfolding or_refused
  by_opening verdict_in lines refuses clean torn =
      opening_by s area (λ o. verdict_in o ≡ first_of Accepted (area_lines (length area) o ++ lines o))
      (λ h. refuses 8 0 (omega arith) ∙ sym (rw (lt-ltb 8192 (length area) h) (first_refused_lem 8 0 (lines (found.Refused 8 0)))))
      (λ h l i. clean l ∙ sym (rw (le-ltb 8192 (length area) h)))
      (λ h l i. torn l ∙ sym (rw (le-ltb 8192 (length area) h)))
      (λ h l i. refuses 9 l.place (omega arith) ∙ sym (rw (le-ltb 8192 (length area) h) (first_refused_lem 9 l.place (lines (found.Refused 9 l.place)))))

  pub open_verdict : verdict_of (found.numbers_of (opened s area).opening) ≡ first_of Accepted (open_lines area s)
  unfolding or_refused
  open_verdict =
      ap (λ (o : Opening). verdict_of (found.numbers_of o)) (opened_opening s area)
      ∙ by_opening (λ o. verdict_of (found.numbers_of o)) (λ o. torn_line o ∷ []) numbers_refused (λ l. refl) (λ l. refl)

  recorded_with_verdict : (v : Verdict) (w : Stores) → (recorded_with v w).verdict ≡ v
  unfolding recorded_with
  recorded_with_verdict Accepted w = refl
  recorded_with_verdict (Refused number value) w = refl

  pub entry_verdict : (e : Entry) → (recorded s area e).verdict ≡ first_of Accepted (entry_lines area e s)
  unfolding recorded recorded_on refusal or_refused
  entry_verdict e =
      by_opening (λ o. (recorded_on (season_days s) (length area) e o).verdict) (λ o. torn_line o ∷ refusals (season_days s) (length area) (ledger_in s o) e)
      (λ number place h. recorded_with_verdict (Refused number place) no_stores)
      (λ l. recorded_with_verdict (refusal (season_days s) (length area) l e) (stores_of l e))
      (λ l. recorded_with_verdict (Refused 10 l.place) no_stores ∙ sym (first_refused_lem 10 l.place (refusals (season_days s) (length area) l e)))

  -- 17, then 10
  pub loss_verdict : (ky : ℕ) → verdict_of (loss_numbers (yield.lost s area ky)) ≡ first_of Accepted (loss_lines area ky s)
  unfolding yield.lost lost_on
  loss_verdict ky =
      by_opening (λ o. verdict_of (loss_numbers (lost_on ky o))) (λ o. (ky_outside ky, 17, 0) ∷ torn_line o ∷ []) numbers_refused
      (λ l. by l (loss_refusals ky false 0) (omega arith, (omega arith, tt)))
      (λ l. by l (loss_refusals ky true l.place) (omega arith, (omega arith, tt)))
    where
      by : (l : Ledger) (lines : List Line) → Lines Numbered lines → verdict_of (loss_numbers (lost_unless (first_of Accepted lines) (losses_of ky l))) ≡ first_of Accepted lines
      by l = by_lines (λ v. verdict_of (loss_numbers (lost_unless v (losses_of ky l)))) refl numbers_refused

  -- ---- 11, 18 and 19

  probe_lines_lem : (r : Reading) (f : ℕ) → verdict_of (probed_numbers (probed_on s r f (opening s area)))
      ≡ first_of Accepted (open_lines area s ++ probe_refusals (ltb (season_days s) (ledger_in s (opening s area)).day) r f)
  unfolding probed_on
  probe_lines_lem r f =
      by_opening (λ o. verdict_of (probed_numbers (probed_on s r f o))) (λ o. torn_line o ∷ probe_refusals (ltb (season_days s) (ledger_in s o).day) r f)
      numbers_refused
      (λ l. let lines = probe_refusals (ltb (season_days s) l.day) r f in
      by_lines (λ v. verdict_of (probed_numbers (probed_unless v (Depletions l.depletion (measured f (content_in r) (root_on s l.day) (total_on s l.day))))))
      refl numbers_refused lines (omega arith, (omega arith, (omega arith, tt)))
      ∙ sym (first_fails false 10 0 lines refl))
      (λ l. sym (first_holds true 10 l.place (probe_refusals (ltb (season_days s) l.day) r f) refl))

  -- What the probes say, in document 02's words.
  pub probe_verdict : (shallow deep : Probe) (f : ℕ) → verdict_of (probed_numbers (probed_on s (reading_of shallow deep) f (opening s area)))
      ≡ first_of Accepted (probe_lines area shallow deep f s)
  probe_verdict shallow deep f =
      probe_lines_lem (reading_of shallow deep) f
      ∙ ap₂ (λ (wrong nothing : Bool). first_of Accepted (open_lines area s ++ ((ltb (season_days s) (ledger_in s (opening s area)).day, 11, 0) ∷ (wrong || capacity_outside f, 18, 0) ∷ (nothing, 19, 0) ∷ [])))
      ((probings.claims).wrong_either shallow deep)
      ((probings.claims).nothing_neither shallow deep)

  -- ---- 11, 15 and 16

  module _ (out : List ℕ) where
    plan_16 : (e : ℕ) (p : Plan) → plan_verdict (answer_to e out p) ≡ first_of Accepted (((lost p).0, 16, (lost p).1) ∷ [])
    unfolding answer_to or_refused
    plan_16 e (depths xs) = refl
    plan_16 e (refused f) = refl

    plan_15 : (l : Ledger) → plan_verdict (answer s l.day l.depletion (waiting l) out)
        ≡ first_of Accepted ((ltb (length out) (days_left s l.day), 15, 0) ∷ ((lost (plan_of s l)).0, 16, (lost (plan_of s l)).1) ∷ [])
    unfolding answer or_refused
    plan_15 l = go (ltb (length out) (days_left s l.day))
      where
        go : (b : Bool) → plan_verdict (elim b as (λ x. Planned × List ℕ) [ true ↦ (planned.Refused 15 0, out) | false ↦ answer_to s.efficiency out (plan_of s l) ])
            ≡ first_of Accepted ((b, 15, 0) ∷ ((lost (plan_of s l)).0, 16, (lost (plan_of s l)).1) ∷ [])
        go true = sym (first_refused_lem 15 0 (((lost (plan_of s l)).0, 16, (lost (plan_of s l)).1) ∷ []))
        go false = plan_16 s.efficiency (plan_of s l)

    plan_11 : (l : Ledger) → plan_verdict (planned_on s out (found.Clean l)) ≡ first_of Accepted (room_lines s (length out) l)
    unfolding planned_on or_refused
    plan_11 l = go (ltb (season_days s) l.day)
      where
        later : List Line
        later = (ltb (length out) (days_left s l.day), 15, 0) ∷ ((lost (plan_of s l)).0, 16, (lost (plan_of s l)).1) ∷ []

        go : (b : Bool) → plan_verdict (cond {A = Planned × List ℕ} b (planned.Refused 11 0, out) (answer s l.day l.depletion (waiting l) out))
            ≡ first_of Accepted ((b, 11, 0) ∷ later)
        go true = sym (first_refused_lem 11 0 later)
        go false = plan_15 l

    pub plan_verdict_lem : plan_verdict (planned_on s out (opening s area)) ≡ first_of Accepted (plan_lines area (length out) s)
    unfolding planned_on or_refused
    plan_verdict_lem =
        by_opening (λ o. plan_verdict (planned_on s out o)) (λ o. torn_line o ∷ room_lines s (length out) (ledger_in s o))
        numbers_refused
        (λ l. plan_11 l)
        (λ l. sym (first_refused_lem 10 l.place (room_lines s (length out) l)))

pub table_verdict_lem : (s : Season) (out : List ℕ) → table_verdict (tabled s out) ≡ first_of Accepted (table_lines (length out) s)
unfolding tabled or_refused
table_verdict_lem s out = go (ltb (length out) (row_count s * 6))
  where
    go : (b : Bool) → table_verdict (cond {A = Tabled × List ℕ} b (table.Refused 15 0, out) (table.Rows (row_count s), table.table s ++ drop (row_count s * 6) out))
        ≡ first_of Accepted ((b, 15, 0) ∷ [])
    go true = refl
    go false = refl

-- ---- a refused call: no stores, buffers as they were

recorded_with_accepted : (w : Stores) → (recorded_with Accepted w).verdict ≡ Accepted
unfolding recorded_with
recorded_with_accepted w = refl

pub entry_refused : (s : Season) (area : List ℕ) (e : Entry) (number value : ℕ) → (recorded s area e).verdict ≡ Refused number value
    → recorded s area e ≡ recorded_with (Refused number value) no_stores
unfolding recorded recorded_on
entry_refused s area e number value = go (opening s area)
  where
    none : (v : Verdict) (w : Stores) → (recorded_with v w).verdict ≡ Refused number value → recorded_with v w ≡ recorded_with (Refused number value) no_stores
    none Accepted w h = absurd (refused_accepted number value (sym h ∙ recorded_with_accepted w))
    none (Refused m x) w h = let i : m ≡ number = cc in let j : x ≡ value = cc in rw (i, j)

    go : (o : Opening) → (recorded_on (season_days s) (length area) e o).verdict ≡ Refused number value
        → recorded_on (season_days s) (length area) e o ≡ recorded_with (Refused number value) no_stores
    go (found.Clean l) h = none (refusal (season_days s) (length area) l e) (stores_of l e) h
    go (found.Torn l place) h = none (Refused 10 place) no_stores h
    go (found.Refused m place) h = none (Refused m place) no_stores h

pub plan_refused_keeps : (s : Season) (area out : List ℕ) (number value : ℕ) → plan_verdict (planned_on s out (opening s area)) ≡ Refused number value
    → (planned_on s out (opening s area)).1 ≡ out
unfolding planned_on
plan_refused_keeps s area out number value = go (opening s area)
  where
    keeps : (l : Ledger) (a : Planned) → (answer s l.day l.depletion (waiting l) out).0 ≡ a → verdict_of (planned.numbers_of a) ≡ Refused number value
        → (answer s l.day l.depletion (waiting l) out).1 ≡ out
    keeps l (planned.Made days net gross) q h = absurd (refused_accepted number value (sym h))
    keeps l (planned.Refused m w) q h =
        (plans.claims).answer_refused_keeps s l.day l.depletion (waiting l) m w out _ (λ i. (q i, (answer s l.day l.depletion (waiting l) out).1))

    open_day : (l : Ledger) (b : Bool) → plan_verdict (cond {A = Planned × List ℕ} b (planned.Refused 11 0, out) (answer s l.day l.depletion (waiting l) out)) ≡ Refused number value
        → (cond {A = Planned × List ℕ} b (planned.Refused 11 0, out) (answer s l.day l.depletion (waiting l) out)).1 ≡ out
    open_day l true h = refl
    open_day l false h = keeps l (answer s l.day l.depletion (waiting l) out).0 refl h

    go : (o : Opening) → plan_verdict (planned_on s out o) ≡ Refused number value → (planned_on s out o).1 ≡ out
    go (found.Clean l) h = open_day l (ltb (season_days s) l.day) h
    go (found.Torn l place) h = refl
    go (found.Refused m place) h = refl

pub table_refused_keeps : (s : Season) (out : List ℕ) (number value : ℕ) → table_verdict (tabled s out) ≡ Refused number value → (tabled s out).1 ≡ out
table_refused_keeps s out number value = go (tabled s out).0 refl
  where
    go : (a : Tabled) → (tabled s out).0 ≡ a → verdict_of (table.numbers_of a) ≡ Refused number value → (tabled s out).1 ≡ out
    go (table.Rows count) q h = absurd (refused_accepted number value (sym h))
    go (table.Refused m w) q h = (tables.claims).refused_unaltered s out m w q
