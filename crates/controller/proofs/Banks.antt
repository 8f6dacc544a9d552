-- A bank's verdict is the first of its lines that applies; refused, it leaves both buffers; and with valves for all, each block plans alone.
use Prim.Native.Nat.{ℕ, zero, suc, ◌-◌, ◌*◌, ◌≤◌, ◌<◌}
use mathlib.Core.Path.{◌≡◌, refl, sym, ◌∙◌, ap, ap₂}
use mathlib.Core.List.{List, [], ◌∷◌, ◌++◌}
use native.Mathlib.Omega.{arith}
use lib.Dec.{ltb}
use lib.ListN.{length}
use borrow.Author.Tests.{le-ltb}
use Rattle.verdict.specs.Refusals.{Verdict, Accepted, Refused, or_refused, first_of}
use Rattle.verdict.proofs.First.{first_append, first_refused_lem, refused_accepted}
use Rattle.season.specs.declared.Season.{Season}
use Rattle.season.specs.Sheet.{season_days}
use Rattle.sheet.specs.Sheets.{climate_of, sheets_of}
use Rattle.sheet.specs.Refusals.{climate_sheet_lines, block_sheet_lines}
use Rattle.sheet.proofs.Claims as reading
use Rattle.journal.specs.Opening.{opening}
use Rattle.journal.specs.Roles.{Line, look_lines}
use Rattle.journal.proofs.Roles.{by_role_lem, role_accepted}
use Rattle.planner.specs.Answer.{Planned, answer_to, answer}
use Rattle.planner.specs.Plan.{plan}
use Rattle.planner.specs.Outlook.{outlook, days_left}
use Rattle.planner.proofs.Bank.{watering_at_most, leaving_none}
use Rattle.bank.specs.Judging.{Judged, standing_on, judged_by, judged, Blocks, blocks_of, judged_at, before, first_refused, starts_differ, blocks_verdict}
use Rattle.bank.specs.Blocks.{length_of, part_of, bank_wrong}
use Rattle.bank.specs.Banks.{reply_at, five, Progress, progress, bank_of, banked_if, bank_verdict, banked}
use Rattle.bank.specs.Claims.{numbers_at, BankRight}
use Rattle.bank.proofs.Accepted.{Stood, stood_at, sheet_at, day_at, ready_all}
use Rattle.bank.proofs.Progressing.{plans_length, part_size}
use Rattle.bank.proofs.Reading.{part_right, numbers_right}
use Rattle.bank.proofs.Claims.{Accepts, accepts, banked_is}
use Rattle.bank.proofs.Claims as banking
use Rattle.controller.specs.Calls.{planned_on}
use Rattle.controller.specs.Roles.{planned_by, banked_by}
use Rattle.controller.specs.Refusals.{torn_line, ledger_in, stand_lines, blocks_lines, bank_lines}
use Rattle.controller.proofs.Sheets.{sheets_accepted}
use Rattle.controller.proofs.Roles.{look_verdict, look_by}
use Rattle.controller.proofs.Refusing.{by_opening}

-- ---- the first line that applies

-- Lines behind lines are looked at where the first accept.
first_before : (v : Verdict) (lines : List Line) → first_of v lines ≡ before v (first_of Accepted lines)
first_before Accepted lines = refl
first_before (Refused number value) lines = first_refused_lem number value lines

first_both : (a b : List Line) → first_of Accepted (a ++ b) ≡ before (first_of Accepted a) (first_of Accepted b)
first_both a b = first_append Accepted a b ∙ first_before (first_of Accepted a) b

stand_verdict : (s : Season) (area : List ℕ) (room : ℕ) → (standing_on s room (opening s area)).verdict ≡ first_of Accepted (stand_lines area room s)
unfolding standing_on or_refused
stand_verdict s area room =
    by_opening s area (λ o. (standing_on s room o).verdict)
    (λ o. torn_line o ∷ (ltb (season_days s) (ledger_in s o).day, 11, 0) ∷ (ltb room (days_left s (ledger_in s o).day), 15, 0) ∷ [])
    (λ number place h. refl)
    (λ l. refl)
    (λ l. sym (first_refused_lem 10 l.place ((ltb (season_days s) l.day, 11, 0) ∷ (ltb room (days_left s l.day), 15, 0) ∷ [])))

module _ (climate : List ℕ) (accepted : (climate_of climate).verdict ≡ Accepted) where
  -- With an accepted climate sheet a pair's verdict is the block sheet's.
  pair_verdict : (block : List ℕ) → (sheets_of climate block).verdict ≡ first_of Accepted (block_sheet_lines block)
  pair_verdict block =
      (reading.claims).refuses_first climate block
      ∙ first_append Accepted (climate_sheet_lines climate) (block_sheet_lines block)
      ∙ ap (λ (v : Verdict). first_of v (block_sheet_lines block)) (sym ((reading.claims).climate_refuses_first climate) ∙ accepted)

  judged_verdict : (block area : List ℕ) (room : ℕ)
      → (judged (climate_of climate) block area room).verdict ≡ first_of Accepted (block_sheet_lines block ++ stand_lines area room (sheets_of climate block).season)
  unfolding judged sheets_of
  judged_verdict block area room =
      go (sheets_of climate block).verdict
      ∙ sym (first_both (block_sheet_lines block) (stand_lines area room (sheets_of climate block).season) ∙ ap (λ (v : Verdict). before v (first_of Accepted (stand_lines area room (sheets_of climate block).season))) (sym (pair_verdict block)))
    where
      go : (v : Verdict) → (judged_by v (sheets_of climate block).season area room).verdict ≡ before v (first_of Accepted (stand_lines area room (sheets_of climate block).season))
      go Accepted = stand_verdict (sheets_of climate block).season area room
      go (Refused number value) = refl

  module _ (lengths sheets areas : List ℕ) where
    abbrev judged_here : ℕ → Judged
    judged_here = judged_at (blocks_of (climate_of climate) lengths sheets areas)

    first_verdict : (n : ℕ) → first_refused judged_here n ≡ first_of Accepted (blocks_lines climate lengths sheets areas n)
    unfolding first_refused blocks_lines
    first_verdict zero = refl
    first_verdict (suc n) =
        ap₂ before (first_verdict n) (judged_verdict (part_of lengths 0 sheets n) (part_of lengths 1 areas n) (length_of lengths 2 n))
        ∙ sym (first_both (blocks_lines climate lengths sheets areas n) _)

    blocks_verdict_lem : (n : ℕ) → blocks_verdict judged_here n ≡ first_of Accepted (blocks_lines climate lengths sheets areas n ++ ((starts_differ judged_here n, 23, 0) ∷ []))
    blocks_verdict_lem n =
        ap (λ (v : Verdict). or_refused v (starts_differ judged_here n) 23 0) (first_verdict n)
        ∙ sym (first_append Accepted (blocks_lines climate lengths sheets areas n) ((starts_differ judged_here n, 23, 0) ∷ []))

module _ (climate : List ℕ) (blocks limit : ℕ) (lengths sheets areas : List ℕ) (depths : ℕ) where
  abbrev later : List Line
  later = blocks_lines climate lengths sheets areas blocks ++ ((starts_differ (judged_at (blocks_of (climate_of climate) lengths sheets areas)) blocks, 23, 0) ∷ [])

  bank_verdict_lem : bank_verdict climate blocks limit lengths sheets areas depths ≡ first_of Accepted (bank_lines climate blocks limit lengths sheets areas depths)
  bank_verdict_lem =
      ap (before first) (go (climate_of climate).verdict refl ∙ ap (λ (v : Verdict). before v (first_of Accepted later)) ((reading.claims).climate_refuses_first climate) ∙ sym (first_both (climate_sheet_lines climate) later))
      ∙ sym (first_before first (climate_sheet_lines climate ++ later))
    where
      first : Verdict
      first = or_refused Accepted (bank_wrong blocks limit lengths (length sheets) (length areas) depths) 22 0

      go : (v : Verdict) → (climate_of climate).verdict ≡ v
          → before v (blocks_verdict (judged_at (blocks_of (climate_of climate) lengths sheets areas)) blocks) ≡ before v (first_of Accepted later)
      go Accepted e = blocks_verdict_lem climate e lengths sheets areas blocks
      go (Refused number value) e = refl

module _ (role : ℕ) (climate : List ℕ) (blocks limit : ℕ) (lengths sheets areas depths answers : List ℕ) where
  if_verdict : (v : Verdict) (p : Progress) → (banked_if v p answers depths).0 ≡ v
  if_verdict Accepted p = refl
  if_verdict (Refused number value) p = refl

  pub bank_refuses : (banked_by role climate blocks limit lengths sheets areas depths answers).0
      ≡ first_of Accepted (look_lines role ++ bank_lines climate blocks limit lengths sheets areas (length depths))
  unfolding banked
  bank_refuses =
      look_verdict (λ (a : Verdict × List ℕ × List ℕ). a.0) (λ number value. (Refused number value, answers, depths)) (λ number value h. refl)
      (banked climate blocks limit lengths sheets areas depths answers) (bank_lines climate blocks limit lengths sheets areas (length depths))
      (if_verdict (bank_verdict climate blocks limit lengths sheets areas (length depths)) _ ∙ bank_verdict_lem climate blocks limit lengths sheets areas (length depths))
      role

  if_refused : (v : Verdict) (p : Progress) (number value : ℕ) → (banked_if v p answers depths).0 ≡ Refused number value → banked_if v p answers depths ≡ (Refused number value, answers, depths)
  if_refused Accepted p number value e = absurd (refused_accepted number value (sym e))
  if_refused (Refused m w) p number value e = ap (λ (v : Verdict). (v, answers, depths)) e

  pub bank_unaltered : (number value : ℕ) → (banked_by role climate blocks limit lengths sheets areas depths answers).0 ≡ Refused number value
      → banked_by role climate blocks limit lengths sheets areas depths answers ≡ (Refused number value, answers, depths)
  unfolding banked
  bank_unaltered number value =
      look_by (λ (a : Verdict × List ℕ × List ℕ). a.0 ≡ Refused number value → a ≡ (Refused number value, answers, depths)) (λ n w. (Refused n w, answers, depths))
      (banked climate blocks limit lengths sheets areas depths answers) role
      (λ e. ap (λ (v : Verdict). (v, answers, depths)) e)
      (if_refused (bank_verdict climate blocks limit lengths sheets areas (length depths)) _ number value)

  -- An accepted bank is that of a role that may look.
  module _ {answers' depths' : List ℕ} (is : banked_by role climate blocks limit lengths sheets areas depths answers ≡ (Accepted, answers', depths')) where
    looked : (first_of Accepted (look_lines role) ≡ Accepted) × (banked climate blocks limit lengths sheets areas depths answers ≡ (Accepted, answers', depths'))
    looked =
        by_role_lem (look_lines role) (λ number value. (Refused number value, answers, depths)) (banked climate blocks limit lengths sheets areas depths answers)
        (λ a. a ≡ (Accepted, answers', depths') → (first_of Accepted (look_lines role) ≡ Accepted) × (banked climate blocks limit lengths sheets areas depths answers ≡ (Accepted, answers', depths')))
        (λ number value e q. absurd (refused_accepted number value (ap (λ (x : Verdict × List ℕ × List ℕ). x.0) q)))
        (λ e q. (e, q))
        is

    pub bank_right : length answers ≡ 200 → BankRight climate blocks limit lengths sheets areas depths answers answers' depths'
    bank_right size = (banking.claims).bank_right climate blocks limit lengths sheets areas depths answers answers' depths' size looked.1

    -- ---- valves for all

    abbrev here : Blocks
    here = blocks_of (climate_of climate) lengths sheets areas

    abbrev season : ℕ → Season
    season k = (sheets_of climate (part_of lengths 0 sheets k)).season

    module _ (size : length answers ≡ 200) (enough : blocks ≤ limit) (k : ℕ) (h : k < blocks) where
      -- the plan call of block k
      abbrev alone : Planned × List ℕ
      alone = planned_by role climate (part_of lengths 0 sheets k) (part_of lengths 1 areas k) (part_of lengths 2 depths k)

      same_answer : (w : Accepts climate blocks limit lengths sheets areas depths answers)
          → reply_at (bank_of limit here) (progress (bank_of limit here) lengths answers depths k).plans k (part_of lengths 2 depths k) ≡ alone
      unfolding sheets_of planned_on answer
      same_answer w =
          ap (λ o. answer_to (season k).efficiency part (plan o (days_left (season k) d) d D)) (leaving_none limit _ (outlook (season k) d W) (λ i. omega (arith, watering_at_most plans (i - d), plans_length (bank_of limit here) lengths answers depths k)))
          ∙ rw (day, t.same_depletion, t.same_waiting) (sym (
          role_accepted (look_lines role) _ _ looked.0
          ∙ sheets_accepted _ (λ s. planned_on s part (opening s (part_of lengths 1 areas k))) climate (part_of lengths 0 sheets k) (sheets_of climate (part_of lengths 0 sheets k)) refl (sheet_at here read blocks w.judged_all k h)
          ∙ rw (t.clean, le-ltb (season_days (season k)) t.ledger.day t.day_open, le-ltb (length part) (days_left (season k) t.ledger.day) roomy, answer)))
        where
          read : (c : List ℕ) × (climate_of climate ≡ climate_of c)
          read = (climate, refl)

          part : List ℕ
          part = part_of lengths 2 depths k

          plans : List (List ℕ)
          plans = (progress (bank_of limit here) lengths answers depths k).plans

          d : ℕ
          d = (judged_at here 0).start.day

          D : ℕ
          D = (judged_at here k).depletion

          W : ℕ
          W = (judged_at here k).waiting

          t : Stood (season k) (part_of lengths 1 areas k) (length_of lengths 2 k) (judged_at here k)
          t = stood_at here read blocks w.judged_all k h

          day : (judged_at here 0).start.day ≡ t.ledger.day
          day = day_at here read blocks w.judged_all k h ∙ t.same_day

          roomy : days_left (season k) t.ledger.day ≤ length part
          roomy = rw (part_size (bank_of limit here) lengths answers depths blocks w.is_laid.depths_fit (ready_all here read blocks w.judged_all limit) k h) t.enough

      pub bank_alone : (numbers_at answers' k ≡ five alone.0) × (part_of lengths 2 depths' k ≡ alone.1)
      unfolding banked
      bank_alone =
          let x = banked_is climate blocks limit lengths sheets areas depths answers (bank_verdict climate blocks limit lengths sheets areas (length depths)) (progress (bank_of limit here) lengths answers depths blocks) looked.1 in
          let w = accepts climate blocks limit lengths sheets areas depths answers x.0 in
          let fits = w.is_laid.depths_fit in
          let ready = ready_all here (climate, refl) blocks w.judged_all limit in
          let few : 5 * blocks ≤ length answers = omega (arith, w.is_laid.counted.few) in
          rw (← x.1, ← x.2, numbers_right (bank_of limit here) lengths answers depths blocks fits ready few k h, part_right (bank_of limit here) lengths answers depths blocks fits ready few k h)
          (ap (λ (a : Planned × List ℕ). five a.0) (same_answer w), ap (λ (a : Planned × List ℕ). a.1) (same_answer w))
