-- The proofs of `specs/Claims.antt`.
use Prim.Native.Nat.{ℕ, ◌*◌, ◌≤◌}
use mathlib.Core.Path.{◌≡◌, refl, sym, ap, ◌∙◌}
use mathlib.Core.Bool.{Bool, true, false}
use mathlib.Core.List.{List, map}
use native.Mathlib.Omega.{arith}
use lib.ListN.{length}
use Rattle.verdict.specs.Refusals.{Verdict, Accepted, Refused, or_refused}
use Rattle.verdict.proofs.First.{refused_accepted}
use Rattle.leb128.specs.Groups.{encode, over_groups, over_in, group_count}
use Rattle.leb128.specs.Forms.{decode, decode_from, below}
use Rattle.season.specs.Rules.{ramp, ramp_z}
use Rattle.season.specs.Calendar.{next_day, days_on}
use Rattle.season.specs.Day.{date_of, kc_of, crop_need, rain_on}
use Rattle.fields.specs.Fields.{outside, lowest_outside, merged}
use Rattle.sheet.specs.Numbers as sheet
use Rattle.sheet.specs.Numbers.{numbers, after, further, ended, numbers_in, written}
use Rattle.sheet.specs.Sheets.{climate_of, block_of, block_with, sheets_of}
use Rattle.journal.specs.Entries.{tag_of, source_tag, number_of, start, enter, refusal, passes}
use Rattle.journal.specs.Entries as journal
use Rattle.journal.specs.Opening.{value, least, starts, entry_of, only, entry_at, replay, replayed, is_blank, trim, torn_at, behind, opening}
use Rattle.planner.specs.Choices.{irrigated}
use Rattle.planner.specs.Plan.{ending, walk, watered, pad, on_walk, by_walks}
use Rattle.planner.specs.Answer.{sum, answer_to}
use Rattle.planner.specs.Bank.{watering}
use Rattle.bank.specs.Blocks.{start_of, bank_wrong}
use Rattle.bank.specs.Judging.{standing_on, judged, Blocks, blocks_of, judged_at, before, first_refused, starts_differ, blocks_verdict}
use Rattle.bank.specs.Banks.{Progress, progress, bank_of, banked_if, bank_verdict, banked}
use Rattle.bank.specs.Carried.{AllReady}
use Rattle.bank.specs.Cases.{cases}
use Rattle.bank.specs.Claims.{BankRight, Claims}
use Rattle.bank.proofs.Accepted.{Laid, laid, stood_at, day_at, ready_all}
use Rattle.bank.proofs.Progressing.{part_size, depths_behind}
use Rattle.bank.proofs.Reading.{answers_behind, bank_plans_lem, few_water, reply_right}

-- An accepted bank has no refusal of any kind.
before_accepted : (v w : Verdict) → before v w ≡ Accepted → (v ≡ Accepted) × (w ≡ Accepted)
before_accepted Accepted w e = (refl, e)
before_accepted (Refused number value) w e = absurd (refused_accepted number value e)

wrong_accepted : (t : Bool) → or_refused Accepted t 22 0 ≡ Accepted → t ≡ false
unfolding or_refused
wrong_accepted true e = absurd (refused_accepted 22 0 e)
wrong_accepted false e = refl

module _ (climate : List ℕ) (blocks limit : ℕ) (lengths sheets areas depths answers : List ℕ) where
  abbrev b : Blocks
  b = blocks_of (climate_of climate) lengths sheets areas

  abbrev left_by : Progress
  left_by = progress (bank_of limit b) lengths answers depths blocks

  pub record Accepts : Type 0 where
    pub is_laid : Laid blocks limit lengths (length sheets) (length areas) (length depths)
    pub climate_is : (climate_of climate).verdict ≡ Accepted
    pub judged_all : blocks_verdict (judged_at b) blocks ≡ Accepted

  pub accepts : bank_verdict climate blocks limit lengths sheets areas (length depths) ≡ Accepted → Accepts
  accepts e =
      let x = before_accepted (or_refused Accepted (bank_wrong blocks limit lengths (length sheets) (length areas) (length depths)) 22 0) _ e in
      let y = before_accepted (climate_of climate).verdict _ x.1 in
      record { is_laid = laid blocks limit lengths (length sheets) (length areas) (length depths) (wrong_accepted _ x.0); climate_is = y.0; judged_all = y.1 }

  module _ (w : Accepts) (size : length answers ≡ 200) where
    right : BankRight climate blocks limit lengths sheets areas depths answers left_by.answers left_by.depths
    unfolding sheets_of
    right =
        record {
          day = (bank_of limit b).day;
          each = λ k h.
              let t = stood_at b read blocks w.judged_all k h in
              let d : (judged_at b 0).start.day ≡ t.ledger.day = day_at b read blocks w.judged_all k h ∙ t.same_day in
              record {
                ledger = t.ledger;
                clean = t.clean;
                same_day = sym d;
                day_open = rw d t.day_open;
                room = rw (d, part_size (bank_of limit b) lengths answers depths blocks fits ready k h) t.enough;
                right = rw (← t.same_depletion, ← t.same_waiting) (reply_right (bank_of limit b) lengths answers depths blocks fits ready few k h);
              };
          few = few_water (bank_of limit b) lengths answers depths blocks fits ready few;
          depths_behind = depths_behind (bank_of limit b) lengths answers depths blocks fits ready blocks (start_of lengths 2 blocks) (omega arith) (omega arith);
          answers_behind = answers_behind (bank_of limit b) lengths answers depths blocks (5 * blocks) (omega arith);
        }
      where
        read : (c : List ℕ) × (climate_of climate ≡ climate_of c)
        read = (climate, refl)

        fits : start_of lengths 2 blocks ≤ length depths
        fits = w.is_laid.depths_fit

        ready : AllReady (bank_of limit b) lengths blocks
        ready = ready_all b read blocks w.judged_all limit

        few : 5 * blocks ≤ length answers
        few = omega (arith, w.is_laid.counted.few)

  -- By the verdict.
  pub banked_is : (v : Verdict) (p : Progress) {answers' depths' : List ℕ} → banked_if v p answers depths ≡ (Accepted, answers', depths') → (v ≡ Accepted) × (p.answers ≡ answers') × (p.depths ≡ depths')
  banked_is Accepted p e = (refl, ap (λ (x : Verdict × List ℕ × List ℕ). x.1) e, ap (λ (x : Verdict × List ℕ × List ℕ). x.2) e)
  banked_is (Refused number value) p e = absurd (refused_accepted number value (ap (λ (x : Verdict × List ℕ × List ℕ). x.0) e))

  bank_right : (answers' depths' : List ℕ) → length answers ≡ 200 → banked climate blocks limit lengths sheets areas depths answers ≡ (Accepted, answers', depths')
      → BankRight climate blocks limit lengths sheets areas depths answers answers' depths'
  unfolding banked
  bank_right answers' depths' size e =
      let x = banked_is (bank_verdict climate blocks limit lengths sheets areas (length depths)) left_by e in
      rw (← x.1, ← x.2) (right (accepts x.0) size)

cases_hold : map (λ (c : List ℕ × List ℕ). c.0) cases ≡ map (λ (c : List ℕ × List ℕ). c.1) cases
unfolding cases banked bank_wrong start_of judged standing_on first_refused starts_differ progress watering block_with climate_of block_of merged lowest_outside outside numbers_in further after ended numbers sheet.before written decode decode_from below encode over_groups over_in group_count or_refused opening replayed replay behind is_blank trim torn_at entry_at entry_of only value least starts start enter refusal journal.accepts passes tag_of source_tag number_of journal.outside answer_to by_walks on_walk pad walk ending watered irrigated sum date_of kc_of crop_need rain_on next_day days_on ramp ramp_z
cases_hold = refl

pub claims : Claims
claims = record { bank_right = bank_right; bank_plans_lem = bank_plans_lem; cases_hold = cases_hold }
