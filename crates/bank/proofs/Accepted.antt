-- An accepted bank: what its blocks' sheets and journals are, and that all can be planned.
use Prim.Native.Nat.{ℕ, zero, suc, ◌*◌, ◌≤◌, ◌<◌}
use mathlib.Core.Path.{◌≡◌, refl, ap, ◌∙◌}
use mathlib.Core.Bool.{Bool, true, false, not, ◌&&◌, true≢false}
use mathlib.Core.List.{List, [], ◌∷◌}
use native.Mathlib.Omega.{arith}
use lib.Dec.{eqb, ltb}
use lib.ListN.{length}
use borrow.Author.Tests.{ltb-false, eqb-true}
use Rattle.verdict.specs.Refusals.{Verdict, Accepted, Refused, or_refused, first_of}
use Rattle.verdict.proofs.First.{refused_accepted, accepted_fails, or_accepted}
use Rattle.season.specs.declared.Season.{Season}
use Rattle.season.specs.Sheet.{season_days}
use Rattle.season.specs.Day.{AcceptedSeason}
use Rattle.season.proofs.Bounds.{total_le}
use Rattle.season.proofs.Whole.{by_order}
use Rattle.sheet.specs.Sheets.{Climate, climate_of, block_with}
use Rattle.journal.specs.declared.Ledger.{Ledger}
use Rattle.journal.specs.Opening.{Opening, opening}
use Rattle.journal.specs.Opening as found
use Rattle.journal.specs.Entries.{waiting}
use Rattle.journal.proofs.Answers.{clean_within}
use Rattle.planner.specs.Outlook.{days_left}
use Rattle.bank.specs.declared.Kept.{Kept}
use Rattle.bank.specs.declared.Start.{Start}
use Rattle.bank.specs.Blocks.{length_of, start_of, part_of, outside, bank_wrong}
use Rattle.bank.specs.Judging.{Judged, standing_on, judged_by, judged, Blocks, blocks_of, judged_at, first_refused, other_start, starts_differ, blocks_verdict, ReadClimate}
use Rattle.bank.specs.Banks.{Bank, onward, progress, bank_of, banked_on, banked}
use Rattle.bank.specs.Carried.{Counted, Noted, bank_in, AllReady, left}
use Rattle.bank.proofs.Parts.{or_left, or_right}
use Rattle.bank.proofs.Judges.{all_accepted, read_accepted}

-- ---- one block

-- A block that is accepted: its journal is clean, a day is open, and there is room; what was judged is its ledger's.
pub record Stood (s : Season) (area : List ℕ) (room : ℕ) (j : Judged) : Type 0 where
  pub ledger : Ledger
  pub clean : opening s area ≡ found.Clean ledger
  pub day_open : ledger.day ≤ season_days s
  pub enough : days_left s ledger.day ≤ room
  pub same_day : j.start.day ≡ ledger.day
  pub same_depletion : j.depletion ≡ ledger.depletion
  pub same_waiting : j.waiting ≡ waiting ledger

stood_on : (s : Season) (area : List ℕ) (room : ℕ) → (judged_by Accepted s area room).verdict ≡ Accepted → Stood s area room (judged_by Accepted s area room)
unfolding standing_on
stood_on s area room e = go (opening s area) refl
  where
    go : (o : Opening) → opening s area ≡ o → Stood s area room (judged_by Accepted s area room)
    go (found.Clean l) q =
        let v : first_of Accepted ((ltb (season_days s) l.day, 11, 0) ∷ (ltb room (days_left s l.day), 15, 0) ∷ []) ≡ Accepted = rw q at e in
        let a = accepted_fails (ltb (season_days s) l.day) 11 0 ((ltb room (days_left s l.day), 15, 0) ∷ []) v in
        record {
          ledger = l;
          clean = q;
          day_open = ltb-false (season_days s) l.day a.0;
          enough = ltb-false room (days_left s l.day) (accepted_fails (ltb room (days_left s l.day)) 15 0 [] a.1).0;
          same_day = rw q;
          same_depletion = rw q;
          same_waiting = rw q;
        }
    go (found.Torn l place) q = absurd (refused_accepted 10 place (rw q at e))
    go (found.Refused number place) q = absurd (refused_accepted number place (rw q at e))

module _ (c : Climate) (sheet area : List ℕ) (room : ℕ) (e : (judged c sheet area room).verdict ≡ Accepted) where
  -- Its sheet is accepted.
  pub sheet_accepted : (block_with c sheet).verdict ≡ Accepted
  unfolding judged
  sheet_accepted = go (block_with c sheet).verdict refl
    where
      go : (v : Verdict) → (block_with c sheet).verdict ≡ v → v ≡ Accepted
      go Accepted q = refl
      go (Refused number value) q = absurd (refused_accepted number value (rw q at e))

  pub block_stood : Stood (block_with c sheet).season area room (judged c sheet area room)
  unfolding judged
  block_stood = let q = sheet_accepted in rw q (stood_on (block_with c sheet).season area room (rw q at e))

-- ---- all of them

-- Each starts as the first does.
eqb_both : (a b c d : Bool) → not (a && (b && (c && d))) ≡ false → (a ≡ true) × (b ≡ true) × (c ≡ true) × (d ≡ true)
eqb_both true true true true e = (refl, refl, refl, refl)
eqb_both true true true false e = absurd (true≢false e)
eqb_both true true false d e = absurd (true≢false e)
eqb_both true false c d e = absurd (true≢false e)
eqb_both false b c d e = absurd (true≢false e)

pub same_day : (a b : Start) → other_start a b ≡ false → a.day ≡ b.day
same_day a b e = eqb-true a.day b.day (eqb_both (eqb a.month b.month) (eqb a.first b.first) (eqb a.february b.february) (eqb a.day b.day) e).3

pub starts_same : (f : ℕ → Judged) (k n : ℕ) → k < n → starts_differ f n ≡ false → (f 0).start.day ≡ (f k).start.day
unfolding starts_differ
starts_same f k zero h e = absurd (omega arith)
starts_same f k (suc n) h e =
    by_order k n
    (λ i. let z : k ≡ n = omega arith in rw z (same_day (f 0).start (f n).start (or_right (starts_differ f n) (other_start (f 0).start (f n).start) e)))
    (λ i. starts_same f k n i (or_left (starts_differ f n) (other_start (f 0).start (f n).start) e))

module _ (b : Blocks) (read : ReadClimate b.climate) (n : ℕ) (v : blocks_verdict (judged_at b) n ≡ Accepted) where
  accepted_at : (k : ℕ) → k < n → (judged_at b k).verdict ≡ Accepted
  accepted_at k h = all_accepted (judged_at b) k n h (or_accepted (first_refused (judged_at b) n) (starts_differ (judged_at b) n) 23 0 v).0

  pub stood_at : (k : ℕ) → k < n
      → Stood (block_with b.climate (part_of b.lengths 0 b.sheets k)).season (part_of b.lengths 1 b.areas k) (length_of b.lengths 2 k) (judged_at b k)
  stood_at k h = block_stood b.climate (part_of b.lengths 0 b.sheets k) (part_of b.lengths 1 b.areas k) (length_of b.lengths 2 k) (accepted_at k h)

  pub sheet_at : (k : ℕ) → k < n → (block_with b.climate (part_of b.lengths 0 b.sheets k)).verdict ≡ Accepted
  sheet_at k h = sheet_accepted b.climate (part_of b.lengths 0 b.sheets k) (part_of b.lengths 1 b.areas k) (length_of b.lengths 2 k) (accepted_at k h)

  pub season_at : (k : ℕ) → k < n → AcceptedSeason (block_with b.climate (part_of b.lengths 0 b.sheets k)).season
  season_at k h =
      read_accepted b.climate (part_of b.lengths 0 b.sheets k) (part_of b.lengths 1 b.areas k) (length_of b.lengths 2 k)
      (block_with b.climate (part_of b.lengths 0 b.sheets k)) refl read
      (sheet_at k h)

  pub day_at : (k : ℕ) → k < n → (judged_at b 0).start.day ≡ (judged_at b k).start.day
  day_at k h = starts_same (judged_at b) k n h (or_accepted (first_refused (judged_at b) n) (starts_differ (judged_at b) n) 23 0 v).1

  -- All of them can be planned.
  pub ready_all : (limit : ℕ) → AllReady (bank_of limit b) b.lengths n
  ready_all limit k h =
      let t = stood_at k h in
      let a = season_at k h in
      let w = clean_within _ _ a _ t.ledger refl t.clean in
      let d : (judged_at b 0).start.day ≡ t.ledger.day = day_at k h ∙ t.same_day in
      record {
        valid = a.valid;
        day = rw d (record { from = w.from; to = t.day_open });
        small = rw t.same_depletion (omega (arith, w.depletion, total_le _ t.ledger.day a.valid.ranges));
        room = rw d t.enough;
      }

-- ---- what was kept is what was judged

module _ (limit day : ℕ) (season : ℕ → Season) (D D' W W' : ℕ → ℕ) (lengths answers depths : List ℕ) where
  abbrev old : Bank
  old = record { limit = limit; day = day; season = season; depletion = D; waiting = W }

  abbrev new : Bank
  new = record { limit = limit; day = day; season = season; depletion = D'; waiting = W' }

  same_progress : (k : ℕ) → ((j : ℕ) → j < k → D j ≡ D' j) → ((j : ℕ) → j < k → W j ≡ W' j) → progress old lengths answers depths k ≡ progress new lengths answers depths k
  unfolding progress
  same_progress zero d w = refl
  same_progress (suc k) d w =
      ap (onward old lengths depths k) (same_progress k (λ j h. d j (omega arith)) (λ j h. w j (omega arith)))
      ∙ rw (d k (omega arith), w k (omega arith))

module _ {b : Blocks} {n day : ℕ} {kept : List Kept} (w : Noted b n day kept) (limit : ℕ) where
  pub noted_ready : AllReady (bank_of limit b) b.lengths n → AllReady (bank_in b limit day kept) b.lengths n
  noted_ready r k h =
      let a = r k h in
      record { valid = a.valid; day = rw w.first_day a.day; small = rw (w.each k h) a.small; room = rw w.first_day a.room }

  pub noted_progress : (answers depths : List ℕ) → progress (bank_in b limit day kept) b.lengths answers depths n ≡ progress (bank_of limit b) b.lengths answers depths n
  noted_progress answers depths =
      rw w.first_day (same_progress limit _ _ _ _ _ _ b.lengths answers depths n (λ k h. ap (λ (x : Kept). x.depletion) (w.each k h)) (λ k h. ap (λ (x : Kept). x.waiting) (w.each k h)))

-- ---- the bank's answer

module _ (b : Blocks) (n limit : ℕ) (depths answers : List ℕ) where
  pub banked_refused : {number value : ℕ} → blocks_verdict (judged_at b) n ≡ Refused number value → (Refused number value, answers, depths) ≡ banked_on b n limit depths answers
  banked_refused e = rw e

  pub banked_planned : {day : ℕ} {kept : List Kept} {as' ds : List ℕ} → blocks_verdict (judged_at b) n ≡ Accepted → Noted b n day kept
      → (as', ds) ≡ left (progress (bank_in b limit day kept) b.lengths answers depths n)
      → (Accepted, as', ds) ≡ banked_on b n limit depths answers
  banked_planned {as' = as'} {ds = ds} e w i =
      let same : (as', ds) ≡ left (progress (bank_of limit b) b.lengths answers depths n) = i ∙ ap left (noted_progress w limit answers depths) in
      rw e (ap (λ (x : List ℕ × List ℕ). (Accepted, x.0, x.1)) same)

-- Past the bank's own refusal and the climate's.
module _ (climate : List ℕ) (blocks limit : ℕ) (lengths sheets areas depths answers : List ℕ) where
  pub wrong_refused : {t : Bool} {number value : ℕ} → t ≡ bank_wrong blocks limit lengths (length sheets) (length areas) (length depths)
      → Refused number value ≡ or_refused Accepted t 22 0 → (Refused number value, answers, depths) ≡ banked climate blocks limit lengths sheets areas depths answers
  unfolding banked
  wrong_refused i e = rw (← i, ← e)

  pub bank_wrong_lem : bank_wrong blocks limit lengths (length sheets) (length areas) (length depths) ≡ true → (Refused 22 0, answers, depths) ≡ banked climate blocks limit lengths sheets areas depths answers
  unfolding banked or_refused
  bank_wrong_lem e = rw e

  module _ (e : bank_wrong blocks limit lengths (length sheets) (length areas) (length depths) ≡ false) (c : Climate) (is : c ≡ climate_of climate) where
    pub climate_refused : {number value : ℕ} → c.verdict ≡ Refused number value → (Refused number value, answers, depths) ≡ banked climate blocks limit lengths sheets areas depths answers
    unfolding banked or_refused
    climate_refused v = rw (e, ← is, v)

    pub climate_accepted : c.verdict ≡ Accepted → banked_on (blocks_of c lengths sheets areas) blocks limit depths answers ≡ banked climate blocks limit lengths sheets areas depths answers
    unfolding banked or_refused
    climate_accepted v = rw (e, ← is, v)

-- What refusal 22 leaves.
pub record Laid (blocks limit : ℕ) (lengths : List ℕ) (sheets areas depths : ℕ) : Type 0 where
  pub some : 1 ≤ blocks
  pub counted : Counted blocks lengths
  pub limit_some : 1 ≤ limit
  pub sheets_fit : start_of lengths 0 blocks ≤ sheets
  pub areas_fit : start_of lengths 1 blocks ≤ areas
  pub depths_fit : start_of lengths 2 blocks ≤ depths

pub laid : (blocks limit : ℕ) (lengths : List ℕ) (sheets areas depths : ℕ) → bank_wrong blocks limit lengths sheets areas depths ≡ false → Laid blocks limit lengths sheets areas depths
unfolding bank_wrong
laid blocks limit lengths sheets areas depths e =
    let a = or_right (outside blocks) _ e in
    let b = or_right (outside limit) _ a in
    let c = or_right (ltb (length lengths) (3 * blocks)) _ b in
    let d = or_right (ltb sheets (start_of lengths 0 blocks)) _ c in
    let n = or_left (outside blocks) _ e in
    record {
      some = ltb-false blocks 1 (or_left (ltb blocks 1) (ltb 40 blocks) n);
      counted = record { few = ltb-false 40 blocks (or_right (ltb blocks 1) (ltb 40 blocks) n); three = ltb-false (length lengths) (3 * blocks) (or_left (ltb (length lengths) (3 * blocks)) _ b) };
      limit_some = ltb-false limit 1 (or_left (ltb limit 1) (ltb 40 limit) (or_left (outside limit) _ a));
      sheets_fit = ltb-false sheets (start_of lengths 0 blocks) (or_left (ltb sheets (start_of lengths 0 blocks)) _ c);
      areas_fit = ltb-false areas (start_of lengths 1 blocks) (or_left (ltb areas (start_of lengths 1 blocks)) _ d);
      depths_fit = ltb-false depths (start_of lengths 2 blocks) (or_right (ltb areas (start_of lengths 1 blocks)) _ d);
    }
