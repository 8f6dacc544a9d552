-- Judging: one block by its sheet and its journal, then all of them from the first on.
use Prim.Native.Nat.{ℕ, zero, suc, ◌+◌, ◌-◌, ◌≤◌, ◌<◌}
use mathlib.Core.Path.{◌≡◌, refl, sym, ap, ◌∙◌}
use mathlib.Core.Bool.{Bool, false, ◌||◌}
use mathlib.Core.List.{List}
use native.Mathlib.Omega.{arith}
use native.Mathlib.Numerals.{add-one}
use lib.Dec.{ltb}
use lib.ListN.{length, get_or, take, drop, set, length-set}
use lib.Seq.{get_or-set_same, get_or-set_other}
use borrow.Author.Tests.{eq-eqb}
use Rattle.season.proofs.Whole.{by_order}
use Rattle.std.specs.Prelude.{Option, Some, None, unwrap_or}
use Rattle.std.specs.Option.{IsSome}
use Rattle.verdict.specs.Refusals.{Verdict, Accepted, Refused, or_refused}
use Rattle.verdict.proofs.First.{refused_accepted}
use Rattle.season.specs.declared.Season.{Season}
use Rattle.season.specs.Sheet.{season_days}
use Rattle.season.specs.Day.{AcceptedSeason}
use Rattle.sheet.specs.Sheets.{Climate, Sheet, block_with, sheets_of}
use Rattle.sheet.proofs.Accepted.{accepted_season}
use Rattle.journal.specs.declared.Ledger.{Ledger}
use Rattle.journal.specs.Opening.{Opening, opening}
use Rattle.journal.specs.Opening as found
use Rattle.journal.specs.Entries.{waiting}
use Rattle.bank.specs.declared.Start.{Start}
use Rattle.bank.specs.declared.Kept.{Kept}
use Rattle.bank.specs.Blocks.{length_of, start_of, part_of}
use Rattle.bank.specs.Judging.{Stand, Judged, no_standing, standing_on, judged_in, not_judged, judged, only_judged, Blocks, judged_at, first_refused, other_start, starts_differ, blocks_verdict, ReadClimate}
use Rattle.bank.specs.Carried.{kept_of, nothing, Noted}
use Rattle.bank.proofs.Parts.{start_next, part_within}

-- ---- one block

-- By what the opening found.
module _ (s : Season) (area : List ℕ) (room : ℕ) (o : Opening) (is : o ≡ opening s area) where
  pub stand_clean : (l : Ledger) (n : ℕ) → o ≡ found.Clean l → n ≡ season_days s
      → ◌≡◌ {A = Stand}
      (record { verdict = or_refused (or_refused Accepted (ltb n l.day) 11 0) (ltb room (n + 1 - l.day)) 15 0; day = l.day; depletion = l.depletion; waiting = waiting l })
      (standing_on s room (opening s area))
  unfolding standing_on
  stand_clean l n c e = rw (sym is ∙ c, e)

  pub stand_torn : (l : Ledger) (place : ℕ) → o ≡ found.Torn l place → no_standing 10 place ≡ standing_on s room (opening s area)
  unfolding standing_on
  stand_torn l place c = rw (sym is ∙ c)

  pub stand_refused : (number place : ℕ) → o ≡ found.Refused number place → no_standing number place ≡ standing_on s room (opening s area)
  unfolding standing_on
  stand_refused number place c = rw (sym is ∙ c)

-- By what reading the sheet answered.
module _ (c : Climate) (sheet area : List ℕ) (room : ℕ) (r : Sheet) (is : r ≡ block_with c sheet) where
  pub judged_refused : {number value : ℕ} → r.verdict ≡ Refused number value → not_judged number value ≡ only_judged (judged c sheet area room)
  unfolding judged
  judged_refused e = rw (← is, e)

  pub judged_accepted : r.verdict ≡ Accepted → judged_in r.season (standing_on r.season room (opening r.season area)) ≡ judged c sheet area room
  unfolding judged
  judged_accepted e = rw (← is, e)

  -- By what its journal says.
  module _ {t : Stand} (e : r.verdict ≡ Accepted) (q : t ≡ standing_on r.season room (opening r.season area)) where
    stood_is : judged_in r.season t ≡ judged c sheet area room
    stood_is = ap (judged_in r.season) q ∙ judged_accepted e

    pub judged_fit : t.verdict ≡ Accepted → judged_in r.season (record { verdict = Accepted; day = t.day; depletion = t.depletion; waiting = t.waiting }) ≡ only_judged (judged c sheet area room)
    judged_fit v = rw (← stood_is, v)

    pub judged_unfit : {number value : ℕ} → t.verdict ≡ Refused number value → not_judged number value ≡ only_judged (judged c sheet area room)
    judged_unfit v = rw (← stood_is, v)

  pub read_accepted : ReadClimate c → r.verdict ≡ Accepted → AcceptedSeason r.season
  unfolding sheets_of
  read_accepted w e =
      let same : r ≡ sheets_of w.0 sheet = is ∙ ap (λ (x : Climate). block_with x sheet) w.1 in
      rw same (accepted_season w.0 sheet (ap (λ (x : Sheet). x.verdict) (sym same) ∙ e))

-- What is kept of a judged block has its verdict; of an accepted one all is kept.
module _ (j : Judged) where
  pub only_verdict : (only_judged j).verdict ≡ j.verdict
  only_verdict = go j.verdict refl
    where
      go : (v : Verdict) → j.verdict ≡ v → (only_judged j).verdict ≡ j.verdict
      go Accepted e = rw e
      go (Refused number value) e = rw e

  pub only_accepted : {q : Judged} → q ≡ only_judged j → q.verdict ≡ Accepted → q ≡ j
  only_accepted e v = let z : j.verdict ≡ Accepted = sym only_verdict ∙ ap (λ (x : Judged). x.verdict) (sym e) ∙ v in e ∙ rw z

-- ---- all of them

same_start : (a : Start) → other_start a a ≡ false
same_start a = rw (eq-eqb a.month a.month refl, eq-eqb a.first a.first refl, eq-eqb a.february a.february refl, eq-eqb a.day a.day refl)

module _ (f : ℕ → Judged) where
  first_next : (k : ℕ) → first_refused f k ≡ Accepted → first_refused f (k + 1) ≡ (f k).verdict
  unfolding first_refused
  first_next k e = rw (add-one k, e)

  refused_stays : (k n : ℕ) (number value : ℕ) → k ≤ n → first_refused f k ≡ Refused number value → first_refused f n ≡ Refused number value
  unfolding first_refused
  refused_stays k zero number value h e = let z : k ≡ 0 = omega arith in rw z at e
  refused_stays k (suc n) number value h e =
      by_order k (suc n)
      (λ i. let z : k ≡ suc n = omega arith in rw z at e)
      (λ i. rw (refused_stays k n number value (omega arith) e))

  -- Each block of an accepted bank is accepted, and starts as the first does.
  pub all_accepted : (k n : ℕ) → k < n → first_refused f n ≡ Accepted → (f k).verdict ≡ Accepted
  unfolding first_refused
  all_accepted k zero h e = absurd (omega arith)
  all_accepted k (suc n) h e = go (λ i q. all_accepted k n i q) (first_refused f n) refl
    where
      go : (k < n → first_refused f n ≡ Accepted → (f k).verdict ≡ Accepted) → (v : Verdict) → first_refused f n ≡ v → (f k).verdict ≡ Accepted
      go rest (Refused number value) q = absurd (refused_accepted number value (sym (refused_stays n (suc n) number value (omega arith) q) ∙ e))
      go rest Accepted q =
          by_order k n
          (λ i. let z : k ≡ n = omega arith in rw z (rw q at e))
          (λ i. rest i q)

  starts_next : (k : ℕ) → starts_differ f (k + 1) ≡ (starts_differ f k || other_start (f 0).start (f k).start)
  unfolding starts_differ
  starts_next k = rw (add-one k)

-- The first block's start, where one is judged.
abbrev start_of_first : (ℕ → Judged) → ℕ → Option Start
start_of_first f zero = None
start_of_first f (suc k) = Some (f 0).start

-- Block k is held against it, the first one against itself.
pub held_against : (f : ℕ → Judged) (k : ℕ) → unwrap_or (start_of_first f k) (f k).start ≡ (f 0).start
held_against f zero = refl
held_against f (suc k) = refl

-- The loop has come to block k: those before it are accepted.
pub record Judging (b : Blocks) (n : ℕ) (old kept : List Kept) (first : Option Start) (differ : Bool) (sheet_at area-at k : ℕ) : Type 0 where
  pub few : k ≤ n
  pub sheet : sheet_at ≡ start_of b.lengths 0 k
  pub area : area-at ≡ start_of b.lengths 1 k
  pub accepted : first_refused (judged_at b) k ≡ Accepted
  pub start : first ≡ start_of_first (judged_at b) k
  pub differs : differ ≡ starts_differ (judged_at b) k
  pub each : (j : ℕ) → j < k → get_or kept j nothing ≡ kept_of (judged_at b j)
  pub size : length kept ≡ length old

pub judging_start : (b : Blocks) (n : ℕ) (old : List Kept) → Judging b n old old None false 0 0 0
unfolding start_of first_refused starts_differ
judging_start b n old = record { few = omega arith; sheet = refl; area = refl; accepted = refl; start = refl; differs = refl; each = λ j h. absurd (omega arith); size = refl }

-- What stands between two places is the block's part.
pub part_is : (lengths : List ℕ) (column k : ℕ) (buffer : List ℕ) {at n : ℕ} → at ≡ start_of lengths column k → n ≡ length_of lengths column k
    → take (at + n - at) (drop at buffer) ≡ part_of lengths column buffer k
part_is lengths column k buffer {at} {n} e i = let z : at + n - at ≡ n = omega arith in rw (z, e, i)

-- One block more is kept.
kept_next : (f : ℕ → Kept) (xs : List Kept) (k : ℕ) (x : Kept) → k < length xs → ((j : ℕ) → j < k → get_or xs j nothing ≡ f j) → x ≡ f k → (j : ℕ) → j < k + 1 → get_or (set xs k x) j nothing ≡ f j
kept_next f xs k x h old e j i =
    by_order j k
    (λ g. let z : j ≡ k = omega arith in rw z (get_or-set_same xs k x nothing h ∙ e))
    (λ g. get_or-set_other xs k j x nothing (λ q. omega arith) ∙ old j g)

module _ {b : Blocks} {n : ℕ} {old kept : List Kept} {first : Option Start} {differ : Bool} {sheet_at area-at k : ℕ}
    (w : Judging b n old kept first differ sheet_at area-at k) where
  pub sheet_within : {size : ℕ} → k < n → start_of b.lengths 0 n ≤ size → sheet_at + length_of b.lengths 0 k ≤ size
  sheet_within h i = rw w.sheet (part_within b.lengths 0 h i)

  pub area_within : {size : ℕ} → k < n → start_of b.lengths 1 n ≤ size → area-at + length_of b.lengths 1 k ≤ size
  area_within h i = rw w.area (part_within b.lengths 1 h i)

  pub kept_room : n ≤ length old → k < n → k < length kept
  kept_room h i = omega (arith, w.size)

  -- The block that is judged is the k-th.
  pub block_at : {j : Judged} {m i room : ℕ} → j ≡ only_judged (judged b.climate (take (sheet_at + m - sheet_at) (drop sheet_at b.sheets)) (take (area-at + i - area-at) (drop area-at b.areas)) room)
      → m ≡ length_of b.lengths 0 k → i ≡ length_of b.lengths 1 k → room ≡ length_of b.lengths 2 k → j ≡ only_judged (judged_at b k)
  block_at e m i r = e ∙ rw (part_is b.lengths 0 k b.sheets w.sheet m, part_is b.lengths 1 k b.areas w.area i, r)

  module _ {j : Judged} (is : j ≡ judged_at b k) where
    verdict_next : first_refused (judged_at b) (k + 1) ≡ j.verdict
    verdict_next = first_next (judged_at b) k w.accepted ∙ ap (λ (x : Judged). x.verdict) (sym is)

    -- Its refusal is the bank's.
    pub judging_refused : {number value : ℕ} → k < n → j.verdict ≡ Refused number value → Refused number value ≡ blocks_verdict (judged_at b) n
    unfolding or_refused
    judging_refused {number} {value} h e = rw (refused_stays (judged_at b) (k + 1) n number value (omega arith) (verdict_next ∙ e))

    -- It is held against the first.
    pub held_next : unwrap_or first j.start ≡ (judged_at b 0).start
    held_next = rw (w.start, is) (held_against (judged_at b) k)

    pub judging_next : {start : Start} {other : Bool} {sheet-end area-end : ℕ} {ks : List Kept} {x : Kept} → n ≤ length old → k < n → j.verdict ≡ Accepted
        → sheet-end ≡ sheet_at + length_of b.lengths 0 k → area-end ≡ area-at + length_of b.lengths 1 k
        → x ≡ kept_of j → ks ≡ set kept k x → start ≡ unwrap_or first j.start → other ≡ other_start start j.start
        → Judging b n old ks (Some start) (differ || other) sheet-end area-end (k + 1)
    judging_next {start} {x = x} r h v s a y d e g =
        let f : start ≡ (judged_at b 0).start = e ∙ held_next in
        record {
          few = omega arith;
          sheet = s ∙ ap (λ i. i + length_of b.lengths 0 k) w.sheet ∙ sym (start_next b.lengths 0 k);
          area = a ∙ ap (λ i. i + length_of b.lengths 1 k) w.area ∙ sym (start_next b.lengths 1 k);
          accepted = verdict_next ∙ v;
          start = rw (add-one k, f);
          differs = rw (starts_next (judged_at b) k, ← w.differs, g, f, is);
          each = rw d (kept_next (λ i. kept_of (judged_at b i)) kept k x (kept_room r h) w.each (y ∙ ap kept_of is));
          size = rw d (length-set kept k x ∙ w.size);
        }

  -- All blocks are judged.
  pub judging_end : {v : Verdict} → n ≤ k → v ≡ or_refused Accepted differ 23 0 → v ≡ blocks_verdict (judged_at b) n
  judging_end h e = let z : n ≡ k = omega (arith, w.few) in e ∙ rw (z, w.accepted, w.differs)

  judged_some : 1 ≤ n → n ≤ k → first ≡ Some (judged_at b 0).start
  judged_some l h = w.start ∙ go k (omega arith)
    where
      go : (i : ℕ) → 1 ≤ i → start_of_first (judged_at b) i ≡ Some (judged_at b 0).start
      go zero m = absurd (omega arith)
      go (suc i) m = refl

  pub judging_some : 1 ≤ n → n ≤ k → IsSome first
  judging_some l h = rw (judged_some l h)

  pub judging_noted : {start : Start} → 1 ≤ n → n ≤ k → first ≡ Some start → Noted b n start.day kept
  judging_noted {start} l h e =
      let z : start ≡ (judged_at b 0).start = let q : Some start ≡ Some (judged_at b 0).start = sym e ∙ judged_some l h in cc in
      record { first_day = ap (λ (t : Start). t.day) z; each = λ j i. w.each j (omega arith) }
