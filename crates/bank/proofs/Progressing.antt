-- The blocks planned one after another: what the first k leave.
use Prim.Native.Nat.{ℕ, zero, suc, ◌+◌, ◌-◌, ◌*◌, ◌≤◌, ◌<◌}
use mathlib.Core.Path.{◌≡◌, refl, sym, subst, ap, ap₂, ◌∙◌}
use mathlib.Core.Bool.{Bool, true, false, cond}
use mathlib.Core.List.{List, ◌++◌}
use native.Mathlib.Omega.{arith}
use native.Mathlib.Numerals.{add-one}
use lib.Dec.{ltb}
use borrow.Author.Tests.{lt-ltb, le-ltb}
use Rattle.season.proofs.Whole.{by_order}
use lib.ListN.{length, get_or, take, drop, replicate, length-drop, length-replicate}
use lib.Seq.{sets, length-sets, length-take-le, take-length}
use Rattle.std.specs.Prelude.{Result, Ok, Err}
use Rattle.std.specs.Result.{IsOk}
use Rattle.verdict.specs.declared.Refusal.{Refusal}
use Rattle.season.specs.Sheet.{Valid, DayOf, longest_season}
use Rattle.season.specs.declared.Season.{Season}
use Rattle.sheet.specs.Sheets.{Climate, Sheet, block_with, season_in}
use Rattle.planner.specs.Answer.{Planned, answer_to}
use Rattle.planner.specs.Choices.{Outlook}
use Rattle.planner.specs.Plan.{plan}
use Rattle.planner.specs.Outlook.{outlook, days_left}
use Rattle.planner.specs.Bank.{watering, leaving, given}
use Rattle.planner.proofs.Bank.{watering_at_most, leaving_none}
use Rattle.bank.specs.Blocks.{length_of, start_of, part_of}
use Rattle.bank.specs.Banks.{Bank, plan_at, reply_at, five, Progress, progress, add_used}
use Rattle.bank.specs.Carried.{AllReady, left, plan_left, counts_seen, Counts, SmallDay}
use Rattle.bank.proofs.Parts.{start_next, part_within}
use Rattle.bank.proofs.Uses.{added_length, Counting, counting_next, leaving_same}
use Rattle.bank.proofs.Places.{drop_sets, part_back}
use Rattle.bank.proofs.Judges.{part_is}
use Rattle.bank.proofs.Replies.{given_size, plan-length, plan_day}

zeros : (n j : ℕ) → get_or (replicate {A = ℕ} n 0) j 0 ≡ 0
zeros zero j = refl
zeros (suc n) zero = refl
zeros (suc n) (suc j) = zeros n j

-- At most all counts are looked at.
seen_few : (k limit size : ℕ) → size ≡ longest_season → counts_seen k limit size ≤ longest_season
seen_few k limit size e = by (ltb k limit)
  where
    by : (t : Bool) → cond t 0 size ≤ longest_season
    by true = omega arith
    by false = omega arith

-- The season that is read again is the block's.
pub season_is : (climate : Climate) (lengths sheets : List ℕ) (k : ℕ) {r : Sheet} {at n : ℕ} → r ≡ block_with climate (take (at + n - at) (drop at sheets)) → at ≡ start_of lengths 0 k
    → n ≡ length_of lengths 0 k → r.season ≡ (block_with climate (part_of lengths 0 sheets k)).season
season_is climate lengths sheets k e i j = ap (λ (x : Sheet). x.season) e ∙ ap (λ (l : List ℕ). (block_with climate l).season) (part_is lengths 0 k sheets i j)

-- The season of a refused sheet is not valid: a block that can be planned has a sheet that is read.
read_ok : (r : Result Season Refusal) → Valid (season_in r).season → IsOk r
read_ok (Ok s) v = refl
read_ok (Err why) v = absurd (let i : 1 ≤ 0 = v.ranges.month.low≤ in omega (arith, i))

pub season_read : (climate : Climate) (lengths sheets : List ℕ) (k : ℕ) (r : Result Season Refusal) {at n : ℕ} → season_in r ≡ block_with climate (take (at + n - at) (drop at sheets)) → at ≡ start_of lengths 0 k
    → n ≡ length_of lengths 0 k → Valid (block_with climate (part_of lengths 0 sheets k)).season → IsOk r
season_read climate lengths sheets k r e i j v = read_ok r (subst Valid (sym (season_is climate lengths sheets k e i j)) v)

module _ (b : Bank) (lengths answers depths : List ℕ) where
  abbrev pub up_to : ℕ → Progress
  up_to k = progress b lengths answers depths k

  pub plans_length : (k : ℕ) → length (up_to k).plans ≡ k
  unfolding progress
  plans_length zero = refl
  plans_length (suc k) = ap suc (plans_length k)

  pub depths_length : (k : ℕ) → length (up_to k).depths ≡ length depths
  unfolding progress
  depths_length zero = refl
  depths_length (suc k) = length-sets (up_to k).depths (start_of lengths 2 k) (reply_at b (up_to k).plans k (part_of lengths 2 depths k)).1 ∙ depths_length k

  module _ (n : ℕ) (room : start_of lengths 2 n ≤ length depths) (ready : AllReady b lengths n) where
    pub part_size : (k : ℕ) → k < n → length (part_of lengths 2 depths k) ≡ length_of lengths 2 k
    part_size k h =
        let i = part_within lengths 2 h room in
        length-take-le (length_of lengths 2 k) (drop (start_of lengths 2 k) depths) (omega (arith, length-drop (start_of lengths 2 k) depths))

    pub reply_size : (k : ℕ) → k < n → length (reply_at b (up_to k).plans k (part_of lengths 2 depths k)).1 ≡ length_of lengths 2 k
    reply_size k h =
        plan-length (b.season k).efficiency (part_of lengths 2 depths k) _ _ _ _ (rw (part_size k h) (ready k h).room) refl ∙ part_size k h

    -- Behind the parts of the first k the depths are as they were.
    pub depths_behind : (k i : ℕ) → k ≤ n → start_of lengths 2 k ≤ i → drop i (up_to k).depths ≡ drop i depths
    unfolding progress start_of
    depths_behind zero i h l = refl
    depths_behind (suc k) i h l =
        drop_sets (reply_at b (up_to k).plans k (part_of lengths 2 depths k)).1 (up_to k).depths (start_of lengths 2 k) i (rw (reply_size k (omega arith)) l)
        ∙ depths_behind k i (omega arith) (omega arith)

  -- The loop has come to block k.
  pub record Going (n : ℕ) (used now-depths now-answers : List ℕ) (sheet_at at k : ℕ) : Type 0 where
    pub few : k ≤ n
    pub sheet : sheet_at ≡ start_of lengths 0 k
    pub part : at ≡ start_of lengths 2 k
    pub counting : Counting used (up_to k).plans
    pub size : length used ≡ longest_season
    pub same_answers : now-answers ≡ (up_to k).answers
    pub same_depths : now-depths ≡ (up_to k).depths

  pub going_start : (n : ℕ) {used : List ℕ} → used ≡ replicate longest_season 0 → Going n used depths answers 0 0 0
  unfolding progress start_of watering
  going_start n e =
      record {
        few = omega arith;
        sheet = refl;
        part = refl;
        counting = λ j. rw e (zeros longest_season j);
        size = rw e (length-replicate {A = ℕ} longest_season 0);
        same_answers = refl;
        same_depths = refl;
      }

module _ {b : Bank} {lengths answers depths : List ℕ} {n : ℕ} {used now-depths now-answers : List ℕ} {sheet_at at k : ℕ}
    (w : Going b lengths answers depths n used now-depths now-answers sheet_at at k) where
  pub going_sheet : {size : ℕ} → k < n → start_of lengths 0 n ≤ size → sheet_at + length_of lengths 0 k ≤ size
  going_sheet h i = rw w.sheet (part_within lengths 0 h i)

  pub going_part : k < n → start_of lengths 2 n ≤ length depths → at + length_of lengths 2 k ≤ length now-depths
  going_part h i = rw (w.part, w.same_depths, depths_length b lengths answers depths k) (part_within lengths 2 h i)

  pub going_length : length now-depths ≡ length depths
  going_length = rw w.same_depths (depths_length b lengths answers depths k)

  going_counts : n ≤ 40 → Counts used
  going_counts h = record { size = w.size; few = λ j. omega (arith, w.counting j, watering_at_most (up_to b lengths answers depths k).plans j, plans_length b lengths answers depths k, w.few) }

  module _ (fits : start_of lengths 2 n ≤ length depths) (ready : AllReady b lengths n) (h : k < n) {i : ℕ} (e : i ≡ length_of lengths 2 k) where
    -- The part that is lent is the block's, and not yet written.
    part_now : take (at + i - at) (drop at now-depths) ≡ part_of lengths 2 depths k
    part_now =
        part_is lengths 2 k now-depths w.part e
        ∙ ap (take (length_of lengths 2 k)) (rw w.same_depths (depths_behind b lengths answers depths n fits ready k (start_of lengths 2 k) w.few (omega arith)))

    pub going_ready : {s : Season} {seen : ℕ} → n ≤ 40 → s ≡ b.season k → seen ≡ counts_seen k b.limit (length used)
        → Valid s × (DayOf s b.day × ((b.depletion k ≤ 120000) × ((days_left s b.day ≤ length (take (at + i - at) (drop at now-depths))) × (Counts used × (seen ≤ longest_season)))))
    going_ready m q z =
        let r = ready k h in
        rw (q, part_now, part_size b lengths answers depths n fits ready k h) (r.valid, (r.day, (r.small, (r.room, (going_counts m, rw z (seen_few k b.limit (length used) w.size))))))

    -- By the counts seen it is the plan behind those given before.
    outlook_now : (o : Outlook) (seen : ℕ) → seen ≡ counts_seen k b.limit (length used)
        → leaving b.limit (λ j. get_or (take seen used) (j - b.day) 0) o ≡ leaving b.limit (λ j. watering (up_to b lengths answers depths k).plans (j - b.day)) o
    outlook_now o seen z =
        by_order k b.limit
        (λ l. let all : seen ≡ length used = z ∙ rw (le-ltb k b.limit l) in
        rw (all, take-length used) (leaving_same b.limit o (λ j. w.counting (j - b.day))))
        (λ l. let none : seen ≡ 0 = z ∙ rw (lt-ltb k b.limit l) in
        rw none (leaving_none b.limit (λ j. 0) o (λ j. omega arith)
        ∙ sym (leaving_none b.limit (λ j. watering (up_to b lengths answers depths k).plans (j - b.day)) o (λ j. omega (arith, watering_at_most (up_to b lengths answers depths k).plans (j - b.day), plans_length b lengths answers depths k)))))

    plan_now : {seen : ℕ} → seen ≡ counts_seen k b.limit (length used)
        → plan_left (b.season k) b.day (b.depletion k) (b.waiting k) (take seen used) b.limit ≡ plan_at b (up_to b lengths answers depths k).plans k
    plan_now {seen} z = ap (λ o. plan o (days_left (b.season k) b.day) b.day (b.depletion k)) (outlook_now (outlook (b.season k) b.day (b.waiting k)) seen z)

    module _ {s : Season} (q : s ≡ b.season k) {seen : ℕ} (z : seen ≡ counts_seen k b.limit (length used)) {r : Planned} {m next : List ℕ}
        (is : ((r, m) ≡ answer_to s.efficiency (take (at + i - at) (drop at now-depths)) (plan_left s b.day (b.depletion k) (b.waiting k) (take seen used) b.limit))
        × (next ≡ add_used used (given (plan_left s b.day (b.depletion k) (b.waiting k) (take seen used) b.limit)))) where
      replied : (r, m) ≡ reply_at b (up_to b lengths answers depths k).plans k (part_of lengths 2 depths k)
      replied = rw (q, part_now, plan_now z) at is.0

      pub going_day : SmallDay r
      going_day = let d = ready k h in plan_day s.efficiency _ s _ b.day (b.depletion k) (rw q d.valid) (rw q d.day) is.0

      pub reply_length : length m ≡ i
      reply_length = ap (λ (x : Planned × List ℕ). length x.1) replied ∙ reply_size b lengths answers depths n fits ready k h ∙ sym e

      pub going_next : {sheet-end : ℕ} {ds ns : List ℕ} → sheet-end ≡ sheet_at + length_of lengths 0 k → ds ≡ take at now-depths ++ (m ++ drop (at + i - at) (drop at now-depths)) → ns ≡ sets now-answers (5 * k) (five r)
          → Going b lengths answers depths n next ds ns sheet-end (at + i) (k + 1)
      unfolding progress
      going_next f g a =
          record {
            few = omega arith;
            sheet = f ∙ ap (λ j. j + length_of lengths 0 k) w.sheet ∙ sym (start_next lengths 0 k);
            part = rw (e, w.part) (sym (start_next lengths 2 k));
            counting = rw (add-one k) (rw (rw (q, plan_now z) at is.1) (counting_next used (up_to b lengths answers depths k).plans (given (plan_at b (up_to b lengths answers depths k).plans k)) (omega (arith, few_days, w.size)) w.counting));
            size = rw is.1 (added_length used _ ∙ w.size);
            same_answers = rw (add-one k) (a ∙ ap₂ (λ l (x : Planned × List ℕ). sets l (5 * k) (five x.0)) w.same_answers replied);
            same_depths = rw (add-one k) (rw w.part at (g ∙ part_back m now-depths at i reply_length (rw (sym e) at (going_part h fits))) ∙ ap₂ (λ l (x : Planned × List ℕ). sets l (start_of lengths 2 k) x.1) w.same_depths replied);
          }
        where
          few_days : length (given (plan_at b (up_to b lengths answers depths k).plans k)) ≤ longest_season
          few_days =
              let d = ready k h in
              let g : length (given (plan_at b (up_to b lengths answers depths k).plans k)) ≤ days_left (b.season k) b.day = given_size _ _ _ _ in
              omega (arith, g, d.valid.year, d.day.from)

  pub going_end : n ≤ k → (now-answers, now-depths) ≡ left (up_to b lengths answers depths n)
  going_end h = let z : k ≡ n = omega (arith, w.few) in rw (w.same_answers, w.same_depths, z)
