-- What the program's loop keeps: the pass over a season's days, and the depths drawn so far.
use mathlib.Core.Path.{◌≡◌, sym, ◌∙◌, ap}
use mathlib.Core.Logic.{◌⊎◌, inl, inr}
use mathlib.Core.List.{List}
use Prim.Native.Nat.{ℕ, suc, ◌+◌, ◌-◌, ◌%◌, ◌≤◌, ◌<◌}
use native.Mathlib.Numerals.{add-one}
use native.Mathlib.Omega.{arith}
use lib.ListN.{length, set, replicate, length-append, length-replicate}
use Rattle.season.specs.declared.Season.{Season}
use Rattle.season.specs.declared.SeasonDay.{SeasonDay}
use Rattle.season.specs.Sheet.{Valid, DayOf, season_days, longest_season}
use Rattle.season.specs.Day.{crop_need, ready_on}
use Rattle.season.specs.Carried.{day_of}
use Rattle.season.proofs.Bounds.{need_le}
use Rattle.season.proofs.Days.{number_is}
use Rattle.planner.specs.declared.DayOutlook.{DayOutlook}
use Rattle.planner.specs.declared.Track.{Track}
use Rattle.planner.specs.Plan.{depths, refused, plan}
use Rattle.planner.specs.Outlook.{outlook_on, days_left}
use Rattle.planner.specs.Bank.{outlook_left}
use Rattle.planner.specs.Carried.{track_from, pass_day}
use Rattle.planner.proofs.Bounds.{ready_at_most}
use Rattle.planner.proofs.Carry.{Coming, coming_start, rain_before}
use Rattle.planner.proofs.Days.{Draft, draft}
use Rattle.planner.proofs.Walks.{ends_at}
use Rattle.planner.proofs.Passes.{Passing, passing_start, passing_day, passing_holds, passing_lost, passing_turn, filled_now, passing_fills, passing_end}

-- The pass from day `today`, which starts at D, has come to day d: to day t, or past it.
pub record Drawing (s : Season) (today waiting : ℕ) (used : List ℕ) (limit D last : ℕ) (t : SeasonDay) (before week d : ℕ) (k : Track) (l : List ℕ) : Type 0 where
  pub coming : Coming s last t before week
  pub high : d ≤ suc t.number
  pub small : k.depletion ≤ 120000
  pub passing : Passing today (days_left s d) d (draft (outlook_left s today waiting used limit) (days_left s d) d) (plan (outlook_left s today waiting used limit) (days_left s today) today D) k l

pub drawing_start : {s : Season} {today D last before : ℕ} {t : SeasonDay} {l : List ℕ} (waiting : ℕ) (used : List ℕ) (limit : ℕ) → Valid s → DayOf s today → D ≤ 120000 → l ≡ replicate (days_left s today) 0
    → last ≡ season_days s → t ≡ day_of s today → before ≡ rain_before t
    → Drawing s today waiting used limit D last t before ((today - 1) % 7) t.number (track_from today D) l
drawing_start {s} {today} {D} waiting used limit v d h z e i b =
    record {
      coming = coming_start v d e i b;
      high = omega arith;
      small = h;
      passing = rw (number_is s _ today i) (passing_start (outlook_left s today waiting used limit) (days_left s today) today D z);
    }

-- Day i has its place among the depths.
abbrev pub Placed : ℕ → ℕ → List ℕ → Type 0
Placed today i l = (today ≤ i) × (i ≤ longest_season) × (i - today < length l)

-- Day t holds, or it holds with the turn day filled: what the loop goes on with.
abbrev pub Ended : ℕ → ℕ → Track → List ℕ → Track → List ℕ → Type 0
Ended today ready n l m l' =
    ((ready < n.depletion) × (n.filled ≤ ready) × (l' ≡ set l (n.turn - today) n.depth) × (m ≡ filled_now n))
    ⊎ ((n.depletion ≤ ready) × (l' ≡ l) × (m ≡ n))

length_zeros : {n : ℕ} {z : List ℕ} → z ≡ replicate n 0 → length z ≡ n
length_zeros {n} e = rw e (length-replicate n 0)

module _ {s : Season} {today waiting : ℕ} {used : List ℕ} {limit D last : ℕ} {t : SeasonDay} {before week d : ℕ} {k : Track} {l : List ℕ} (w : Drawing s today waiting used limit D last t before week d k l) where
  sized : length l ≡ days_left s today
  sized =
      omega (
        arith,
        ap length w.passing.is,
        length-append w.passing.drawn (replicate (days_left s d) 0),
        length-replicate {A = ℕ} (days_left s d) 0,
        w.passing.size,
        w.high,
        w.coming.day.of.to,
      )

  pub drawing_from : today ≤ d
  drawing_from = omega (arith, w.passing.size)

  pub drawing_length : {z : List ℕ} → z ≡ replicate (days_left s today) 0 → length l ≡ length z
  drawing_length e = sized ∙ sym (length_zeros e)

-- Day t is passed: it is the last, or the day after follows.
module _ {s : Season} {today waiting : ℕ} {used : List ℕ} {limit D last : ℕ} {t : SeasonDay} {before week : ℕ} {k : Track} {l : List ℕ}
    (w : Drawing s today waiting used limit D last t before week (suc t.number) k l) where
  pub drawing_whole : last ≤ t.number → depths l ≡ plan (outlook_left s today waiting used limit) (days_left s today) today D
  drawing_whole h =
      let z : days_left s (suc t.number) ≡ 0 = omega (arith, w.coming.season) in
      passing_end (outlook_left s today waiting used limit) (rw z at w.passing)

  pub drawing_next : {next : SeasonDay} {after week' : ℕ} → next ≡ day_of s (t.number + 1) → Coming s last next after week'
      → Drawing s today waiting used limit D last next after week' next.number k l
  drawing_next {next} e c =
      let i : next.number ≡ suc t.number = number_is s _ (t.number + 1) e ∙ add-one t.number in
      record { coming = c; high = omega arith; small = w.small; passing = rw i w.passing }

-- Day t is passed with no watering, and ends as the track says.
module _ {s : Season} {today waiting : ℕ} {used : List ℕ} {limit D last : ℕ} {t : SeasonDay} {before week : ℕ} {k : Track} {l : List ℕ} {ahead : DayOutlook}
    (w : Drawing s today waiting used limit D last t before week t.number k l) (r : ahead ≡ outlook_on (outlook_left s today waiting used limit) t.number) where
  pub drawing_fits : (k.filled ≤ k.depletion) × (k.depletion + ahead.need < 4294967296)
  drawing_fits =
      let c : ahead.need ≡ crop_need s t.number = ap (λ k. k.need) r in
      (w.passing.low, omega (arith, w.small, need_le s t.number w.coming.valid w.coming.day.of))

  module _ {n : Track} (q : n ≡ pass_day k ahead t.number) where
    -- the days after t
    abbrev rest : ℕ → Draft
    rest = draft (outlook_left s today waiting used limit) (days_left s (suc t.number)) (suc t.number)

    ended : Passing today (days_left s (suc t.number)) (suc t.number) (ends_at (outlook_left s today waiting used limit) t.number rest)
        (plan (outlook_left s today waiting used limit) (days_left s today) today D) n l
    ended =
        let z : days_left s t.number ≡ suc (days_left s (suc t.number)) = omega (arith, w.coming.day.of.to) in
        passing_day (outlook_left s today waiting used limit) (days_left s (suc t.number)) (rw z at w.passing) (rw r at q)

    ready : ahead.ready ≡ (outlook_left s today waiting used limit).ready t.number
    ready = ap (λ k. k.ready) r

    pub drawing_lost : ahead.ready < n.filled → refused t.number ≡ plan (outlook_left s today waiting used limit) (days_left s today) today D
    drawing_lost h = passing_lost (outlook_left s today waiting used limit) t.number rest ended (rw ready at h)

    pub drawing_place : ahead.ready < n.depletion → n.filled ≤ ahead.ready → Placed today n.turn l
    drawing_place h g =
        let f = passing_turn (outlook_left s today waiting used limit) t.number rest ended (rw ready at h) (rw ready at g) in
        let last = w.coming.day.of.to in
        (f.0, omega (arith, f.1, last, w.coming.valid.year), omega (arith, f.0, f.1, sized w, last))

    -- It holds, or it holds with the turn day filled.
    pub drawing_passed : {m : Track} {l' : List ℕ} → Ended today ahead.ready n l m l' → Drawing s today waiting used limit D last t before week (suc t.number) m l'
    drawing_passed {m} {l'} c =
        let f = ended_next c in
        record { coming = w.coming; high = omega arith; small = f.0; passing = f.1 }
      where
        few : ready_on s t.number ≤ 120000
        few = ready_at_most s t.number w.coming.valid

        ended_next : Ended today ahead.ready n l m l'
            → (m.depletion ≤ 120000) × Passing today (days_left s (suc t.number)) (suc t.number) rest (plan (outlook_left s today waiting used limit) (days_left s today) today D) m l'
        ended_next (inl p) =
            rw (p.2, p.3) (omega (arith, few, ready, p.1), passing_fills (outlook_left s today waiting used limit) t.number rest ended (rw ready at p.0) (rw ready at p.1))
        ended_next (inr p) =
            rw (p.1, p.2) (omega (arith, few, ready, p.0), passing_holds (outlook_left s today waiting used limit) t.number rest ended (rw ready at p.0))
