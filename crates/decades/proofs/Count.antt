-- How many rows a season's table has: the decades of the year that its days reach, 36 a year. A season is shorter than a year, so it goes over the
-- year's end once at most. A decade has ten days, give or take.
use mathlib.Core.Path.{◌≡◌, refl, sym, ◌∙◌, ap, subst}
use mathlib.Core.Bool.{Bool, true, false}
use mathlib.Core.List.{List, [], ◌∷◌}
use mathlib.Core.Logic.{◌⊎◌, inl, inr}
use Prim.Native.Nat.{ℕ, zero, suc, ◌+◌, ◌-◌, ◌*◌, ◌≤◌, ◌<◌}
use native.Mathlib.Numerals.{add-one}
use native.Mathlib.Omega.{arith}
use lib.ListN.{length}
use Rattle.season.specs.declared.Season.{Season}
use Rattle.season.specs.declared.Date.{Date}
use Rattle.season.specs.declared.SeasonDay.{SeasonDay}
use Rattle.season.specs.Sheet.{Valid, season_days, longest_season}
use Rattle.season.specs.Calendar.{date_is, days_on, Proper}
use Rattle.season.specs.Day.{date_of}
use Rattle.season.specs.Carried.{day_of}
use Rattle.season.proofs.Calendar.{days_high}
use Rattle.season.proofs.Bounds.{date_proper}
use Rattle.season.proofs.Days.{date_next}
use Rattle.decades.specs.declared.Row.{Row}
use Rattle.decades.specs.Table.{decade_of, day_row, same_decade, with_day, rows_to, row_count}
use Rattle.decades.proofs.Year.{year_days, year_day, year_decade, decade_within, year_order, year_before, year_after, year_within, year_slope, both_same, same_dates, fresh, Next, next}

-- The latest row is of a day's decade.
abbrev Heads : Date → List Row → Type 0
Heads t [] = ⊥
Heads t (q ∷ qs) = (q.month ≡ t.month) × (q.decade ≡ decade_of t.day)

with_next : (t u : Date) (qs : List Row) (r : Row) → Heads t qs → r.month ≡ u.month → r.decade ≡ decade_of u.day
    → Heads u (with_day qs r) × (length (with_day qs r) ≡ length qs + fresh t u)
unfolding with_day
with_next t u [] r h m d = absurd h
with_next t u (q ∷ qs) r h m d = go (same_dates t u) refl
  where
    same : same_decade q.month q.decade r.month r.decade ≡ same_dates t u
    same = rw (h.0, h.1, m, d)

    go : (b : Bool) → same_dates t u ≡ b → Heads u (with_day (q ∷ qs) r) × (length (with_day (q ∷ qs) r) ≡ length (q ∷ qs) + fresh t u)
    go true e =
        let s = both_same t.month (decade_of t.day) u.month (decade_of u.day) e in
        rw (same ∙ e, e) ((h.0 ∙ s.0, h.1 ∙ s.1), omega arith)
    go false e = rw (same ∙ e, e) ((m, d), omega arith)

-- From day a, j days on, to day b: not round the year yet, or round it once; and then so many rows.
abbrev Round : ℕ → Date → Date → ℕ → ℕ → Type 0
Round f a b j rows =
    ((year_day f b ≡ year_day f a + j) × (rows + year_decade a ≡ 1 + year_decade b))
    ⊎ ((year_day f b + year_days f ≡ year_day f a + j) × (rows + year_decade a ≡ 1 + year_decade b + 36))

-- After j days: the latest row is the day's, and the rows so far are counted by the decades of the year that were reached.
record Along (s : Season) (j : ℕ) : Type 0 where
  pub heads : Heads (date_of s (suc j)) (rows_to s (suc j))
  pub round : Round s.february (date_of s 1) (date_of s (suc j)) j (length (rows_to s (suc j)))

along : (s : Season) → Valid s → (j : ℕ) → j < longest_season → Along s j
unfolding rows_to day_row with_day Next
along s v zero h = record { heads = (refl, refl); round = inl (omega arith, omega arith) }
along s v (suc j) h =
    let a = along s v j (omega arith) in
    let t = date_of s (suc j) in
    let u = date_of s (suc (suc j)) in
    let n : Next s.february t u = rw (ap (date_of s) (sym (add-one (suc j))) ∙ date_next s (suc j) (omega arith)) (next v.ranges.february t (date_proper s (suc j) v)) in
    let w = with_next t u (rows_to s (suc j)) (day_row s (suc (suc j))) a.heads refl refl in
    let y = year_within v.ranges.february (date_of s 1) (date_proper s 1 v) in
    record {
      heads = w.0;
      round =
          elim n [
            | inl x ↦ elim a.round [
              | inl r ↦ inl (omega (arith, r.0, x.0), omega (arith, r.1, x.1, w.1))
              | inr r ↦ inr (omega (arith, r.0, x.0), omega (arith, r.1, x.1, w.1))
            ]
            | inr x ↦ elim a.round [
              | inl r ↦ inr (omega (arith, r.0, x.0, x.1), omega (arith, r.1, x.2, w.1))
              | inr r ↦ absurd (omega (arith, r.0, x.0, y))
            ]
          ];
    }

-- The longest season reaches at most 29, whether February has 28 days or 29.
pub rows_at_most : (s : Season) → Valid s → row_count s ≤ 29
rows_at_most s v =
    let n = season_days s in
    let j = n - 1 in
    let e : n ≡ suc j = omega (arith, v.ranges.initial.low≤) in
    let f = v.ranges.february in
    let first = year_slope f (date_of s 1) (date_proper s 1 v) in
    let last = year_slope f (date_of s (suc j)) (date_proper s (suc j) v) in
    rw e (elim (along s v j (omega (arith, v.year, v.ranges.initial.low≤))).round [
      | inl r ↦ omega (arith, r.0, r.1, v.year, first, last)
      | inr r ↦ omega (arith, r.0, r.1, v.year, first, last, f.low≤)
    ])

-- The count from the first and the last day's dates.
module _ (s : Season) (v : Valid s) (t : SeasonDay) (is : t ≡ day_of s (season_days s)) where
  abbrev first : Date
  first = date_is s.month s.first

  abbrev last : Date
  last = date_is t.month t.day

  last_is : date_of s (season_days s) ≡ last
  unfolding day_of
  last_is = λ i. record { month = sym (ap (λ (d : SeasonDay). d.month) is) i; day = sym (ap (λ (d : SeasonDay). d.day) is) i }

  pub first_proper : Proper s.february (date_is s.month s.first)
  unfolding date_of days_on
  first_proper = date_proper s 1 v

  pub last_proper : Proper s.february (date_is t.month t.day)
  last_proper = rw (← last_is) (date_proper s (season_days s) v)

  reached : (j : ℕ) → season_days s ≡ suc j → j < longest_season → Round s.february first last j (row_count s)
  unfolding date_of days_on
  reached j e h =
      subst (λ (u : Date). Round s.february first u j (row_count s)) last_is
      (subst (λ (n : ℕ). Round s.february first (date_of s n) j (length (rows_to s n))) (sym e) (along s v j h).round)

  -- Over the year's end, or within a year.
  pub count_over : 32 * t.month + t.day < 32 * s.month + s.first
      → (3 * t.month + decade_of t.day) + 37 - (3 * s.month + decade_of s.first) ≡ row_count s
  count_over h =
      let y = year_before v.ranges.february last first last_proper first_proper h in
      elim (reached (season_days s - 1) (omega (arith, v.ranges.initial.low≤)) (omega (arith, v.year, v.ranges.initial.low≤))) [
        | inl r ↦ absurd (omega (arith, r.0, y))
        | inr r ↦ omega (arith, r.1)
      ]

  pub count_within : 32 * s.month + s.first ≤ 32 * t.month + t.day
      → (3 * t.month + decade_of t.day) + 1 - (3 * s.month + decade_of s.first) ≡ row_count s
  count_within h =
      let y = year_after v.ranges.february first last first_proper last_proper h in
      elim (reached (season_days s - 1) (omega (arith, v.ranges.initial.low≤)) (omega (arith, v.year, v.ranges.initial.low≤))) [
        | inl r ↦ omega (arith, r.1)
        | inr r ↦ absurd (omega (arith, r.0, y, v.year))
      ]

  -- What the sums and differences need.
  pub small_decades : (3 * s.month + decade_of s.first ≤ 39) × (4 ≤ 3 * t.month + decade_of t.day) × (3 * t.month + decade_of t.day ≤ 39)
  small_decades =
      let p = first_proper in
      let q = last_proper in
      let d = decade_within t.day in
      (omega (arith, p.month_high, decade_within s.first), omega (arith, q.month_low, d), omega (arith, q.month_high, d))

  pub decades_in_order : 32 * s.month + s.first ≤ 32 * t.month + t.day → 3 * s.month + decade_of s.first ≤ 3 * t.month + decade_of t.day
  decades_in_order h = year_order v.ranges.february first last first_proper last_proper (year_after v.ranges.february first last first_proper last_proper h)

  pub small_dates : ((s.month ≤ 12) × (s.first ≤ 31)) × ((t.month ≤ 12) × (t.day ≤ 31))
  small_dates =
      let p = first_proper in
      let q = last_proper in
      ((p.month_high, omega (arith, p.day_high, days_high v.ranges.february s.month p.month_low p.month_high)), (q.month_high, omega (arith, q.day_high, days_high v.ranges.february t.month q.month_low q.month_high)))
