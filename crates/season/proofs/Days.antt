-- A season day is carried on to the next: within a month its month's numbers stay, and over a month's end they change.
use mathlib.Core.Path.{◌≡◌, refl, sym, ◌∙◌, ap, subst}
use Prim.Native.Nat.{ℕ, ◌+◌, ◌-◌, ◌*◌, ◌/◌, ◌≤◌, ◌<◌}
use native.Mathlib.Nat.{mul-le-mul_left, mul-div-mul_left, div-le_self}
use native.Mathlib.Omega.{arith}
use Rattle.season.specs.declared.Season.{Season}
use Rattle.season.specs.declared.Date.{Date}
use Rattle.season.specs.declared.Slope.{Slope}
use Rattle.season.specs.declared.SeasonDay.{SeasonDay}
use Rattle.season.specs.Calendar.{month_days, month_after, date_is, next_in, next_day, days_on, Proper}
use Rattle.season.specs.Sheet.{Valid, DayOf}
use Rattle.season.specs.Rules.{rain_to, planned_rain}
use Rattle.season.specs.Day.{eto_in, effective_in, date_of, crop_need, rain_on}
use Rattle.season.specs.Carried.{scale, reciprocal, scaled, slope_of, growth_per_day, on_date, day_of, OnDay}
use Rattle.season.proofs.Laws.{product, quotient_up}
use Rattle.season.proofs.Reciprocal.{high, by_reciprocal, high_product, by_reciprocal_product}
use Rattle.season.proofs.Slopes.{kc_slope, slope_small}
use Rattle.season.proofs.Calendar.{on_add, next_in_lem, next_over, days_high}
use Rattle.season.proofs.Bounds.{date_proper, effective_le, top_weighed, need_le}

-- The date of the day after.
pub date_next : (s : Season) (i : ℕ) → 1 ≤ i → date_of s (i + 1) ≡ next_day s.february (date_of s i)
unfolding date_of days_on
date_next s i h =
    let start = date_is s.month s.first in
    let e : i + 1 - 1 ≡ (i - 1) + 1 = omega arith in
    ap (days_on s.february start) e ∙ on_add s.february start (i - 1) 1

pub on_number : (s : Season) (i : ℕ) → (day_of s i).number ≡ i
unfolding day_of
on_number s i = refl

-- What was made as season day i is that day.
pub number_is : (s : Season) (t : SeasonDay) (i : ℕ) → t ≡ day_of s i → t.number ≡ i
unfolding day_of
number_is s t i e = ap (λ (d : SeasonDay). d.number) e

pub on_day : (s : Season) (t : SeasonDay) (i : ℕ) → DayOf s i → t ≡ day_of s i → OnDay s t
on_day s t i d e =
    let n : t.number ≡ i = number_is s t i e in
    record { is = e ∙ ap (day_of s) (sym n); of = rw n d }

-- u is the day after t in its month.
pub record OnInMonth (t u : SeasonDay) : Type 0 where
  pub month : u.month ≡ t.month
  pub day : u.day ≡ t.day + 1
  pub length : u.length ≡ t.length
  pub effective : u.effective ≡ t.effective

module _ {s : Season} {t : SeasonDay} (v : Valid s) (o : OnDay s t) where
  -- The day's own month, day and length are those of its date, which the calendar has.
  day_date : (t.month ≡ (date_of s t.number).month) × (t.day ≡ (date_of s t.number).day)
  unfolding day_of
  day_date = (ap (λ (d : SeasonDay). d.month) o.is, ap (λ (d : SeasonDay). d.day) o.is)

  pub day_proper : Proper s.february (date_is t.month t.day)
  day_proper = rw (day_date.0, day_date.1) (date_proper s t.number v)

  pub length_is : t.length ≡ month_days s.february t.month
  unfolding day_of
  length_is = ap (λ (d : SeasonDay). d.length) o.is ∙ ap (month_days s.february) (sym day_date.0)

  effective_at_most : t.effective ≤ 25000
  unfolding day_of
  effective_at_most = rw (ap (λ (d : SeasonDay). d.effective) o.is) (effective_le _ (v.ranges.rain _))

  -- The day stands within its month.
  pub day_small : (1 ≤ t.day) × (t.day ≤ t.length) × (t.length ≤ 31)
  day_small =
      let p = day_proper in
      (p.day_low, rw length_is p.day_high, rw length_is (days_high v.ranges.february _ p.month_low p.month_high))

  -- Planned rain by the day's own numbers.
  pub rain_is : planned_rain t.effective t.day t.length ≡ rain_on s t.number
  unfolding day_of rain_on
  rain_is = ap (λ (d : SeasonDay). planned_rain d.effective d.day d.length) o.is

  -- The month's planned rain grows with its days.
  pub rain_grows : rain_to t.effective (t.day - 1) t.length ≤ rain_to t.effective t.day t.length
  rain_grows =
      let d = day_small in
      quotient_up (t.effective * (t.day - 1)) (t.effective * t.day) t.length (omega (arith, d)) (mul-le-mul_left t.effective (omega arith))

  effective_is : t.effective ≡ effective_in s t.month
  unfolding day_of
  effective_is = ap (λ (d : SeasonDay). d.effective) o.is ∙ ap (effective_in s) (sym day_date.0)

  -- Crop need by the day's own numbers.
  top_is : t.top ≡ eto_in s (date_of s t.number).month * (slope_of s t.number).top + 50 * (slope_of s t.number).bottom
  unfolding day_of
  top_is = ap (λ (d : SeasonDay). d.top) o.is

  reciprocal_is : t.reciprocal ≡ reciprocal (100 * (slope_of s t.number).bottom)
  unfolding day_of
  reciprocal_is = ap (λ (d : SeasonDay). d.reciprocal) o.is

  pub top_small : t.top ≤ 60010000
  top_small = rw top_is (top_weighed s t.number (date_of s t.number).month v.ranges)

  abbrev stage : Slope
  stage = slope_of s t.number

  abbrev hundred : ℕ
  hundred = 100 * stage.bottom

  some : 0 < hundred
  some = omega (arith, (slope_small s t.number v.ranges).some)

  small : t.top * hundred < scale
  small = omega (arith, product t.top hundred 60010000 20000 top_small (omega (arith, (slope_small s t.number v.ranges).few)))

  need_quotient : t.top / hundred ≡ crop_need s t.number
  unfolding crop_need
  need_quotient =
      let e = eto_in s (date_of s t.number).month in
      let two : 2 * t.top ≡ 2 * (e * stage.top) + 100 * stage.bottom = omega (arith, top_is) in
      rw (kc_slope s t.number o.of, ← two) (sym (mul-div-mul_left t.top hundred (omega arith)))

  pub need_is : scaled t.top t.reciprocal ≡ crop_need s t.number
  need_is = rw reciprocal_is (by_reciprocal t.top hundred some small ∙ need_quotient)

  pub need_fits : t.top * t.reciprocal < 18446744073709551616
  need_fits = rw reciprocal_is (omega (arith, high t.top hundred some small, need_quotient, need_le s t.number v o.of))

  -- Planned rain and root depth by their reciprocals.
  rain_per_day_is : t.rain_per_day ≡ t.effective * reciprocal t.length
  unfolding day_of
  rain_per_day_is = ap (λ (d : SeasonDay). d.rain_per_day) o.is ∙ ap (λ (d : SeasonDay). d.effective * reciprocal d.length) (sym o.is)

  pub growth_per_day_is : t.growth_per_day ≡ growth_per_day s
  unfolding day_of
  growth_per_day_is = ap (λ (d : SeasonDay). d.growth_per_day) o.is

  module _ (d : ℕ) (few : d ≤ 31) where
    rained : t.effective * d ≤ 775000
    rained = product t.effective d 25000 31 effective_at_most few

    days : 0 < t.length
    days = omega (arith, day_small)

    within : t.effective * d * t.length < scale
    within = omega (arith, product (t.effective * d) t.length 775000 31 rained (omega (arith, day_small)))

    pub rain_to_is : scaled d t.rain_per_day ≡ rain_to t.effective d t.length
    rain_to_is = rw rain_per_day_is (by_reciprocal_product d t.effective t.length days within)

    pub rain_to_fits : d * t.rain_per_day < 18446744073709551616
    rain_to_fits = rw rain_per_day_is (omega (arith, high_product d t.effective t.length days within, div-le_self (t.effective * d) t.length, rained))

  module _ (h : t.number < s.initial + s.development) where
    rooted : (s.full - s.sowing) * t.number ≤ 120000
    rooted = product (s.full - s.sowing) t.number 300 400 (omega (arith, v.ranges.full.≤high)) (omega (arith, v.ranges.initial.≤high, v.ranges.development.≤high))

    reach : (s.full - s.sowing) * t.number * (s.initial + s.development) < scale
    reach = omega (arith, product ((s.full - s.sowing) * t.number) (s.initial + s.development) 120000 400 rooted (omega (arith, v.ranges.initial.≤high, v.ranges.development.≤high)))

    pub root_is : scaled t.number t.growth_per_day ≡ (s.full - s.sowing) * t.number / (s.initial + s.development)
    root_is = rw growth_per_day_is (by_reciprocal_product t.number (s.full - s.sowing) (s.initial + s.development) (omega arith) reach)

    pub root_few : (s.full - s.sowing) * t.number / (s.initial + s.development) ≤ 120000
    root_few = omega (arith, div-le_self ((s.full - s.sowing) * t.number) (s.initial + s.development), rooted)

    pub root_fits : t.number * t.growth_per_day < 18446744073709551616
    root_fits = rw growth_per_day_is (omega (arith, high_product t.number (s.full - s.sowing) (s.initial + s.development) (omega arith) reach, root_few))

  -- ---- the day after

  -- By the day's own length.
  pub next_is : next_in t.length (date_is t.month t.day) ≡ next_day s.february (date_is t.month t.day)
  unfolding next_day
  next_is = ap (λ (n : ℕ). next_in n (date_is t.month t.day)) length_is

  pub after : (d : Date) → next_day s.february (date_is t.month t.day) ≡ d → on_date s (t.number + 1) d ≡ day_of s (t.number + 1)
  unfolding day_of
  after d e =
      ap (on_date s (t.number + 1))
      (sym e ∙ ap (next_day s.february) (λ i. record { month = day_date.0 i; day = day_date.1 i }) ∙ sym (date_next s t.number o.of.from))

  -- Inside a month: the date is a day on, and the month's numbers stay.
  pub next_inside : t.day < t.length → OnInMonth t (day_of s (t.number + 1))
  next_inside h =
      subst (OnInMonth t) (after (date_is t.month (t.day + 1)) (next_in_lem s.february _ _ (rw (← length_is) h)))
      (record { month = refl; day = refl; length = sym length_is; effective = sym effective_is })

  pub next_month : t.length ≤ t.day → on_date s (t.number + 1) (date_is (month_after t.month) 1) ≡ day_of s (t.number + 1)
  next_month h = after (date_is (month_after t.month) 1) (next_over s.february _ _ (rw (← length_is) h))
