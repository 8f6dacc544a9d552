-- What the sheet's ranges say of the numbers made from it.
use mathlib.Core.Path.{◌≡◌, sym, ◌∙◌, ap}
use Prim.Native.Nat.{ℕ, ◌+◌, ◌-◌, ◌*◌, ◌/◌, ◌≤◌, ◌<◌, min}
use native.Mathlib.Nat.{mul_assoc, mul-one, div-le_self, div-lt_iff_lt-mul}
use native.Mathlib.Omega.{arith}
use lib.IntN.{pos, nat_abs, ◌*ℤ◌}
use lib.ListN.{get_or}
use mir.Syntax.{w32}
use mir.Val.{SFits, to_z, of_z}
use borrow.Author.Tests.{le-leb, lt-leb}
use Rattle.season.specs.declared.Season.{Season}
use Rattle.season.specs.Sheet.{Ranged, Valid, DayOf}
use Rattle.season.specs.Rules.{effective_rain}
use Rattle.season.specs.Carried.{reciprocal, slope_of, growth_per_day}
use Rattle.season.specs.Calendar.{month_days, date_is, Proper}
use Rattle.season.specs.Day.{rain_on, root_on, total_on, date_of, eto_in, crop_need}
use Rattle.season.proofs.Laws.{product, part_le, root_growing}
use Rattle.season.proofs.Whole.{by_order, nat_abs_mul, small_fits, Times, times_fits, times_back}
use Rattle.season.proofs.Slopes.{kc_slope, slope_small}
use Rattle.season.proofs.Calendar.{on_proper, days_low}

pub root_le : (s : Season) (i : ℕ) → Ranged s → root_on s i ≤ 300
root_le s i v =
    let g = s.initial + s.development in
    omega (arith, part_le (s.full - s.sowing) (min i g) g (omega arith) (omega arith))

pub total_le : (s : Season) (i : ℕ) → Ranged s → total_on s i ≤ 120000
total_le s i v = product s.water (root_on s i) 400 300 (omega arith) (root_le s i v)

-- on day 1 the roots have grown by one part of G, which is at least 2
pub first_root : (s : Season) → Ranged s → s.sowing + (s.full - s.sowing) / (s.initial + s.development) ≡ root_on s 1
first_root s r =
    let g = s.initial + s.development in
    ap (λ (n : ℕ). s.sowing + n / g) (sym (mul-one (s.full - s.sowing)))
    ∙ root_growing s.sowing s.full g 1 (omega (arith, r.initial.low≤, r.development.low≤))

-- the day that a season day is stands in the calendar
pub start_proper : (s : Season) → Valid s → Proper s.february (date_is s.month s.first)
start_proper s v = record {
  month_low = v.ranges.month.low≤;
  month_high = v.ranges.month.≤high;
  day_low = v.ranges.first.low≤;
  day_high = v.ranges.first.≤high;
}

pub date_proper : (s : Season) (i : ℕ) → Valid s → Proper s.february (date_of s i)
unfolding date_of
date_proper s i v = on_proper v.ranges.february _ (i - 1) (start_proper s v)

-- a reciprocal is no more than the scale and one, and times a small number it fits 64 bits
reciprocal_le : (d : ℕ) → reciprocal d ≤ 17592186044417
reciprocal_le d = omega (arith, div-le_self 17592186044416 d)

pub rain_per_day_small : (e m : ℕ) → e ≤ 25000 → 28 ≤ m → e * reciprocal m < 18446744073709551616
rain_per_day_small e m h l = omega (arith, product e (reciprocal m) 25000 17592186044417 h (reciprocal_le m))

pub growth_per_day_small : (s : Season) → Ranged s → growth_per_day s < 18446744073709551616
growth_per_day_small s r =
    omega (arith, product (s.full - s.sowing) (reciprocal (s.initial + s.development)) 300 17592186044417 (omega (arith, r.full.≤high)) (reciprocal_le (s.initial + s.development)))

-- the product that is rounded, and the need
module _ (s : Season) (i : ℕ) (m : ℕ) (r : Ranged s) where
  weighed : eto_in s m * (slope_of s i).top ≤ 300000 * (slope_of s i).bottom
  weighed =
      let k = slope_of s i in
      omega (arith, product (eto_in s m) k.top 1500 (200 * k.bottom) (r.eto _) (slope_small s i r).top_le, mul_assoc 1500 200 k.bottom)

  pub top_weighed : eto_in s m * (slope_of s i).top + 50 * (slope_of s i).bottom ≤ 60010000
  top_weighed = omega (arith, weighed, (slope_small s i r).few)

  rise_few : nat_abs (slope_of s i).rise < 2147483648
  rise_few = omega (arith, (slope_small s i r).rise_le)

  rise_product : eto_in s m * nat_abs (slope_of s i).rise ≤ 300000
  rise_product = product _ _ 1500 200 (r.eto _) (slope_small s i r).rise_le

  pub rise_weighed : nat_abs (pos (eto_in s m) *ℤ (slope_of s i).rise) ≤ 300000
  rise_weighed = rw (nat_abs_mul (eto_in s m) (slope_of s i).rise) rise_product

  pub rise_weighed_fits : SFits w32 (Times (eto_in s m) (slope_of s i).rise)
  rise_weighed_fits = times_fits (eto_in s m) (slope_of s i).rise (small_fits _ rise_few) (omega (arith, r.eto (m - 1))) (omega (arith, rise_product))

  pub rise_weighed_back : to_z w32 (of_z w32 (Times (eto_in s m) (slope_of s i).rise)) ≡ pos (eto_in s m) *ℤ (slope_of s i).rise
  rise_weighed_back = times_back (eto_in s m) (slope_of s i).rise (small_fits _ rise_few) (omega (arith, r.eto (m - 1))) (omega (arith, rise_product))

pub need_le : (s : Season) (i : ℕ) → Valid s → DayOf s i → crop_need s i ≤ 3000
unfolding crop_need
need_le s i v d =
    let k = slope_of s i in
    let some : 1 ≤ k.bottom = (slope_small s i v.ranges).some in
    let below : crop_need s i < 3001 = rw (kc_slope s i d) ((div-lt_iff_lt-mul {k = 2 * (100 * k.bottom)} (omega arith)).1 (omega (arith, weighed s i (date_of s i).month v.ranges))) in
    omega arith

-- rain
pub effective_le : (q : ℕ) → q ≤ 60000 → effective_rain q ≤ 25000
effective_le q h =
    by_order 25000 q
    (λ p. rw (le-leb _ _ p) (omega (arith, part_le q (62500 - q) 62500 (omega arith) (omega arith))))
    (λ p. rw (lt-leb _ _ p) (omega arith))

pub rain_le : (s : Season) (i : ℕ) → Valid s → rain_on s i ≤ 25000
unfolding rain_on
rain_le s i v =
    let t = date_of s i in
    let p = date_proper s i v in
    omega (
      arith,
      effective_le (get_or s.rain (t.month - 1) 0) (v.ranges.rain _),
      part_le (effective_rain (get_or s.rain (t.month - 1) 0)) t.day (month_days s.february t.month) (omega (arith, days_low v.ranges.february t.month p.month_low p.month_high)) p.day_high,
    )

pub total_some : (s : Season) (i : ℕ) → Valid s → 0 < total_on s i
total_some s i v = omega (arith, product 1 10 s.water (root_on s i) v.ranges.water.low≤ (omega arith))
