-- Within a month and a stage a season day is carried on by sums alone.
use mathlib.Core.Path.{◌≡◌, refl, sym, ◌∙◌, ap, subst}
use Prim.Native.Nat.{ℕ, zero, suc, ◌+◌, ◌-◌, ◌*◌, ◌≤◌, ◌<◌}
use native.Mathlib.Nat.{suc-mul}
use native.Mathlib.Numerals.{add-one}
use native.Mathlib.Omega.{arith}
use lib.IntN.{ℤ, pos, nat_abs, ◌+ℤ◌, ◌*ℤ◌}
use mir.Syntax.{w32}
use mir.Val.{to_z, of_z}
use Rattle.season.specs.declared.Season.{Season}
use Rattle.season.specs.declared.Date.{Date}
use Rattle.season.specs.declared.SeasonDay.{SeasonDay}
use Rattle.season.specs.Calendar.{month_days, date_is}
use Rattle.season.specs.Sheet.{Ranged, Valid, DayOf, season_days}
use Rattle.season.specs.Carried.{reciprocal, scaled, risen, raised, Raising, slope_of, needs_after, on_date, day_of, OnDay}
use Rattle.season.specs.Day.{eto_in, date_of, stage_of, crop_need}
use Rattle.season.proofs.Calendar.{next_in_lem, days_high}
use Rattle.season.proofs.Raised.{risen_none, risen_more, risen_weighed, raised_more, raised_level}
use Rattle.season.proofs.Whole.{small_back}
use Rattle.season.proofs.Slopes.{slope_next, stage_next, left_within}
use Rattle.season.proofs.Laws.{product}
use Rattle.season.proofs.Bounds.{date_proper, need_le, rise_weighed}
use Rattle.season.proofs.Days.{date_next, on_day, on_number, top_small, need_is, need_fits}

-- b is k days after a, in its month and stage.
pub record Along (k : ℕ) (a b : SeasonDay) : Type 0 where
  pub number : b.number ≡ a.number + k
  pub month : b.month ≡ a.month
  pub day : b.day ≡ a.day + k
  pub length : b.length ≡ a.length
  pub effective : b.effective ≡ a.effective
  pub left : b.left + k ≡ a.left
  pub top : pos b.top ≡ risen a.top a.rise k
  pub rise : b.rise ≡ a.rise
  pub reciprocal : b.reciprocal ≡ a.reciprocal
  pub rain_per_day : b.rain_per_day ≡ a.rain_per_day
  pub growth_per_day : b.growth_per_day ≡ a.growth_per_day

along_none : (a b : SeasonDay) → b ≡ a → Along 0 a b
along_none a b e = rw e (record {
  number = omega arith;
  month = refl;
  day = omega arith;
  length = refl;
  effective = refl;
  left = omega arith;
  top = risen_none a.top a.rise;
  rise = refl;
  reciprocal = refl;
  rain_per_day = refl;
  growth_per_day = refl;
})

-- a day more
along_more : (k : ℕ) (a b c : SeasonDay) → Along k a b → Along 1 b c → Along (k + 1) a c
along_more k a b c p q = record {
  number = omega (arith, p.number, q.number);
  month = q.month ∙ p.month;
  day = omega (arith, p.day, q.day);
  length = q.length ∙ p.length;
  effective = q.effective ∙ p.effective;
  left = omega (arith, p.left, q.left);
  top = q.top ∙ ap (λ (z : ℤ). pos b.top +ℤ pos 1 *ℤ z) p.rise ∙ ap (λ (z : ℤ). z +ℤ pos 1 *ℤ a.rise) p.top ∙ risen_more (pos a.top) a.rise k 1;
  rise = q.rise ∙ p.rise;
  reciprocal = q.reciprocal ∙ p.reciprocal;
  rain_per_day = q.rain_per_day ∙ p.rain_per_day;
  growth_per_day = q.growth_per_day ∙ p.growth_per_day;
}

-- the dates and the stage go on
on_dates : (s : Season) (i : ℕ) (t : Date) → Ranged s → i ≤ season_days s → t.day < month_days s.february t.month → 0 < (slope_of s i).left → Along 1 (on_date s i t) (on_date s (i + 1) (date_is t.month (t.day + 1)))
on_dates s i t r to h m =
    let n = slope_next s i r to m in
    let e = eto_in s t.month in
    let a = slope_of s i in
    let b = slope_of s (i + 1) in
    record {
      number = refl;
      month = refl;
      day = refl;
      length = refl;
      effective = refl;
      left = omega (arith, n.left);
      top = ap (λ (x : ℕ). pos (e * b.top + 50 * x)) n.bottom ∙ risen_weighed e (50 * a.bottom) a.top b.top a.rise n.top;
      rise = ap (λ (z : ℤ). pos e *ℤ z) n.rise;
      reciprocal = ap (λ (x : ℕ). reciprocal (100 * x)) n.bottom;
      rain_per_day = refl;
      growth_per_day = refl;
    }

module _ (s : Season) (r : Ranged s) where
  -- The days after that are left are days of the season.
  days_within : (i : ℕ) → DayOf s i → i + (day_of s i).left ≤ season_days s
  unfolding day_of
  days_within i d = omega (arith, left_within s i r d.to)

  along_one : (i : ℕ) → DayOf s i → 0 < (day_of s i).left → Along 1 (day_of s i) (day_of s (i + 1))
  unfolding day_of
  along_one i d l =
      let t = date_of s i in
      let more : t.day < month_days s.february t.month = omega arith in
      subst (λ (u : Date). Along 1 (on_date s i t) (on_date s (i + 1) u)) (sym (date_next s i d.from ∙ next_in_lem s.february t.month t.day more))
      (on_dates s i t r d.to more (omega arith))

  along_days : (i k : ℕ) → DayOf s i → k ≤ (day_of s i).left → Along k (day_of s i) (day_of s (i + k))
  along_days i zero d l = along_none _ _ (ap (day_of s) (omega arith))
  along_days i (suc k) d l =
      let p = along_days i k d (omega arith) in
      let q = along_one (i + k) (record { from = omega (arith, d.from); to = omega (arith, days_within i d) }) (omega (arith, p.left)) in
      let e : i + k + 1 ≡ i + suc k = omega arith in
      let f : k + 1 ≡ suc k = add-one k in
      subst (λ (n : ℕ). Along n (day_of s i) (day_of s (i + suc k))) f (subst (λ (n : ℕ). Along (k + 1) (day_of s i) (day_of s n)) e (along_more k _ _ _ p q))

module _ {s : Season} {t : SeasonDay} (v : Valid s) (o : OnDay s t) (k : ℕ) (h : k ≤ t.left) where
  left_here : k ≤ (day_of s t.number).left
  left_here = rw (← (ap (λ (d : SeasonDay). d.left) o.is)) h

  pub along : Along k t (day_of s (t.number + k))
  along = subst (λ (d : SeasonDay). Along k d (day_of s (t.number + k))) (sym o.is) (along_days s v.ranges t.number k o.of left_here)

  along_raised : raised t.top t.rise k ≡ (day_of s (t.number + k)).top
  unfolding raised
  along_raised = ap nat_abs (sym along.top)

  pub along_is : record {
    number = t.number + k;
    month = t.month;
    day = t.day + k;
    length = t.length;
    effective = t.effective;
    left = t.left - k;
    top = raised t.top t.rise k;
    rise = t.rise;
    reciprocal = t.reciprocal;
    rain_per_day = t.rain_per_day;
    growth_per_day = t.growth_per_day;
  } ≡ day_of s (t.number + k)
  along_is =
      let a = along in
      let d = day_of s (t.number + k) in
      let left : d.left ≡ t.left - k = omega (arith, a.left) in
      λ i. record {
        number = sym a.number i;
        month = sym a.month i;
        day = sym a.day i;
        length = sym a.length i;
        effective = sym a.effective i;
        left = sym left i;
        top = along_raised i;
        rise = sym a.rise i;
        reciprocal = sym a.reciprocal i;
        rain_per_day = sym a.rain_per_day i;
        growth_per_day = sym a.growth_per_day i;
      }

  -- A day of the stretch is a day of the season.
  pub along_on : OnDay s (day_of s (t.number + k))
  unfolding day_of
  along_on =
      let d = days_within s v.ranges t.number o.of in
      on_day s _ (t.number + k) (record { from = omega (arith, o.of.from); to = omega (arith, left_here, d) }) refl

module _ {s : Season} {t : SeasonDay} (v : Valid s) (o : OnDay s t) where
  -- And the next one is of the same stage.
  pub along_stage : 0 < t.left → stage_of s (t.number + 1) ≡ stage_of s t.number
  unfolding day_of
  along_stage h = stage_next s t.number o.of.to (omega (arith, ap (λ (d : SeasonDay). d.left) o.is))

  pub left_few : t.left ≤ 30
  unfolding day_of
  left_few =
      let p = date_proper s t.number v in
      rw (ap (λ (d : SeasonDay). d.left) o.is) (omega (arith, p.day_low, days_high v.ranges.february _ p.month_low p.month_high))

  rise_small : nat_abs t.rise ≤ 300000
  unfolding day_of
  rise_small = rw (ap (λ (d : SeasonDay). d.rise) o.is) (rise_weighed s t.number _ v.ranges)

  pub rise_back : to_z w32 (of_z w32 t.rise) ≡ t.rise
  rise_back = small_back t.rise (omega (arith, rise_small))

  -- the machine's test
  pub no_rise : of_z w32 t.rise ≡ 0 → t.rise ≡ pos 0
  no_rise e = sym rise_back ∙ ap (to_z w32) e

  -- The top is never negative on the days of the stretch.
  pub raising : (k : ℕ) → k ≤ t.left → Raising t.top t.rise k
  raising k h = record {
    never_negative = ap pos (along_raised v o k h) ∙ (along v o k h).top;
    small = rw (along_raised v o k h) (omega (arith, top_small v (along_on v o k h)));
    top_small = omega (arith, top_small v o);
    days_small = omega (arith, left_few);
    growth_small = omega (arith, product k (nat_abs t.rise) 30 300000 (omega (arith, left_few)) rise_small);
  }

-- ---- the needs of the days after

module _ {s : Season} {t : SeasonDay} (v : Valid s) (o : OnDay s t) (k : ℕ) (h : k ≤ t.left) where
  -- What a day of the stretch carries gives its need.
  need_along : scaled (raised t.top t.rise k) t.reciprocal ≡ crop_need s (t.number + k)
  need_along =
      rw (along_raised v o k h, ← (along v o k h).reciprocal) (need_is v (along_on v o k h) ∙ ap (crop_need s) (on_number s (t.number + k)))

  need_along_fits : raised t.top t.rise k * t.reciprocal < 18446744073709551616
  need_along_fits = rw (along_raised v o k h, ← (along v o k h).reciprocal) (need_fits v (along_on v o k h))

  need_along_few : crop_need s (t.number + k) ≤ 3000
  need_along_few = rw (← (on_number s (t.number + k))) (need_le s _ v (along_on v o k h).of)

-- The sum over k days by what is carried.
unfoldable pub summed : SeasonDay → ℕ → ℕ
summed t zero = 0
summed t (suc k) = summed t k + scaled (raised t.top t.rise (suc k)) t.reciprocal

-- i days are summed, and `top` is that of the last of them.
pub record Summing (t : SeasonDay) (days top sum i : ℕ) : Type 0 where
  pub few : i ≤ days
  pub is : top ≡ raised t.top t.rise i
  pub total : sum ≡ summed t i

pub summing_start : (t : SeasonDay) (days : ℕ) → Summing t days t.top 0 0
unfolding summed raised
summing_start t days = record { few = omega arith; is = ap nat_abs (risen_none t.top t.rise); total = refl }

module _ {s : Season} {t : SeasonDay} (v : Valid s) (o : OnDay s t) where
  pub summed_is : (k : ℕ) → k ≤ t.left → summed t k ≡ needs_after s t.number k
  unfolding summed needs_after
  summed_is zero h = refl
  summed_is (suc k) h = omega (arith, summed_is k (omega arith), need_along v o (suc k) h)

  summed_few : (k : ℕ) → k ≤ t.left → summed t k ≤ 3000 * k
  unfolding summed
  summed_few zero h = omega arith
  summed_few (suc k) h = omega (arith, summed_few k (omega arith), need_along v o (suc k) h, need_along_few v o (suc k) h)

  -- Where the coefficient stays, so does the need.
  pub needs_constant : t.rise ≡ pos 0 → (k : ℕ) → k ≤ t.left → k * scaled t.top t.reciprocal ≡ needs_after s t.number k
  unfolding needs_after
  needs_constant e zero h = omega arith
  needs_constant e (suc k) h =
      let x = scaled t.top t.reciprocal in
      let same : raised t.top t.rise (suc k) ≡ t.top = rw e (raised_level t.top (suc k)) in
      omega (arith, needs_constant e k (omega arith), suc-mul k x, sym (ap (λ (n : ℕ). scaled n t.reciprocal) same) ∙ need_along v o (suc k) h)

  module _ {days top sum i : ℕ} (w : Summing t days top sum i) (h : days ≤ t.left) (l : i < days) where
    -- One day more: it is the day after the last that was summed.
    pub summing_raising : Raising top t.rise 1
    summing_raising =
        let a = along v o i (omega arith) in
        rw (w.is, along_raised v o i (omega arith), ← a.rise) (raising v (along_on v o i (omega arith)) 1 (omega (arith, a.left)))

    next_top : raised top t.rise 1 ≡ raised t.top t.rise (i + 1)
    next_top = rw w.is (raised_more t.top t.rise i 1 (raising v o i (omega arith)).never_negative)

    pub summing_fits : raised top t.rise 1 * t.reciprocal < 18446744073709551616
    summing_fits = rw next_top (need_along_fits v o (i + 1) (omega arith))

    pub summing_small : sum + scaled (raised top t.rise 1) t.reciprocal ≤ 93000
    summing_small =
        rw next_top (omega (arith, w.total, summed_few i (omega arith), need_along v o (i + 1) (omega arith), need_along_few v o (i + 1) (omega arith), left_few v o))

    pub summing_more : {top' sum' : ℕ} → top' ≡ raised top t.rise 1 → sum' ≡ sum + scaled top' t.reciprocal → Summing t days top' sum' (i + 1)
    unfolding summed
    summing_more e f = record {
      few = omega arith;
      is = e ∙ next_top;
      total = rw (f, e, next_top, w.total, add-one);
    }
