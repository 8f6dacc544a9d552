-- What the code carries from day to day in place of divisions. Nothing here is document 01's: `crop_need`, `rain_to`, `total_on` and `ready_on` are
-- equated with its rules, whatever is carried.
use Rattle.std.specs.Prelude.{cond, ◌≡◌, ℕ, zero, suc, ◌+◌, ◌-◌, ◌*◌, ◌/◌, ◌<◌, min, leb, ℤ, pos, nat_abs, ◌+ℤ◌, ◌-ℤ◌, ◌*ℤ◌}
use Rattle.season.specs.Calendar.{month_days}
use Rattle.season.specs.Sheet.{DayOf, season_days}
use Rattle.season.specs.Rules.{ramp}
use Rattle.season.specs.Day.{date_of, in_stage, eto_in, effective_in, crop_need}
use Rattle.season.specs.declared.Season.{Season}
use Rattle.season.specs.declared.Date.{Date}
use Rattle.season.specs.declared.SeasonDay.{SeasonDay}
use Rattle.season.specs.declared.Slope.{Slope}

-- 2^44.
abbrev pub scale : ℕ
scale = 17592186044416

-- The reciprocal of d on that scale, and x times a reciprocal, taken off the scale: x / d (`by_reciprocal`, proofs/Reciprocal.antt).
abbrev pub reciprocal : ℕ → ℕ
reciprocal d = scale / d + 1

abbrev pub scaled : ℕ → ℕ → ℕ
scaled x i = x * i / scale

-- `top` after k days of `rise`, which may be negative; and the same as a natural number.
abbrev pub risen : ℕ → ℤ → ℕ → ℤ
risen top rise k = pos top +ℤ pos k *ℤ rise

unfoldable pub raised : ℕ → ℤ → ℕ → ℕ
raised top rise k = nat_abs (risen top rise k)

-- The sum is never negative, and it and its parts fit 32 bits.
pub record Raising (top : ℕ) (rise : ℤ) (k : ℕ) : Type 0 where
  pub never_negative : pos (raised top rise k) ≡ risen top rise k
  pub small : raised top rise k < 2147483648
  pub top_small : top < 2147483648
  pub days_small : k < 2147483648
  pub growth_small : k * nat_abs rise < 2147483648

-- Day k of a stage of L days: with one coefficient, and from Kp to Kn.
abbrev pub constant : ℕ → ℕ → ℕ → Slope
constant kc l k = record { top = kc; bottom = 1; rise = pos 0; left = l - k }

abbrev pub sloping : ℕ → ℕ → ℕ → ℕ → Slope
sloping kp kn l k = record { top = ramp kp kn l k; bottom = l; rise = pos kn -ℤ pos kp; left = l - k }

-- The slope on day i. Past the season there is no stage.
unfoldable pub slope_of : Season → ℕ → Slope
slope_of s i = cond (leb i (season_days s)) (in_stage constant sloping s i) (constant 0 0 0)

-- What the roots grow, times the reciprocal of G.
abbrev pub growth_per_day : Season → ℕ
growth_per_day s = (s.full - s.sowing) * reciprocal (s.initial + s.development)

-- A season day as the code carries it from day to day: its number, its date, its month's length and effective rain; crop need as a quotient,
-- whose top is `rise` more on each of the `left` days after it in its month and stage; the reciprocal of 100 × L, the effective rain
-- times the reciprocal of the month's length, and what the roots grow.
abbrev pub on_date : Season → ℕ → Date → SeasonDay
on_date s i t =
    record {
      number = i;
      month = t.month;
      day = t.day;
      length = month_days s.february t.month;
      effective = effective_in s t.month;
      left = min (month_days s.february t.month - t.day) (slope_of s i).left;
      top = eto_in s t.month * (slope_of s i).top + 50 * (slope_of s i).bottom;
      rise = pos (eto_in s t.month) *ℤ (slope_of s i).rise;
      reciprocal = reciprocal (100 * (slope_of s i).bottom);
      rain_per_day = effective_in s t.month * reciprocal (month_days s.february t.month);
      growth_per_day = growth_per_day s;
    }

unfoldable pub day_of : Season → ℕ → SeasonDay
day_of s i = on_date s i (date_of s i)

-- t is a day of the season s.
pub record OnDay (s : Season) (t : SeasonDay) : Type 0 where
  pub is : t ≡ day_of s t.number
  pub of : DayOf s t.number

-- The sum of C over the k days after day i.
unfoldable pub needs_after : Season → ℕ → ℕ → ℕ
needs_after s i zero = 0
needs_after s i (suc k) = needs_after s i k + crop_need s (i + suc k)
