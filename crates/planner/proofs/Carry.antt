-- What is carried from day to day: a season's day, the month's planned rain before it, and the day of the week.
use mathlib.Core.Path.{◌≡◌, sym, ◌∙◌, subst⁻¹}
use mathlib.Core.Logic.{◌≢◌}
use mathlib.Core.Bool.{cond}
use Prim.Native.Nat.{ℕ, ◌+◌, ◌-◌, ◌*◌, ◌/◌, ◌%◌, ◌≤◌, ◌<◌}
use native.Mathlib.Nat.{mul-zero, zero-div}
use native.Mathlib.Omega.{arith}
use lib.Dec.{eqb}
use borrow.Author.Tests.{ne_eqb}
use Rattle.season.specs.declared.Season.{Season}
use Rattle.season.specs.declared.SeasonDay.{SeasonDay}
use Rattle.season.specs.Sheet.{Valid, DayOf, season_days}
use Rattle.season.specs.Rules.{rain_to}
use Rattle.season.specs.Day.{rain_on}
use Rattle.season.specs.Carried.{day_of, OnDay}
use Rattle.season.proofs.Whole.{by_order}
use Rattle.season.proofs.Days.{number_is, on_number, on_day, OnInMonth, day_small, rain_is, rain_grows, next_inside, next_month}
use Rattle.season.proofs.Along.{along, along_on}

-- The day of the week, from 0.
week_carried : (i j : ℕ) {week next : ℕ} → 1 ≤ i → j ≡ i + 1 → week ≡ (i - 1) % 7 → next ≡ (week + 1) % 7 → next ≡ (j - 1) % 7
week_carried i j h e a b = omega arith

-- The month's planned rain before day t, and up to it.
abbrev pub rain_before : SeasonDay → ℕ
rain_before t = rain_to t.effective (t.day - 1) t.length

abbrev pub rain_up_to : SeasonDay → ℕ
rain_up_to t = rain_to t.effective t.day t.length

none_before : (e m : ℕ) → 0 ≡ e * 0 / m
none_before e m = rw (mul-zero, zero-div)

module _ {s : Season} {t : SeasonDay} (v : Valid s) (o : OnDay s t) where
  -- Their difference is the day's planned rain.
  rain_today : {before to : ℕ} → before ≡ rain_before t → to ≡ rain_up_to t → to - before ≡ rain_on s t.number
  rain_today b u = rw (b, u) (rain_is v o)

  module _ {next : SeasonDay} {to : ℕ} (e : next ≡ day_of s (t.number + 1)) (u : to ≡ rain_up_to t) where
    -- The day after: in the same month, what is planned up to t.
    rain_inside : t.day < t.length → (next.day ≢ 1) × (to ≡ rain_before next)
    rain_inside h = rw e (after (next_inside v o h))
      where
        after : {d : SeasonDay} → OnInMonth t d → (d.day ≢ 1) × (to ≡ rain_before d)
        after n =
            let low = day_small v o in
            let back : t.day ≡ t.day + 1 - 1 = omega arith in
            ((λ h. omega (arith, low, n.day)), u ∙ rw (n.day, n.length, n.effective, ← back))

    -- None before the first of a month.
    rain_carried : {before : ℕ} → before ≡ cond (eqb next.day 1) 0 to → before ≡ rain_before next
    rain_carried {before} b = by_order t.day t.length over inside
      where
        Carried : SeasonDay → Type 0
        Carried d = (x : ℕ) → x ≡ cond (eqb d.day 1) 0 to → x ≡ rain_before d

        over : t.length ≤ t.day → before ≡ rain_before next
        over h = subst⁻¹ Carried (e ∙ sym (next_month v o h)) (λ x i. i ∙ none_before _ _) before b

        inside : t.day < t.length → before ≡ rain_before next
        inside h =
            let n = rain_inside h in
            b ∙ rw (ne_eqb next.day 1 n.0) n.1

    -- A stretch stays in its month.
    rain_along : 0 < t.left → to ≡ rain_before next
    rain_along h =
        let a = along v o 1 h in
        (rain_inside (omega (arith, a.day, a.length, day_small v (along_on v o 1 h)))).1

-- The loop has come to day t.
pub record Coming (s : Season) (last : ℕ) (t : SeasonDay) (before week : ℕ) : Type 0 where
  pub valid : Valid s
  pub season : last ≡ season_days s
  pub day : OnDay s t
  pub rain : before ≡ rain_before t
  pub days : week ≡ (t.number - 1) % 7

-- What rain_to asks of a day.
pub day_few : {s : Season} {t : SeasonDay} → Valid s → OnDay s t → (1 ≤ t.day) × (t.day ≤ 31)
day_few v o = ((day_small v o).0, omega (arith, day_small v o))

pub coming_start : {s : Season} {last today before : ℕ} {t : SeasonDay} → Valid s → DayOf s today → last ≡ season_days s → t ≡ day_of s today → before ≡ rain_before t
    → Coming s last t before ((today - 1) % 7)
coming_start {s} {last} {today} {before} {t} v d e i b =
    record { valid = v; season = e; day = on_day s t today d i; rain = b; days = rw (number_is s t today i) }

module _ {s : Season} {last : ℕ} {t : SeasonDay} {before week : ℕ} (w : Coming s last t before week) {to : ℕ} (u : to ≡ rain_up_to t) where
  pub coming_grows : before ≤ to
  coming_grows = rw (w.rain, u) (rain_grows w.valid w.day)

  pub coming_rain : to - before ≡ rain_on s t.number
  coming_rain = rain_today w.valid w.day w.rain u

  module _ {next : SeasonDay} {week' : ℕ} (e : next ≡ day_of s (t.number + 1)) (j : week' ≡ (week + 1) % 7) where
    coming_next : {after : ℕ} → DayOf s (t.number + 1) → after ≡ rain_before next → Coming s last next after week'
    coming_next d b =
        record {
          valid = w.valid;
          season = w.season;
          day = on_day s next (t.number + 1) d e;
          rain = b;
          days = week_carried t.number next.number w.day.of.from (number_is s next (t.number + 1) e) w.days j;
        }

    -- Within a month and a stage, which do not go past the season.
    pub coming_along : 0 < t.left → Coming s last next to week'
    coming_along h = coming_next (rw (on_number s (t.number + 1)) at (along_on w.valid w.day 1 h).of) (rain_along w.valid w.day e u h)

    -- To another month or stage.
    pub coming_over : {after : ℕ} → t.number < last → after ≡ cond (eqb next.day 1) 0 to → Coming s last next after week'
    coming_over h b = coming_next (record { from = omega arith; to = omega (arith, w.season) }) (rain_carried w.valid w.day e u b)
