-- The calendar. February's days are given, months are counted from 1, and a year follows a year.
use Rattle.std.specs.Prelude.{cond, List, [], ◌∷◌, ℕ, zero, suc, ◌+◌, ◌-◌, ◌≤◌, ltb, get_or}
use Rattle.season.specs.declared.Date.{Date}

abbrev pub lengths : ℕ → List ℕ
lengths february = 31 ∷ february ∷ 31 ∷ 30 ∷ 31 ∷ 30 ∷ 31 ∷ 31 ∷ 30 ∷ 31 ∷ 30 ∷ 31 ∷ []

abbrev pub month_days : ℕ → ℕ → ℕ
month_days february m = get_or (lengths february) (m - 1) 0

abbrev pub month_after : ℕ → ℕ
month_after m = cond (ltb m 12) (m + 1) 1

abbrev pub date_is : ℕ → ℕ → Date
date_is m d = record { month = m; day = d }

-- The day after one of a month of so many days.
abbrev pub next_in : ℕ → Date → Date
next_in days t = cond (ltb t.day days) (date_is t.month (t.day + 1)) (date_is (month_after t.month) 1)

unfoldable pub next_day : ℕ → Date → Date
next_day february t = next_in (month_days february t.month) t

-- The date n days on.
unfoldable pub days_on : ℕ → Date → ℕ → Date
days_on february t zero = t
days_on february t (suc n) = days_on february (next_day february t) n

-- A day that the calendar has.
pub record Proper (february : ℕ) (t : Date) : Type 0 where
  pub month_low : 1 ≤ t.month
  pub month_high : t.month ≤ 12
  pub day_low : 1 ≤ t.day
  pub day_high : t.day ≤ month_days february t.month
