-- The row that the code has open while it goes over the days: its needs so far, and what was planned of the month's rain before it.
use Rattle.std.specs.Prelude.{cond, ℕ, ◌-◌, min, leb}
use Rattle.season.specs.declared.SeasonDay.{SeasonDay}
use Rattle.season.specs.Rules.{rain_to}
use Rattle.decades.specs.declared.Row.{Row}
use Rattle.decades.specs.Table.{decade_of}

abbrev pub row_of : SeasonDay → ℕ → ℕ → Row
row_of t need before =
    record { month = t.month; decade = decade_of t.day; need = need; rain = rain_to t.effective t.day t.length - before }

-- The last day of a day's decade, in a month of 31 days.
abbrev pub decade_end : ℕ → ℕ
decade_end d = cond (leb d 10) 10 (cond (leb d 20) 20 31)

-- How many of the days after t are of its month, stage and decade.
abbrev pub days_alike : SeasonDay → ℕ
days_alike t = min t.left (decade_end t.day - t.day)
