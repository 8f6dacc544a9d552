-- Document 01, 'The plan': what planning reads of a season and its ledger. `today` is the open day, `waiting` the water that waits on it.
use Rattle.std.specs.Prelude.{cond, ℕ, ◌+◌, ◌-◌, eqb}
use Rattle.season.specs.Sheet.{season_days, is_turn}
use Rattle.season.specs.Day.{crop_need, rain_on, ready_on}
use Rattle.season.specs.declared.Season.{Season}
use Rattle.planner.specs.declared.DayOutlook.{DayOutlook}
use Rattle.planner.specs.Choices.{Outlook}

-- Planned rain, and on the open day the waiting water in its place.
abbrev pub outlook : Season → ℕ → ℕ → Outlook
outlook s today waiting =
    record {
      water = λ i. cond (eqb i today) waiting (rain_on s i);
      need = crop_need s;
      ready = ready_on s;
      turn = is_turn s.turns;
    }

-- What is read of one day.
abbrev pub outlook_on : Outlook → ℕ → DayOutlook
outlook_on o i = record { water = o.water i; need = o.need i; ready = o.ready i; turn = o.turn i }

-- How many days are left from day d on.
abbrev pub days_left : Season → ℕ → ℕ
days_left s d = season_days s + 1 - d
