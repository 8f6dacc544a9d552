-- What the code carries: the day of the week, and the pass over the days.
use Rattle.std.specs.Prelude.{Bool, cond, ℕ, ◌+◌, ◌-◌, ◌/◌, ◌%◌, ◌^◌, eqb}
use Rattle.planner.specs.declared.DayOutlook.{DayOutlook}
use Rattle.planner.specs.declared.Track.{Track}

-- Bit `week` of the turns is set.
abbrev pub turn_in : ℕ → ℕ → Bool
turn_in turns week = eqb (turns / 2 ^ week % 2) 1

-- The track at the first day, which starts at D: there is nothing to fill.
abbrev pub track_from : ℕ → ℕ → Track
track_from today D = record { depletion = D; filled = D; turn = today; depth = 0 }

-- Day d is passed with no watering. A turn day is the latest from then on, and the depth that fills it is max(0, D − w).
unfoldable pub pass_day : Track → DayOutlook → ℕ → Track
pass_day k ahead d =
    record {
      depletion = k.depletion - ahead.water + ahead.need;
      filled = cond ahead.turn 0 (k.filled - ahead.water) + ahead.need;
      turn = cond ahead.turn d k.turn;
      depth = cond ahead.turn (k.depletion - ahead.water) k.depth;
    }
