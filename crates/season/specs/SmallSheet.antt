-- Document 01, 'Numbers to hold against it': the small sheet's season; and document 02, T-06: the leap sheet's, over the end of February.
use Rattle.std.specs.Prelude.{List, ◌∷◌, ℕ, replicate}
use Rattle.season.specs.declared.Season.{Season}

-- From this month and day, with stages of so many days, ETo and rain by month, opening depletion, turns and days of February.
abbrev pub block_with : ℕ → ℕ → ℕ → List ℕ → List ℕ → ℕ → ℕ → ℕ → Season
block_with month first days eto rain opening turns february =
    record {
      month = month;
      first = first;
      initial = days;
      development = days;
      middle = days;
      late = days;
      kcini = 40;
      kcmid = 100;
      kcend = 60;
      eto = eto;
      rain = rain;
      water = 100;
      sowing = 20;
      full = 20;
      fraction = 50;
      efficiency = 75;
      opening = opening;
      turns = turns;
      february = february;
    }

-- The small sheet's, with stages of so many days, this ETo of January, opening depletion and turns.
abbrev pub small_with : ℕ → ℕ → ℕ → ℕ → Season
small_with days eto opening turns = block_with 1 9 days (eto ∷ replicate 11 0) (replicate 12 0) opening turns 28

-- With these turns.
unfoldable pub small : ℕ → Season
small turns = small_with 1 500 0 turns

-- The leap sheet's: four days from 27 February, which has these days.
unfoldable pub leap : ℕ → Season
leap february = block_with 2 27 1 (0 ∷ 500 ∷ 1000 ∷ replicate 9 0) (0 ∷ 10000 ∷ 10000 ∷ replicate 9 0) 0 127 february
