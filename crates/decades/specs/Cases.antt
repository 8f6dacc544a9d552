-- Edges that are not in document 01: a season with as many rows as any has, and the lent buffer, on the small sheet's
-- two rows. Left, what the definitions answer; right, what the rules give.
use Rattle.std.specs.Prelude.{List, [], ◌∷◌, ◌++◌, ℕ, replicate}
use Rattle.season.specs.declared.Season.{Season}
use Rattle.season.specs.SmallSheet.{small}
use Rattle.decades.specs.Table.{numbers_of, row_count, tabled, Tabled}

-- The seed onion of FAO's stage table, 275 days, from 20 February, which has these days, to 21 November: each end is the edge of a decade. Where
-- February has 29 it ends on 20 November.
unfoldable pub onion : ℕ → Season
onion february =
    record {
      month = 2;
      first = 20;
      initial = 20;
      development = 45;
      middle = 165;
      late = 45;
      kcini = 70;
      kcmid = 105;
      kcend = 80;
      eto = 500 ∷ replicate 11 0;
      rain = replicate 12 0;
      water = 140;
      sowing = 30;
      full = 60;
      fraction = 35;
      efficiency = 75;
      opening = 0;
      turns = 127;
      february = february;
    }

-- An answer's numbers, and then the lent buffer.
abbrev shown : Tabled × List ℕ → List ℕ
shown a = numbers_of a.0 ++ a.1

-- The lent buffer.
unfoldable pub buffers : List (List ℕ × List ℕ)
buffers =
    -- a number beyond the rows stays
    (shown (tabled (small 127) (replicate 13 7)), 0 ∷ 0 ∷ 2 ∷ 1 ∷ 1 ∷ 700 ∷ 0 ∷ 700 ∷ 934 ∷ 1 ∷ 2 ∷ 800 ∷ 0 ∷ 800 ∷ 1067 ∷ 7 ∷ [])
    -- 12 numbers are enough, 11 are refused
    ∷ (shown (tabled (small 127) (replicate 12 7)), 0 ∷ 0 ∷ 2 ∷ 1 ∷ 1 ∷ 700 ∷ 0 ∷ 700 ∷ 934 ∷ 1 ∷ 2 ∷ 800 ∷ 0 ∷ 800 ∷ 1067 ∷ [])
    ∷ (shown (tabled (small 127) (replicate 11 7)), 15 ∷ 0 ∷ replicate 11 7)
    ∷ []

unfoldable pub edges : List (List ℕ × List ℕ)
edges =
    -- the most rows
    (row_count (onion 28) ∷ row_count (onion 29) ∷ [], 29 ∷ 28 ∷ [])
    ∷ buffers
