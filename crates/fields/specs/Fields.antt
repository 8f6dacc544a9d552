-- Document 01, 'The season sheet': the fields, their ranges and their names; and the two sheets that they stand in (document 02, T-08).
use Rattle.std.specs.Prelude.{ℕ, ◌+◌, Bool, cond, ◌||◌, List, [], ◌∷◌, ◌++◌, ltb, eqb, get_or, replicate, take, drop}
use Rattle.season.specs.Calendar.{month_days}
use Rattle.season.specs.declared.Season.{Season}
use Rattle.fields.specs.declared.Limit.{Limit}

-- The days of February: 29 where a forty-first number says so, and else 28.
abbrev pub february_of : List ℕ → ℕ
february_of f = cond (eqb (get_or f 40 0) 29) 29 28

-- The lowest and the highest number of each field: 1; 2, which goes to the month's length; 3 to 6; 7 to 9; 10 to 21; 22 to 33; 34 to 41.
abbrev pub limits : ℕ → ℕ → List Limit
limits february month =
    (1, 12) ∷ (1, month_days february month) ∷ (
    replicate 4 (1, 200) ++ replicate 3 (10, 200) ++ replicate 12 (0, 1500) ++ replicate 12 (0, 60000)
    ++ ((1, 400) ∷ (10, 300) ∷ (10, 300) ∷ (5, 80) ∷ (1, 100) ∷ (0, 120000) ∷ (0, 127) ∷ (29, 29) ∷ []))

unfoldable pub outside : Limit → ℕ → Bool
outside limit x = ltb x limit.0 || ltb limit.1 x

-- The lowest field outside its limits, the first having number i; 0 where none is. It ends with the shorter list: a sheet may have forty numbers or
-- forty-one.
unfoldable pub lowest_outside : ℕ → List Limit → List ℕ → ℕ
lowest_outside i [] vs = 0
lowest_outside i (l ∷ ls) [] = 0
lowest_outside i (l ∷ ls) (v ∷ vs) = cond (outside l v) i (lowest_outside (i + 1) ls vs)

-- Field k, counted from 1, stands at place k - 1. February has these days.
abbrev pub season_in : ℕ → List ℕ → Season
season_in february f = record {
  month = get_or f 0 0;
  first = get_or f 1 0;
  initial = get_or f 2 0;
  development = get_or f 3 0;
  middle = get_or f 4 0;
  late = get_or f 5 0;
  kcini = get_or f 6 0;
  kcmid = get_or f 7 0;
  kcend = get_or f 8 0;
  eto = get_or f 9 0 ∷ get_or f 10 0 ∷ get_or f 11 0 ∷ get_or f 12 0 ∷ get_or f 13 0 ∷ get_or f 14 0 ∷ get_or f 15 0 ∷ get_or f 16 0 ∷ get_or f 17 0 ∷ get_or f 18 0 ∷ get_or f 19 0 ∷ get_or f 20 0 ∷ [];
  rain = get_or f 21 0 ∷ get_or f 22 0 ∷ get_or f 23 0 ∷ get_or f 24 0 ∷ get_or f 25 0 ∷ get_or f 26 0 ∷ get_or f 27 0 ∷ get_or f 28 0 ∷ get_or f 29 0 ∷ get_or f 30 0 ∷ get_or f 31 0 ∷ get_or f 32 0 ∷ [];
  water = get_or f 33 0;
  sowing = get_or f 34 0;
  full = get_or f 35 0;
  fraction = get_or f 36 0;
  efficiency = get_or f 37 0;
  opening = get_or f 38 0;
  turns = get_or f 39 0;
  february = february;
}

abbrev pub season_of : List ℕ → Season
season_of f = season_in (february_of f) f

-- A climate sheet has fields 10 to 33, a block sheet the others: its first nine numbers are fields 1 to 9. The fields of both in their order.
unfoldable pub merged : List ℕ → List ℕ → List ℕ
merged c b = take 9 b ++ c ++ drop 9 b

-- The number of the field at a place of a block sheet.
abbrev pub block_field : ℕ → ℕ
block_field place = cond (ltb place 9) (place + 1) (place + 25)

-- A block's fields with no climate: 0 for each of its numbers.
abbrev pub block_fields : List ℕ → List ℕ
block_fields = merged (replicate 24 0)
