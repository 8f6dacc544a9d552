-- Document 01, 'Why the controller says no': refusals 4 to 7 of forty or forty-one numbers, and of a climate's and a block's by themselves (document 02,
-- T-08). A line is a test, the number, the number returned with it.
use Rattle.std.specs.Prelude.{ℕ, Bool, cond, List, [], ◌∷◌, ltb, get_or, take, drop}
use Rattle.season.specs.declared.Season.{Season}
use Rattle.season.specs.Sheet.{season_days, longest_season}
use Rattle.season.specs.Day.{total_on}
use Rattle.verdict.specs.Refusals.{Verdict, Accepted, first_of}
use Rattle.fields.specs.Fields.{february_of, limits, lowest_outside, season_of, block_fields}

-- The lowest field that is outside its range; 0 where none is.
abbrev pub field_at_fault : List ℕ → ℕ
field_at_fault f = lowest_outside 1 (limits (february_of f) (get_or f 0 0)) f

-- Refusals 5 to 7.
abbrev pub season_lines : Season → List (Bool × ℕ × ℕ)
season_lines s =
    (ltb longest_season (season_days s), 5, 0)
    ∷ (ltb s.full s.sowing, 6, 0)
    ∷ (ltb (total_on s 1) s.opening, 7, 0)
    ∷ []

-- The numbers as they stand: refusals 4 to 7, and the first of them.
abbrev pub field_lines : List ℕ → List (Bool × ℕ × ℕ)
field_lines f = (ltb 0 (field_at_fault f), 4, field_at_fault f) ∷ season_lines (season_of f)

unfoldable pub fields_verdict : List ℕ → Verdict
fields_verdict f = first_of Accepted (field_lines f)

-- ---- a climate's numbers, and a block's

-- The lowest of fields 10 to 33 that is outside its range, whatever the month; 0 where none is.
abbrev pub climate_at_fault : List ℕ → ℕ
climate_at_fault c = lowest_outside 10 (take 24 (drop 9 (limits 28 1))) c

-- The first of two faults.
abbrev pub earlier : ℕ → ℕ → ℕ
earlier front back = cond (ltb 0 front) front back

-- The lowest of fields 1 to 9, and then of fields 34 to 41, in the block's month and February.
abbrev pub fault_in : ℕ → List ℕ → ℕ
fault_in february b =
    earlier (lowest_outside 1 (take 9 (limits february (get_or b 0 0))) (take 9 b)) (lowest_outside 34 (drop 33 (limits february (get_or b 0 0))) (drop 9 b))

abbrev pub block_at_fault : List ℕ → ℕ
block_at_fault b = fault_in (february_of (block_fields b)) b

-- Refusal 4 of a climate; refusals 4 to 7 of a block, which look at no climate.
abbrev pub climate_lines : List ℕ → List (Bool × ℕ × ℕ)
climate_lines c = (ltb 0 (climate_at_fault c), 4, climate_at_fault c) ∷ []

abbrev pub block_lines : List ℕ → List (Bool × ℕ × ℕ)
block_lines b = (ltb 0 (block_at_fault b), 4, block_at_fault b) ∷ season_lines (season_of (block_fields b))

unfoldable pub climate_verdict : List ℕ → Verdict
climate_verdict c = first_of Accepted (climate_lines c)

unfoldable pub block_verdict : List ℕ → Verdict
block_verdict b = first_of Accepted (block_lines b)
