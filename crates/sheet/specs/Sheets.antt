-- Document 02, T-08: a climate sheet and a block sheet, by document 01's refusals 1 to 7.
use Rattle.std.specs.Prelude.{ℕ, Bool, List, ◌++◌, length, take, drop, replicate, Result}
use Rattle.season.specs.declared.Season.{Season}
use Rattle.season.specs.declared.Accepted as accepted
use Rattle.verdict.specs.declared.Refusal.{Refusal}
use Rattle.verdict.specs.Refusals.{by_result, Verdict, Accepted, Refused, first_of}
use Rattle.fields.specs.Fields.{season_of, merged}
use Rattle.fields.specs.Refusals.{climate_lines, block_lines}
use Rattle.sheet.specs.declared.Climate as code
use Rattle.sheet.specs.Numbers.{Run, run, stop, numbers, Numbers, numbers_are, numbers_in}

-- The numbers of a climate sheet, twenty-four; and of a block sheet, sixteen, and a seventeenth where bytes follow them.
abbrev pub climate_numbers : List ℕ → Numbers
climate_numbers = numbers_in 24 0

abbrev pub block_numbers : List ℕ → Numbers
block_numbers = numbers_in 16 1

-- Refusals 1 to 3 of a sheet, and then those of its numbers: the first that applies.
abbrev pub then_refused : (List ℕ → List (Bool × ℕ × ℕ)) → Numbers → Verdict
then_refused lines n = first_of n.verdict (lines n.fields)

-- ---- a climate sheet

-- A climate sheet's numbers, ETo and dependable rain by month, and its verdict.
pub record Climate : Type 0 where
  pub eto : List ℕ
  pub rain : List ℕ
  pub verdict : Verdict

-- A refused climate sheet: its numbers are all 0.
abbrev pub no_climate : ℕ → ℕ → Climate
no_climate number value = record { eto = replicate 12 0; rain = replicate 12 0; verdict = Refused number value }

-- ETo of the twelve months and then their rain, where the verdict accepts.
abbrev pub climate_by : List ℕ → Verdict → Climate
climate_by c Accepted = record { eto = take 12 c; rain = take 12 (drop 12 c); verdict = Accepted }
climate_by c (Refused number value) = no_climate number value

-- A climate sheet: its numbers, or the first of refusals 1 to 4 that applies.
unfoldable pub climate_of : List ℕ → Climate
climate_of climate = climate_by (climate_numbers climate).fields (then_refused climate_lines (climate_numbers climate))

-- ---- a block sheet

-- A block sheet: its numbers, with the first of refusals 1 to 7 that applies.
unfoldable pub block_of : List ℕ → Numbers
block_of block = numbers_are (block_numbers block).fields (then_refused block_lines (block_numbers block))

-- ---- both

-- A season and its verdict.
pub record Sheet : Type 0 where
  pub season : Season
  pub verdict : Verdict

abbrev pub sheet_is : Season → Verdict → Sheet
sheet_is s v = record { season = s; verdict = v }

-- A refused pair: its numbers are all 0, but for February's days, which are 28.
abbrev pub refusal : ℕ → ℕ → Sheet
refusal number value = record { season = season_of (replicate 40 0); verdict = Refused number value }

-- The season where the verdict accepts, and else that of a refused pair.
abbrev pub only_accepted : Season → Verdict → Sheet
only_accepted s Accepted = record { season = s; verdict = Accepted }
only_accepted s (Refused number value) = refusal number value

-- A sheet, unless a refusal comes before it.
abbrev pub unless_refused : Verdict → Sheet → Sheet
unless_refused Accepted sheet = sheet
unless_refused (Refused number value) sheet = refusal number value

-- A climate that was read and a block sheet: the climate's refusal, else the block's, else the season of their numbers.
unfoldable pub block_with : Climate → List ℕ → Sheet
block_with climate block =
    unless_refused climate.verdict (only_accepted (season_of (merged (climate.eto ++ climate.rain) (block_of block).fields)) (block_of block).verdict)

-- A climate sheet and a block sheet: their season, or the first refusal that applies.
unfoldable pub sheets_of : List ℕ → List ℕ → Sheet
sheets_of climate block = block_with (climate_of climate) block

-- ---- one after the other

-- The table program's input is a climate sheet and then a block sheet. The first ends where its twenty-fourth number does; where the twenty-four are
-- not whole, all of the input is the climate sheet.
abbrev pub end_in : ℕ → Run → ℕ
end_in size (run vs at) = at
end_in size (stop number place) = size

unfoldable pub climate_end : List ℕ → ℕ
climate_end input = end_in (length input) (numbers 24 0 input)

-- ---- what a result of the code says

abbrev pub accepted_climate : code.Climate → Climate
accepted_climate c = record { eto = c.eto; rain = c.rain; verdict = Accepted }

abbrev pub climate_in : Result code.Climate Refusal → Climate
climate_in = by_result accepted_climate no_climate

abbrev pub season_in : Result Season Refusal → Sheet
season_in = by_result (λ s. sheet_is s Accepted) refusal

abbrev pub sheet_in : Result accepted.Accepted Refusal → Sheet
sheet_in = by_result (λ a. sheet_is a.season Accepted) refusal
