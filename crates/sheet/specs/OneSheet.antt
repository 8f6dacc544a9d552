-- The one-sheet reader that the requests before T-08 had, its text as it was: forty or forty-one numbers in one sheet, by refusals 1 to 7. No call
-- reads such a sheet now; the claims say that a pair gets the answers that its numbers got in one sheet.
use Rattle.std.specs.Prelude.{ℕ, List, ◌++◌, take, drop}
use Rattle.verdict.specs.Refusals.{Verdict, Accepted, Refused}
use Rattle.fields.specs.Fields.{season_of, merged}
use Rattle.fields.specs.Refusals.{fields_verdict}
use Rattle.sheet.specs.Sheets.{Sheet, climate_numbers, block_numbers, refusal, only_accepted}
use Rattle.sheet.specs.Numbers.{Numbers, numbers_in, written}

-- The forty or forty-one numbers of a sheet, or the first of refusals 1 to 3.
abbrev pub numbers_read : List ℕ → Numbers
numbers_read = numbers_in 40 1

-- Refusals 4 to 7 after 1 to 3.
abbrev pub judged : List ℕ → Verdict → Sheet
judged f Accepted = only_accepted (season_of f) (fields_verdict f)
judged f (Refused number value) = refusal number value

-- A sheet: its season, or the first of refusals 1 to 7 that applies.
unfoldable pub sheet_of : List ℕ → Sheet
sheet_of s = judged (numbers_read s).fields (numbers_read s).verdict

-- ---- one sheet and two

-- The numbers of a pair, written in one sheet.
abbrev pub one_sheet : List ℕ → List ℕ → List ℕ
one_sheet climate block = written (merged (climate_numbers climate).fields (block_numbers block).fields)

-- The fields of one sheet, written apart: 10 to 33, and the others.
abbrev pub climate_part : List ℕ → List ℕ
climate_part sheet = written (take 24 (drop 9 (numbers_read sheet).fields))

abbrev pub block_part : List ℕ → List ℕ
block_part sheet = written (take 9 (numbers_read sheet).fields ++ drop 33 (numbers_read sheet).fields)
