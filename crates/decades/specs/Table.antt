-- Document 01, 'Decade table'. A difference of natural numbers stops at 0.
use Rattle.std.specs.Prelude.{Bool, cond, ◌&&◌, List, [], ◌∷◌, ◌++◌, ℕ, zero, suc, ◌+◌, ◌-◌, ◌*◌, leb, ltb, eqb, length, drop, Result}
use Rattle.verdict.specs.declared.Refusal.{Refusal}
use Rattle.verdict.specs.Refusals.{by_result}
use Rattle.season.specs.declared.Season.{Season}
use Rattle.season.specs.Sheet.{season_days}
use Rattle.season.specs.Day.{date_of, crop_need, rain_on}
use Rattle.season.specs.Depths.{net_is, gross_of}
use Rattle.decades.specs.declared.Row.{Row}

-- Days 1–10, 11–20 and 21–end of a calendar month.
abbrev pub decade_of : ℕ → ℕ
decade_of d = cond (leb d 10) 1 (cond (leb d 20) 2 3)

-- What season day i brings to its row: C and planned rain.
unfoldable pub day_row : Season → ℕ → Row
day_row s i =
    record { month = (date_of s i).month; decade = decade_of (date_of s i).day; need = crop_need s i; rain = rain_on s i }

-- Two months and decades are the same.
abbrev pub same_decade : ℕ → ℕ → ℕ → ℕ → Bool
same_decade month decade m d = eqb month m && eqb decade d

abbrev pub joined : Row → Row → Row
joined a b = record { month = a.month; decade = a.decade; need = a.need + b.need; rain = a.rain + b.rain }

-- One day more, the latest row first: it joins the latest row where that is of its decade, and else begins a row of its own.
unfoldable pub with_day : List Row → Row → List Row
with_day [] r = r ∷ []
with_day (q ∷ qs) r = cond (same_decade q.month q.decade r.month r.decade) (joined q r ∷ qs) (r ∷ q ∷ qs)

-- The rows of season days 1 to i, the latest first.
unfoldable pub rows_to : Season → ℕ → List Row
rows_to s zero = []
rows_to s (suc i) = with_day (rows_to s i) (day_row s (suc i))

-- A row's six numbers: month, decade, sum of C, sum of planned rain, net = max(0, C − rain), gross.
unfoldable pub six : ℕ → Row → List ℕ
six e r = r.month ∷ r.decade ∷ r.need ∷ r.rain ∷ (r.need - r.rain) ∷ (gross_of e (net_is (r.need - r.rain))).0 ∷ []

-- All rows' numbers, in season order.
unfoldable pub flat : ℕ → List Row → List ℕ
flat e [] = []
flat e (r ∷ rs) = flat e rs ++ six e r

-- How many rows a season has, and its table.
abbrev pub row_count : Season → ℕ
row_count s = length (rows_to s (season_days s))

abbrev pub table : Season → List ℕ
table s = flat s.efficiency (rows_to s (season_days s))

-- What the table answers: how many rows, or a refusal with its number and the number returned with it.
pub data Tabled : Type 0 where
  Rows : ℕ → Tabled
  Refused : ℕ → ℕ → Tabled

-- The answer and the lent buffer after it: refusal 15 where the buffer has fewer numbers than six a row; else the row count, the rows, and
-- what stood beyond them.
unfoldable pub tabled : Season → List ℕ → Tabled × List ℕ
tabled s out =
    cond (ltb (length out) (row_count s * 6)) (Refused 15 0, out) (Rows (row_count s), table s ++ drop (row_count s * 6) out)

-- The numbers of an answer: 0, 0 and how many rows; or the refusal's number and the number returned with it.
abbrev pub numbers_of : Tabled → List ℕ
numbers_of (Rows count) = 0 ∷ 0 ∷ count ∷ []
numbers_of (Refused number value) = number ∷ value ∷ []

-- What a result of the code says.
abbrev pub tabled_in : Result ℕ Refusal → Tabled
tabled_in = by_result Rows Refused
