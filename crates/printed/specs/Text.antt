-- Document 01, 'Decade table': the rows as the program prints them.
use Rattle.std.specs.Prelude.{ℕ, ◌+◌, ◌%◌, cond, List, [], ◌∷◌, ◌++◌, ltb, eqb, length, take, drop}
use Rattle.leb128.specs.Groups.{over_digits}
use Rattle.sheet.specs.Sheets.{climate_end}
use Rattle.decades.specs.Table.{table}
use Rattle.controller.specs.Calls.{on_sheets}

-- A number's decimal digits, the highest first.
unfoldable pub decimal : ℕ → List ℕ
decimal = over_digits 10 (λ n. (48 + n) ∷ []) (λ n digits. digits ++ ((48 + n % 10) ∷ []))

-- A number and the byte that ends it.
abbrev pub cell : ℕ → ℕ → List ℕ
cell n end = decimal n ++ (end ∷ [])

-- The number at place i of a table ends its row, or a space parts it from the next.
unfoldable pub ending : ℕ → ℕ
ending i = cond (eqb (i % 6) 5) 0x0a 0x20

-- A table's numbers, of which the first stands at place i.
unfoldable pub cells : ℕ → List ℕ → List ℕ
cells i [] = []
cells i (v ∷ vs) = cell v (ending i) ++ cells (i + 1) vs

-- The rows of an accepted pair of sheets; one line for a refused one, the refusal's number and the number returned with it.
abbrev pub sheets_printed : List ℕ → List ℕ → List ℕ
sheets_printed climate block = on_sheets (λ number value. cell number 0x20 ++ cell value 0x0a) (λ s. cells 0 (table s)) climate block

-- What is printed of an input: its climate sheet, and behind that its block sheet.
abbrev pub printed : List ℕ → List ℕ
printed input = sheets_printed (take (climate_end input) input) (drop (climate_end input) input)

-- How many bytes an input's text has, and a lent text with it at its start; none, and the lent text as it was, where that has fewer than 4,096.
abbrev pub printed_to : List ℕ → List ℕ → ℕ × List ℕ
printed_to input text =
    cond (ltb (length text) 4096) (0, text) (length (printed input), printed input ++ drop (length (printed input)) text)
