-- Document 01, 'Why the controller says no': refusals 1 to 7 of the bytes of a climate sheet and a block sheet, read downward. A line is a test, the number, the number returned
-- with it.
use Rattle.std.specs.Prelude.{ℕ, zero, suc, ◌+◌, Bool, true, false, cond, ◌&&◌, List, [], ◌∷◌, ◌++◌, ltb, eqb, length, drop}
use Rattle.fields.specs.Refusals.{climate_lines, block_lines}
use Rattle.sheet.specs.Sheets.{climate_numbers, block_numbers}

-- What comes first in the bytes: a byte that no number has at its place in it; the sheet's end; or the end of the last number wanted, that is, the
-- place after it.
pub data First : Type 0 where
  offends : ℕ → First
  ends : First
  whole : ℕ → First

-- `count` numbers are wanted; the next byte stands at place `at`, and `before` bytes of its number stand before it. A byte below 80 is its number's
-- last, and must not be 00 after others; any other must not be its third.
unfoldable pub comes_first : ℕ → ℕ → ℕ → List ℕ → First
comes_first zero at before s = whole at
comes_first (suc count) at before [] = ends
comes_first (suc count) at before (b ∷ s) =
    elim (ltb b 0x80) [
      | true ↦ elim (eqb b 0x00 && ltb 0 before) [ true ↦ offends at | false ↦ comes_first count (at + 1) 0 s ]
      | false ↦ elim (ltb before 2) [ true ↦ comes_first (suc count) (at + 1) (before + 1) s | false ↦ offends at ]
    ]

-- Where bytes follow the last number wanted, `extra` more are wanted from there on.
abbrev pub goes_on : ℕ → List ℕ → First → First
goes_on extra b (offends place) = offends place
goes_on extra b ends = ends
goes_on extra b (whole at) = cond (ltb at (length b)) (comes_first extra at 0 (drop at b)) (whole at)

-- 1: the sheet ends before the last number wanted is whole, or within one more; with its length.
abbrev pub ends_line : ℕ → First → Bool × ℕ × ℕ
ends_line size (offends place) = (false, 1, 0)
ends_line size ends = (true, 1, size)
ends_line size (whole at) = (false, 1, 0)

-- 2: a third byte of 80 or more, or a last byte 00 after others; with its place.
abbrev pub offence_line : First → Bool × ℕ × ℕ
offence_line (offends place) = (true, 2, place)
offence_line ends = (false, 2, 0)
offence_line (whole at) = (false, 2, 0)

-- 3: bytes follow the last number; with the first one's place.
abbrev pub extra_line : ℕ → First → Bool × ℕ × ℕ
extra_line size (offends place) = (false, 3, 0)
extra_line size ends = (false, 3, 0)
extra_line size (whole at) = (ltb at size, 3, at)

-- 1 and 2 are whichever comes first in the bytes, so at most one of them applies.
abbrev pub byte_lines : ℕ → First → List (Bool × ℕ × ℕ)
byte_lines size first = ends_line size first ∷ offence_line first ∷ extra_line size first ∷ []

-- 1 to 3 of a sheet that has a least count of numbers, or `extra` more.
abbrev pub bytes_refused : ℕ → ℕ → List ℕ → List (Bool × ℕ × ℕ)
bytes_refused least extra s = byte_lines (length s) (goes_on extra s (comes_first least 0 0 s))

-- A climate sheet: 1 to 3, and 4 of its numbers. A block sheet: 1 to 3, and 4 to 7 of its numbers.
abbrev pub climate_sheet_lines : List ℕ → List (Bool × ℕ × ℕ)
climate_sheet_lines climate = bytes_refused 24 0 climate ++ climate_lines (climate_numbers climate).fields

abbrev pub block_sheet_lines : List ℕ → List (Bool × ℕ × ℕ)
block_sheet_lines block = bytes_refused 16 1 block ++ block_lines (block_numbers block).fields

-- Both: the climate's first.
abbrev pub pair_lines : List ℕ → List ℕ → List (Bool × ℕ × ℕ)
pair_lines climate block = climate_sheet_lines climate ++ block_sheet_lines block
