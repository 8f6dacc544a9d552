-- Document 02's numbers of the two sheets (T-08): the small sheet of document 01, split, and what its refusals answer; with edges of refusals 1 to 7 and 15
-- that are not in the documents, and those of a seventeenth number (T-06).
-- Left, what the definitions answer; right, the refusal's number and the number returned with it, or 0 and 0. Of a writer the lent buffer too.
use Rattle.std.specs.Prelude.{ℕ, List, [], ◌∷◌, ◌++◌, replicate, set, take}
use Rattle.verdict.specs.Refusals.{numbers_of}
use Rattle.sheet.specs.Numbers.{written}
use Rattle.sheet.specs.Sheets.{sheets_of}
use Rattle.sheet.specs.Writing as writing
use Rattle.sheet.specs.Writing.{climate_written, block_written, Written}

-- The small pair, with turns 127.
abbrev pub small_climate : List ℕ
small_climate = 500 ∷ replicate 23 0

abbrev pub small_block : List ℕ
small_block = 1 ∷ 9 ∷ 1 ∷ 1 ∷ 1 ∷ 1 ∷ 40 ∷ 100 ∷ 60 ∷ 100 ∷ 20 ∷ 20 ∷ 50 ∷ 75 ∷ 0 ∷ 127 ∷ []

-- The leap pair (document 02, T-06), four days from 27 February, with no seventeenth number.
abbrev pub leap_climate : List ℕ
leap_climate = 0 ∷ 500 ∷ 1000 ∷ (replicate 10 0 ++ (10000 ∷ 10000 ∷ replicate 9 0))

abbrev pub leap_block : List ℕ
leap_block = 2 ∷ 27 ∷ 1 ∷ 1 ∷ 1 ∷ 1 ∷ 40 ∷ 100 ∷ 60 ∷ 100 ∷ 20 ∷ 20 ∷ 50 ∷ 75 ∷ 0 ∷ 127 ∷ []

-- The answer to the bytes of two sheets.
abbrev answer : List ℕ → List ℕ → List ℕ
answer climate block = numbers_of (sheets_of climate block).verdict

-- To a climate sheet with the small block, and to a block sheet with the small climate.
abbrev climate : List ℕ → List ℕ
climate bytes = answer bytes (written small_block)

abbrev block : List ℕ → List ℕ
block bytes = answer (written small_climate) bytes

-- To the small block's bytes and some more, and to a block's numbers and a seventeenth.
abbrev with17 : List ℕ → List ℕ
with17 more = block (written small_block ++ more)

abbrev ending : List ℕ → ℕ → List ℕ
ending fields february = block (written (fields ++ (february ∷ [])))

-- Another value at a place of some numbers.
abbrev changed : ℕ → ℕ → List ℕ → List ℕ
changed place value fields = set fields place value

-- The small block with other stages, and on another start.
abbrev staged : ℕ → ℕ → ℕ → ℕ → List ℕ
staged a b c d = changed 2 a (changed 3 b (changed 4 c (changed 5 d small_block)))

abbrev from : ℕ → ℕ → List ℕ
from month day = changed 0 month (changed 1 day small_block)

-- A writer's answer, and then the lent buffer: so many bytes EE.
abbrev shown : Written × List ℕ → List ℕ
shown a = writing.numbers_of a.0 ++ a.1

abbrev made_climate : List ℕ → ℕ → List ℕ
made_climate fields room = shown (climate_written fields (replicate room 0xEE))

abbrev made_block : List ℕ → ℕ → List ℕ
made_block fields room = shown (block_written fields (replicate room 0xEE))

unfoldable pub edges : List (List ℕ × List ℕ)
edges =
    -- the small pair is accepted
    (answer (written small_climate) (written small_block), 0 ∷ 0 ∷ [])
    -- the climate sheet: both empty; without its last byte; and 00, with an empty block too
    ∷ (answer [] [] ++ climate (take 24 (written small_climate)), 1 ∷ 0 ∷ 1 ∷ 24 ∷ [])
    ∷ (climate (written small_climate ++ (0x00 ∷ [])) ++ answer (written small_climate ++ (0x00 ∷ [])) [], 3 ∷ 25 ∷ 3 ∷ 25 ∷ [])
    -- ETo of January 1501; rain of December 60001; field 20 1501 with month 13, and with an empty block
    ∷ (climate (written (changed 0 1501 small_climate)) ++ climate (written (changed 23 60001 small_climate)), 4 ∷ 10 ∷ 4 ∷ 33 ∷ [])
    ∷ (
      answer (written (changed 10 1501 small_climate)) (written (from 13 9)) ++ answer (written (changed 10 1501 small_climate)) [],
      4 ∷ 20 ∷ 4 ∷ 20 ∷ [],
    )
    -- both sheets 80 00; the two exchanged; a climate sheet has no twenty-fifth number, whole or broken off
    ∷ (answer (0x80 ∷ 0x00 ∷ []) (0x80 ∷ 0x00 ∷ []) ++ answer (written small_block) (written small_climate), 2 ∷ 1 ∷ 1 ∷ 16 ∷ [])
    ∷ (climate (written small_climate ++ (0x1D ∷ [])) ++ climate (written small_climate ++ (0x80 ∷ [])), 3 ∷ 25 ∷ 3 ∷ 25 ∷ [])
    -- the block sheet: empty; without its last byte; 1 and 2 as they come first in the bytes
    ∷ (block [] ++ block (take 15 (written small_block)), 1 ∷ 0 ∷ 1 ∷ 15 ∷ [])
    ∷ (block (0x01 ∷ 0x80 ∷ 0x00 ∷ []) ++ block (0x01 ∷ 0x80 ∷ []) ++ block (0x01 ∷ 0x80 ∷ 0x80 ∷ 0x80 ∷ []), 2 ∷ 2 ∷ 1 ∷ 2 ∷ 2 ∷ 3 ∷ [])
    -- turns 128; field 34 0; field 9 9 and field 34 0
    ∷ (
      block (written (changed 15 128 small_block)) ++ block (written (changed 9 0 small_block)) ++ block (written (changed 8 9 (changed 9 0 small_block))),
      4 ∷ 40 ∷ 4 ∷ 34 ∷ 4 ∷ 9 ∷ [],
    )
    -- behind sixteen numbers bytes are a seventeenth: 29 is accepted, any other value is 4, 28 too; 1 and 2 as of any number
    ∷ (with17 (0x1D ∷ []), 0 ∷ 0 ∷ [])
    ∷ (with17 (0x1C ∷ []) ++ with17 (0x1E ∷ []) ++ with17 (0x00 ∷ []) ++ with17 (0x9D ∷ 0x01 ∷ []), 4 ∷ 41 ∷ 4 ∷ 41 ∷ 4 ∷ 41 ∷ 4 ∷ 41 ∷ [])
    ∷ (with17 (0x9D ∷ []) ++ with17 (0x80 ∷ 0x80 ∷ []), 1 ∷ 17 ∷ 1 ∷ 18 ∷ [])
    ∷ (with17 (0x9D ∷ 0x00 ∷ []) ++ with17 (0x80 ∷ 0x00 ∷ []) ++ with17 (0x80 ∷ 0x80 ∷ 0x80 ∷ []), 2 ∷ 17 ∷ 2 ∷ 17 ∷ 2 ∷ 18 ∷ [])
    -- blank memory behind them
    ∷ (with17 (0xFF ∷ []) ++ with17 (0xFF ∷ 0xFF ∷ []) ++ with17 (replicate 3 0xFF) ++ with17 (replicate 9 0xFF), 1 ∷ 17 ∷ 1 ∷ 18 ∷ 2 ∷ 18 ∷ 2 ∷ 18 ∷ [])
    -- 3: the first extra byte, also where no number stands there; before 4
    ∷ (with17 (0x1D ∷ 0x00 ∷ []) ++ with17 (0x1E ∷ 0x00 ∷ []) ++ with17 (0x00 ∷ 0x00 ∷ []) ++ with17 (0x1D ∷ 0x80 ∷ []), 3 ∷ 17 ∷ 3 ∷ 17 ∷ 3 ∷ 17 ∷ 3 ∷ 17 ∷ [])
    -- 29 February is a day where the seventeenth is 29, and there only; the lowest field at fault comes first, and 4 before 6
    ∷ (block (written (from 2 29)) ++ ending (from 2 29) 28 ++ ending (from 2 29) 30 ++ ending (from 2 29) 200 ++ ending (from 2 29) 29, 4 ∷ 2 ∷ 4 ∷ 2 ∷ 4 ∷ 2 ∷ 4 ∷ 2 ∷ 0 ∷ 0 ∷ [])
    ∷ (ending (from 2 28) 28 ++ ending (from 2 28) 30 ++ ending (from 2 30) 29 ++ ending (from 13 29) 30, 4 ∷ 41 ∷ 4 ∷ 41 ∷ 4 ∷ 2 ∷ 4 ∷ 1 ∷ [])
    ∷ (ending (changed 15 128 small_block) 30 ++ ending (changed 10 21 small_block) 30 ++ ending (changed 10 21 small_block) 29, 4 ∷ 40 ∷ 4 ∷ 41 ∷ 6 ∷ 0 ∷ [])
    -- 5: 276 days, also where 6 applies; 275 are accepted. 6: Z0 21. 7: an opening depletion of 2001
    ∷ (block (written (staged 73 101 51 51)) ++ block (written (changed 10 21 (staged 73 101 51 51))) ++ block (written (staged 73 100 51 51)), 5 ∷ 0 ∷ 5 ∷ 0 ∷ 0 ∷ 0 ∷ [])
    ∷ (block (written (changed 10 21 small_block)) ++ block (written (changed 14 2001 small_block)), 6 ∷ 0 ∷ 7 ∷ 0 ∷ [])
    -- the small climate, written to a buffer of just its bytes; 15: a byte fewer; 4 comes before it
    ∷ (made_climate small_climate 25, 0 ∷ 0 ∷ 25 ∷ 0xF4 ∷ 0x03 ∷ replicate 23 0x00)
    ∷ (made_climate small_climate 24 ++ made_climate (changed 0 1501 small_climate) 0, 15 ∷ 0 ∷ (replicate 24 0xEE ++ (4 ∷ 10 ∷ [])))
    -- the small block likewise; day 32 is 4, an opening depletion of 2001 is 7
    ∷ (
      made_block (small_block ++ (28 ∷ [])) 16,
      0 ∷ 0 ∷ 16 ∷ 0x01 ∷ 0x09 ∷ 0x01 ∷ 0x01 ∷ 0x01 ∷ 0x01 ∷ 0x28 ∷ 0x64 ∷ 0x3C ∷ 0x64 ∷ 0x14 ∷ 0x14 ∷ 0x32 ∷ 0x4B ∷ 0x00 ∷ 0x7F ∷ [],
    )
    ∷ (
      made_block (small_block ++ (28 ∷ [])) 15 ++ made_block (changed 1 32 small_block ++ (28 ∷ [])) 0 ++ made_block (changed 14 2001 small_block ++ (28 ∷ [])) 0,
      15 ∷ 0 ∷ (replicate 15 0xEE ++ (4 ∷ 2 ∷ 7 ∷ 0 ∷ [])),
    )
    -- 29 is written; any other February is 4, and 29 February with 28 is too
    ∷ (
      made_block (small_block ++ (29 ∷ [])) 16 ++ made_block (small_block ++ (30 ∷ [])) 0 ++ made_block (from 2 29 ++ (28 ∷ [])) 0 ++ made_block (from 2 29 ++ (0 ∷ [])) 0,
      15 ∷ 0 ∷ (replicate 16 0xEE ++ (4 ∷ 41 ∷ 4 ∷ 2 ∷ 4 ∷ 2 ∷ [])),
    )
    ∷ []
