-- Document 02, T-02 and T-08: the writers. A climate's twenty-four numbers in, or a block's seventeen as the tablet has them (T-06: the last is
-- February's days); the sheet's bytes at the start of a lent buffer and their count out.
use Rattle.std.specs.Prelude.{ℕ, Bool, cond, List, [], ◌∷◌, ◌++◌, ltb, eqb, length, take, drop, get_or, Result}
use Rattle.season.specs.declared.Season.{Season}
use Rattle.verdict.specs.declared.Refusal as code
use Rattle.verdict.specs.Refusals.{Verdict, by_result, first_of}
use Rattle.verdict.specs.Refusals as verdict
use Rattle.sheet.specs.Numbers.{written}
use Rattle.fields.specs.Fields.{february_of, block_fields}
use Rattle.fields.specs.Refusals.{climate_lines, block_lines}

-- The block sheet's numbers: a February of 28 days is left out.
abbrev pub sheet_fields : List ℕ → List ℕ
sheet_fields vs = cond (eqb (get_or vs 16 0) 28) (take 16 vs) vs

-- And back: a block sheet's sixteen or seventeen numbers as the tablet gives them.
abbrev pub tablet_fields : List ℕ → List ℕ
tablet_fields b = take 16 b ++ (february_of (block_fields b) ∷ [])

-- The refusals of the numbers, as the reader gives them, then 15: the buffer has fewer bytes than the sheet.
abbrev pub write_lines : List (Bool × ℕ × ℕ) → List ℕ → ℕ → List (Bool × ℕ × ℕ)
write_lines lines bytes room = lines ++ ((ltb room (length bytes), 15, 0) ∷ [])

-- What a writer answers: how many bytes the sheet has, or a refusal.
pub data Written : Type 0 where
  Made : ℕ → Written
  Refused : ℕ → ℕ → Written

-- The answer and the lent buffer after it, by the verdict: a refusal, and the buffer as it was; or how many bytes, the bytes, and what stood
-- beyond them.
abbrev pub written_by : Verdict → List ℕ → List ℕ → Written × List ℕ
written_by verdict.Accepted bytes out = (Made (length bytes), bytes ++ drop (length bytes) out)
written_by (verdict.Refused number value) bytes out = (Refused number value, out)

-- Some bytes, unless a line or 15 applies.
unfoldable pub bytes_written : List (Bool × ℕ × ℕ) → List ℕ → List ℕ → Written × List ℕ
bytes_written lines bytes out = written_by (first_of verdict.Accepted (write_lines lines bytes (length out))) bytes out

-- The writers' answers, and the lent buffer: to a climate's numbers; to a block sheet's; and to the tablet's.
abbrev pub climate_written : List ℕ → List ℕ → Written × List ℕ
climate_written c = bytes_written (climate_lines c) (written c)

abbrev pub fields_written : List ℕ → List ℕ → Written × List ℕ
fields_written b = bytes_written (block_lines b) (written b)

abbrev pub block_written : List ℕ → List ℕ → Written × List ℕ
block_written vs = fields_written (sheet_fields vs)

-- The verdict of an answer.
abbrev pub write_verdict : Written → Verdict
write_verdict (Made count) = verdict.Accepted
write_verdict (Refused number value) = verdict.Refused number value

-- The numbers of an answer: 0, 0 and how many bytes; or the refusal's number and the number returned with it.
abbrev pub numbers_of : Written → List ℕ
numbers_of (Made count) = 0 ∷ 0 ∷ count ∷ []
numbers_of (Refused number value) = number ∷ value ∷ []

-- A season's numbers, in the order of the fields: its climate's, and its block's as the tablet has them.
abbrev pub climate_fields : Season → List ℕ
climate_fields s = s.eto ++ s.rain

abbrev pub season_fields : Season → List ℕ
season_fields s =
    s.month ∷ s.first ∷ s.initial ∷ s.development ∷ s.middle ∷ s.late ∷ s.kcini ∷ s.kcmid ∷ s.kcend
    ∷ s.water ∷ s.sowing ∷ s.full ∷ s.fraction ∷ s.efficiency ∷ s.opening ∷ s.turns ∷ s.february ∷ []

-- What a result of the code says.
abbrev pub written_in : Result ℕ code.Refusal → Written
written_in = by_result Made Refused
