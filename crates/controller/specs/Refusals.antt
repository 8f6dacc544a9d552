-- Document 01, 'Why the controller says no': each call's refusals, read downward. A line is a test, the number, the number returned with it. What a call
-- answers is held against the first line that applies by its numbering (`verdict_of` of its numbers). The role's stand first: those of journal's
-- specs/Roles.antt. The writers' own are `write_lines` of sheet's specs/Writing.antt.
use Rattle.std.specs.Prelude.{ℕ, zero, suc, ◌*◌, Bool, true, false, ◌&&◌, ◌||◌, List, [], ◌∷◌, ◌++◌, ltb, length}
use Rattle.season.specs.declared.Season.{Season}
use Rattle.season.specs.Sheet.{season_days}
use Rattle.season.specs.Loss.{ky_outside}
use Rattle.sheet.specs.Sheets.{climate_of, sheets_of}
use Rattle.sheet.specs.Refusals.{climate_sheet_lines, block_sheet_lines, pair_lines}
use Rattle.journal.specs.declared.Entry.{Entry}
use Rattle.journal.specs.declared.Ledger.{Ledger}
use Rattle.journal.specs.Opening.{Opening, opening}
use Rattle.journal.specs.Opening as found
use Rattle.journal.specs.Entries.{waiting, start, refusals}
use Rattle.journal.specs.Roles.{Line}
use Rattle.planner.specs.Plan.{Plan, depths, refused, plan}
use Rattle.planner.specs.Outlook.{outlook, days_left}
use Rattle.bank.specs.Blocks.{length_of, part_of, bank_wrong}
use Rattle.bank.specs.Judging.{blocks_of, judged_at, starts_differ}
use Rattle.decades.specs.Table.{row_count}
use Rattle.probes.specs.declared.Probe.{Probe}
use Rattle.probes.specs.Contents.{wrong_content, no_content}
use Rattle.measuring.specs.Probing.{capacity_outside}

-- ---- 20 and 21, for every call; then 1 to 7, for every call that is given two sheets

-- The role's lines (`look_lines` or `enter_lines`), the climate sheet's, the block sheet's, then the call's.
abbrev pub on_lines : List Line → List ℕ → List ℕ → (Season → List Line) → List Line
on_lines role climate block lines = role ++ (pair_lines climate block ++ lines (sheets_of climate block).season)

-- ---- 8 to 14, and 17

-- What an opening found: damage or a torn part, and its place; and the ledger, that of a blank journal where there is none.
abbrev pub damaged : Opening → Bool × ℕ
damaged (found.Clean l) = (false, 0)
damaged (found.Torn l place) = (false, 0)
damaged (found.Refused number place) = (true, place)

abbrev pub torn : Opening → Bool × ℕ
torn (found.Clean l) = (false, 0)
torn (found.Torn l place) = (true, place)
torn (found.Refused number place) = (false, 0)

abbrev pub ledger_in : Season → Opening → Ledger
ledger_in s (found.Clean l) = l
ledger_in s (found.Torn l place) = l
ledger_in s (found.Refused number place) = start s

-- 8 and 9 concern every journal call.
abbrev pub journal_lines : List ℕ → Season → List Line
journal_lines area s = (ltb 8192 (length area), 8, 0) ∷ ((damaged (opening s area)).0, 9, (damaged (opening s area)).1) ∷ []

abbrev pub torn_line : Opening → Line
torn_line o = ((torn o).0, 10, (torn o).1)

-- Open: a torn journal is numbered 10 with its place. That is no refusal of open: the ledger comes with it.
abbrev pub open_lines : List ℕ → Season → List Line
open_lines area s = journal_lines area s ++ (torn_line (opening s area) ∷ [])

-- Loss: 17 stands right after 9, so before 10; 11 does not concern it.
abbrev pub loss_lines : List ℕ → ℕ → Season → List Line
loss_lines area ky s = journal_lines area s ++ ((ky_outside ky, 17, 0) ∷ torn_line (opening s area) ∷ [])

-- Rain, irrigation and close: 10 refuses them.
abbrev pub entry_lines : List ℕ → Entry → Season → List Line
entry_lines area e s = open_lines area s ++ refusals (season_days s) (length area) (ledger_in s (opening s area)) e

-- ---- 15 and 16

-- The plan from a ledger, and the day with which it is refused: exactly when no choice holds, and with the first day that no choice holds (the
-- planner's claims, and `plan_right`).
abbrev pub plan_of : Season → Ledger → Plan
plan_of s l = plan (outlook s l.day (waiting l)) (days_left s l.day) l.day l.depletion

abbrev pub lost : Plan → Bool × ℕ
lost (depths xs) = (false, 0)
lost (refused f) = (true, f)

abbrev pub room_lines : Season → ℕ → Ledger → List Line
room_lines s room l =
    (ltb (season_days s) l.day, 11, 0)
    ∷ (ltb room (days_left s l.day), 15, 0)
    ∷ ((lost (plan_of s l)).0, 16, (lost (plan_of s l)).1)
    ∷ []

-- Plan, into a buffer of so many numbers.
abbrev pub plan_lines : List ℕ → ℕ → Season → List Line
plan_lines area room s = open_lines area s ++ room_lines s room (ledger_in s (opening s area))

-- Table, likewise: six numbers a row.
abbrev pub table_lines : ℕ → Season → List Line
table_lines room s = (ltb room (row_count s * 6), 15, 0) ∷ []

-- ---- 18 and 19

-- Probe (document 02, T-07): both after 11. A content at fault is 18 in either probe; 19 is no content from either.
abbrev pub probe_lines : List ℕ → Probe → Probe → ℕ → Season → List Line
probe_lines area shallow deep f s =
    open_lines area s
    ++ ((ltb (season_days s) (ledger_in s (opening s area)).day, 11, 0)
    ∷ (wrong_content shallow || wrong_content deep || capacity_outside f, 18, 0)
    ∷ (no_content shallow && no_content deep, 19, 0)
    ∷ [])

-- ---- 22 and 23

-- A block of a bank (document 02, T-10), behind its sheet's: 8 to 11 and 15. 16 is its own answer.
abbrev pub stand_lines : List ℕ → ℕ → Season → List Line
stand_lines area room s =
    open_lines area s
    ++ ((ltb (season_days s) (ledger_in s (opening s area)).day, 11, 0)
    ∷ (ltb room (days_left s (ledger_in s (opening s area)).day), 15, 0)
    ∷ [])

-- The first n blocks, first block first.
unfoldable pub blocks_lines : List ℕ → List ℕ → List ℕ → List ℕ → ℕ → List Line
blocks_lines climate lengths sheets areas zero = []
blocks_lines climate lengths sheets areas (suc k) =
    blocks_lines climate lengths sheets areas k
    ++ (block_sheet_lines (part_of lengths 0 sheets k)
    ++ stand_lines (part_of lengths 1 areas k) (length_of lengths 2 k) (sheets_of climate (part_of lengths 0 sheets k)).season)

-- A bank: 22; the climate sheet's; block by block the block's; 23.
abbrev pub bank_lines : List ℕ → ℕ → ℕ → List ℕ → List ℕ → List ℕ → ℕ → List Line
bank_lines climate blocks limit lengths sheets areas room =
    (bank_wrong blocks limit lengths (length sheets) (length areas) room, 22, 0)
    ∷ (climate_sheet_lines climate
    ++ (blocks_lines climate lengths sheets areas blocks
    ++ ((starts_differ (judged_at (blocks_of (climate_of climate) lengths sheets areas)) blocks, 23, 0) ∷ [])))
