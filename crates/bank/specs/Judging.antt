-- Document 02, T-10: what is judged of each block before anything is written: 1 to 7 by its sheet, then 8 to 11 and 15; and of all of them 23.
use Rattle.std.specs.Prelude.{ℕ, zero, suc, ◌≡◌, Bool, false, not, ◌&&◌, ◌||◌, List, [], ◌∷◌, eqb, ltb, Result}
use Rattle.verdict.specs.declared.Refusal.{Refusal}
use Rattle.verdict.specs.Refusals.{Verdict, Accepted, Refused, or_refused, first_of, by_result, verdict_in}
use Rattle.season.specs.declared.Season.{Season}
use Rattle.season.specs.Sheet.{season_days}
use Rattle.sheet.specs.Sheets.{Climate, climate_of, block_with, accepted_climate}
use Rattle.journal.specs.Opening.{Opening, opening}
use Rattle.journal.specs.Opening as found
use Rattle.journal.specs.Entries.{waiting}
use Rattle.planner.specs.Outlook.{days_left}
use Rattle.bank.specs.declared.Start.{Start}
use Rattle.bank.specs.declared.Blocks.{Blocks as CodeBlocks}
use Rattle.bank.specs.declared.Stand.{Stand as CodeStand}
use Rattle.bank.specs.declared.Judged.{Judged as CodeJudged}
use Rattle.bank.specs.Blocks.{length_of, part_of}

-- ---- one block

-- What a block's journal says: a verdict, and its ledger's open day, depletion and waiting water, 0 where the journal is no clean one.
pub record Stand : Type 0 where
  pub verdict : Verdict
  pub day : ℕ
  pub depletion : ℕ
  pub waiting : ℕ

-- A block that is judged.
pub record Judged : Type 0 where
  pub verdict : Verdict
  pub start : Start
  pub depletion : ℕ
  pub waiting : ℕ

-- 8 to 11 and 15 of a journal that opens so, with room for so many depths; then what its ledger has for a plan.
abbrev pub no_standing : ℕ → ℕ → Stand
no_standing number value = record { verdict = Refused number value; day = 0; depletion = 0; waiting = 0 }

unfoldable pub standing_on : Season → ℕ → Opening → Stand
standing_on s room (found.Clean l) =
    record {
      verdict = first_of Accepted ((ltb (season_days s) l.day, 11, 0) ∷ (ltb room (days_left s l.day), 15, 0) ∷ []);
      day = l.day;
      depletion = l.depletion;
      waiting = waiting l;
    }
standing_on s room (found.Torn l place) = no_standing 10 place
standing_on s room (found.Refused number place) = no_standing number place

-- With what 23 compares: fields 1 and 2, February's days and the open day.
abbrev pub judged_in : Season → Stand → Judged
judged_in s t =
    record {
      verdict = t.verdict;
      start = record { month = s.month; first = s.first; february = s.february; day = t.day };
      depletion = t.depletion;
      waiting = t.waiting;
    }

abbrev pub not_judged : ℕ → ℕ → Judged
not_judged number value =
    record { verdict = Refused number value; start = record { month = 0; first = 0; february = 0; day = 0 }; depletion = 0; waiting = 0 }

abbrev pub judged_by : Verdict → Season → List ℕ → ℕ → Judged
judged_by Accepted s area room = judged_in s (standing_on s room (opening s area))
judged_by (Refused number value) s area room = not_judged number value

-- A block sheet and a journal, with a climate that was read and room for so many depths.
unfoldable pub judged : Climate → List ℕ → List ℕ → ℕ → Judged
judged climate sheet area room = judged_by (block_with climate sheet).verdict (block_with climate sheet).season area room

-- ---- all of them

-- What judging reads: the climate, and the blocks' lengths, sheets and journals.
pub record Blocks : Type 0 where
  pub climate : Climate
  pub lengths : List ℕ
  pub sheets : List ℕ
  pub areas : List ℕ

abbrev pub blocks_of : Climate → List ℕ → List ℕ → List ℕ → Blocks
blocks_of climate lengths sheets areas = record { climate = climate; lengths = lengths; sheets = sheets; areas = areas }

abbrev pub judged_at : Blocks → ℕ → Judged
judged_at b k = judged b.climate (part_of b.lengths 0 b.sheets k) (part_of b.lengths 1 b.areas k) (length_of b.lengths 2 k)

-- The first refusal, and another where there is none.
abbrev pub before : Verdict → Verdict → Verdict
before Accepted v = v
before (Refused number value) v = Refused number value

-- The first n blocks' refusals, first block first.
unfoldable pub first_refused : (ℕ → Judged) → ℕ → Verdict
first_refused f zero = Accepted
first_refused f (suc n) = before (first_refused f n) (f n).verdict

-- 23: one of the first n differs from the first.
abbrev pub other_start : Start → Start → Bool
other_start a b = not (eqb a.month b.month && (eqb a.first b.first && (eqb a.february b.february && eqb a.day b.day)))

unfoldable pub starts_differ : (ℕ → Judged) → ℕ → Bool
starts_differ f zero = false
starts_differ f (suc n) = starts_differ f n || other_start (f 0).start (f n).start

abbrev pub blocks_verdict : (ℕ → Judged) → ℕ → Verdict
blocks_verdict f n = or_refused (first_refused f n) (starts_differ f n) 23 0

-- A climate as its sheet gives it.
abbrev pub ReadClimate : Climate → Type 0
ReadClimate c = (climate : List ℕ) × (c ≡ climate_of climate)

-- ---- what the types of the code say

abbrev pub blocks_in : CodeBlocks → Blocks
blocks_in b = blocks_of (accepted_climate b.climate) b.lengths.now b.sheets.now b.areas.now

abbrev pub stand_in : CodeStand → Stand
stand_in t = record { verdict = verdict_in t.verdict; day = t.day; depletion = t.kept.depletion; waiting = t.kept.waiting }

abbrev pub judging_in : Result CodeJudged Refusal → Judged
judging_in = by_result (λ j. record { verdict = Accepted; start = j.start; depletion = j.kept.depletion; waiting = j.kept.waiting }) not_judged

-- Of a block that is refused the code keeps the refusal alone.
abbrev only_by : Verdict → Judged → Judged
only_by Accepted j = j
only_by (Refused number value) j = not_judged number value

abbrev pub only_judged : Judged → Judged
only_judged j = only_by j.verdict j
