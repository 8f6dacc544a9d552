-- What the code carries from block to block, and what planning is given.
use Rattle.std.specs.Prelude.{ℕ, ◌*◌, ◌≤◌, ◌<◌, ◌≡◌, cond, List, ltb, length, get_or}
use Rattle.season.specs.declared.Season.{Season}
use Rattle.season.specs.Sheet.{Valid, DayOf, longest_season}
use Rattle.sheet.specs.Sheets.{block_with}
use Rattle.planner.specs.Answer.{Planned, Made, Refused}
use Rattle.planner.specs.Plan.{Plan, plan}
use Rattle.planner.specs.Outlook.{days_left}
use Rattle.planner.specs.Bank.{outlook_left}
use Rattle.bank.specs.declared.Kept.{Kept}
use Rattle.bank.specs.Blocks.{length_of, part_of}
use Rattle.bank.specs.Judging.{Judged, Blocks, judged_at}
use Rattle.bank.specs.Banks.{Bank, Progress}

-- So many blocks have three lengths each.
pub record Counted (blocks : ℕ) (lengths : List ℕ) : Type 0 where
  pub few : blocks ≤ 40
  pub three : 3 * blocks ≤ length lengths

-- What judging keeps of a block, and where nothing is kept.
abbrev pub kept_of : Judged → Kept
kept_of j = record { depletion = j.depletion; waiting = j.waiting }

abbrev pub nothing : Kept
nothing = record { depletion = 0; waiting = 0 }

-- What it keeps of each block, and the open day.
pub record Noted (b : Blocks) (n day : ℕ) (kept : List Kept) : Type 0 where
  pub first_day : day ≡ (judged_at b 0).start.day
  pub each : (k : ℕ) → k < n → get_or kept k nothing ≡ kept_of (judged_at b k)

-- The bank that planning is given: the climate and the sheets again, and what was kept.
abbrev pub bank_in : Blocks → ℕ → ℕ → List Kept → Bank
bank_in b limit today kept =
    record {
      limit = limit;
      day = today;
      season = λ k. (block_with b.climate (part_of b.lengths 0 b.sheets k)).season;
      depletion = λ k. (get_or kept k nothing).depletion;
      waiting = λ k. (get_or kept k nothing).waiting;
    }

-- A block can be planned.
pub record Ready (b : Bank) (lengths : List ℕ) (k : ℕ) : Type 0 where
  pub valid : Valid (b.season k)
  pub day : DayOf (b.season k) b.day
  pub small : b.depletion k ≤ 120000
  pub room : days_left (b.season k) b.day ≤ length_of lengths 2 k

abbrev pub AllReady : Bank → List ℕ → ℕ → Type 0
AllReady b lengths n = (k : ℕ) → k < n → Ready b lengths k

-- What is left in the answers and the depths.
abbrev pub left : Progress → List ℕ × List ℕ
left p = (p.answers, p.depths)

-- A block's plan by the counts of valves used.
abbrev pub plan_left : Season → ℕ → ℕ → ℕ → List ℕ → ℕ → Plan
plan_left s today D waiting used limit = plan (outlook_left s today waiting used limit) (days_left s today) today D

-- How many days of its part a block takes valves from.
abbrev pub days_taken : Planned → ℕ → ℕ
days_taken (Made d net gross) days = days
days_taken (Refused number value) days = 0

-- How many of the counts block k looks at: behind fewer blocks than the limit no day is full.
abbrev pub counts_seen : ℕ → ℕ → ℕ → ℕ
counts_seen k limit size = cond (ltb k limit) 0 size

-- The counts: one for each day of the longest season, none above the number of blocks.
pub record Counts (used : List ℕ) : Type 0 where
  pub size : length used ≡ longest_season
  pub few : (j : ℕ) → get_or used j 0 ≤ 40

-- A refusal's day fits 32 bits.
abbrev pub SmallDay : Planned → Type 0
SmallDay (Made days net gross) = Unit {0}
SmallDay (Refused number value) = value ≤ longest_season
