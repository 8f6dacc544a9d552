-- Document 01, 'The season sheet': the fields' ranges, and what else an accepted sheet keeps to.
use Rattle.std.specs.Prelude.{Bool, ℕ, ◌+◌, ◌-◌, ◌/◌, ◌%◌, ◌^◌, ◌≤◌, eqb, get_or}
use Rattle.season.specs.Calendar.{month_days}
use Rattle.season.specs.declared.Season.{Season}

pub record Within (low high x : ℕ) : Type 0 where
  pub low≤ : low ≤ x
  pub ≤high : x ≤ high

-- Fields 1 to 41, each within its range (refusal 4). A month past the twelfth reads 0, which is in range.
pub record Ranged (s : Season) : Type 0 where
  pub month : Within 1 12 s.month
  pub first : Within 1 (month_days s.february s.month) s.first
  pub initial : Within 1 200 s.initial
  pub development : Within 1 200 s.development
  pub middle : Within 1 200 s.middle
  pub late : Within 1 200 s.late
  pub kcini : Within 10 200 s.kcini
  pub kcmid : Within 10 200 s.kcmid
  pub kcend : Within 10 200 s.kcend
  pub eto : (m : ℕ) → get_or s.eto m 0 ≤ 1500
  pub rain : (m : ℕ) → get_or s.rain m 0 ≤ 60000
  pub water : Within 1 400 s.water
  pub sowing : Within 10 300 s.sowing
  pub full : Within 10 300 s.full
  pub fraction : Within 5 80 s.fraction
  pub efficiency : Within 1 100 s.efficiency
  pub opening : s.opening ≤ 120000
  pub turns : s.turns ≤ 127
  pub february : Within 28 29 s.february

-- n, the days of the season, and the most that refusal 5 lets pass: 275 in place of document 01's 365 (request T-01).
abbrev pub season_days : Season → ℕ
season_days s = s.initial + s.development + s.middle + s.late

abbrev pub longest_season : ℕ
longest_season = 275

-- What refusals 4, 5 and 6 leave.
pub record Valid (s : Season) : Type 0 where
  pub ranges : Ranged s
  pub year : season_days s ≤ longest_season
  pub roots : s.sowing ≤ s.full

-- A day of the season.
pub record DayOf (s : Season) (i : ℕ) : Type 0 where
  pub from : 1 ≤ i
  pub to : i ≤ season_days s

-- Season day i is a turn day when bit (i − 1) mod 7 of field 40 is set, bit 0 the lowest.
abbrev pub is_turn : ℕ → ℕ → Bool
is_turn turns i = eqb (turns / 2 ^ ((i - 1) % 7) % 2) 1
