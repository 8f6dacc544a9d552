-- What is proved of this crate's definitions. `claims`, in proofs/Claims.antt, has a proof of each field.
use Rattle.std.specs.Prelude.{ℕ, ◌≤◌, ◌<◌, ◌≡◌, ◌↔◌, List, length, get_or}
use Rattle.season.specs.Day.{AcceptedSeason}
use Rattle.verdict.specs.Refusals.{Accepted, Refused}
use Rattle.fields.specs.Fields.{february_of, limits, season_of, merged, block_fields}
use Rattle.fields.specs.Refusals.{season_lines, fields_verdict, climate_verdict, block_verdict}

pub record Claims : Type 0 where
  -- Forty or forty-one numbers that refusals 4 to 7 leave are each within their limits,
  pub accepted_within : (f : List ℕ) → 40 ≤ length f → length f ≤ 41 → fields_verdict f ≡ Accepted → (k : ℕ) → k < length f
      → ((get_or (limits (february_of f) (get_or f 0 0)) k (0, 0)).0 ≤ get_or f k 0) × (get_or f k 0 ≤ (get_or (limits (february_of f) (get_or f 0 0)) k (0, 0)).1)
  -- and their season is in its ranges, at most 275 days long, with Z0 at most Zm and an opening depletion of at most T on day 1.
  pub accepted_season : (f : List ℕ) → 40 ≤ length f → fields_verdict f ≡ Accepted → AcceptedSeason (season_of f)
  -- Forty numbers mean a February of 28 days; a forty-first that is not refused, one of 29.
  pub february_plain : (f : List ℕ) → length f ≡ 40 → (season_of f).february ≡ 28
  pub february_leap : (f : List ℕ) → length f ≡ 41 → fields_verdict f ≡ Accepted → (season_of f).february ≡ 29
  -- A refusal is one of 4 to 7, with a field's number or 0.
  pub refused_number : (f : List ℕ) (number value : ℕ) → fields_verdict f ≡ Refused number value → ((4 ≤ number) × (number ≤ 7)) × (value ≤ 41)
  -- A climate's numbers and a block's are accepted together exactly where each are by themselves: any climate goes with any block (document 02, T-08).
  pub merged_accepted_iff : (c b : List ℕ) → length c ≡ 24 → 16 ≤ length b
      → (fields_verdict (merged c b) ≡ Accepted) ↔ ((climate_verdict c ≡ Accepted) × (block_verdict b ≡ Accepted))
  -- Refusals 5 to 7 look at no climate.
  pub season_lines_alone : (c b : List ℕ) → length c ≡ 24 → 16 ≤ length b → season_lines (season_of (merged c b)) ≡ season_lines (season_of (block_fields b))
  -- A climate's refusal is 4, a block's one of 4 to 7; with a field's number or 0.
  pub climate_refused : (c : List ℕ) (number value : ℕ) → climate_verdict c ≡ Refused number value → (number ≡ 4) × (value ≤ 41)
  pub block_refused : (b : List ℕ) (number value : ℕ) → block_verdict b ≡ Refused number value → ((4 ≤ number) × (number ≤ 7)) × (value ≤ 41)
