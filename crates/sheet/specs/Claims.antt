-- What is proved of this crate's definitions. `claims`, in proofs/Claims.antt, has a proof of each field.
use Rattle.std.specs.Prelude.{◌≡◌, ◌↔◌, List, [], ◌∷◌, ◌++◌, map, ℕ, ◌≤◌, length, take, drop, get_or}
use Rattle.leb128.specs.Claims.{Bytes}
use Rattle.season.specs.Day.{AcceptedSeason}
use Rattle.season.specs.SmallSheet as season
use Rattle.verdict.specs.Refusals.{Accepted, Refused, first_of}
use Rattle.fields.specs.Fields.{season_of, merged}
use Rattle.fields.specs.Refusals.{climate_lines, block_lines, climate_verdict, block_verdict}
use Rattle.sheet.specs.Writing.{Written, Made, sheet_fields, tablet_fields, write_lines, climate_written, block_written, write_verdict, numbers_of, climate_fields, season_fields}
use Rattle.sheet.specs.Writing as writer
use Rattle.sheet.specs.Numbers.{run, numbers, numbers_are, written}
use Rattle.sheet.specs.Sheets.{climate_numbers, block_numbers, climate_by, climate_of, block_of, sheet_is, refusal, sheets_of}
use Rattle.sheet.specs.Refusals.{climate_sheet_lines, block_sheet_lines, pair_lines}
use Rattle.sheet.specs.OneSheet.{sheet_of, one_sheet, climate_part, block_part}
use Rattle.sheet.specs.Cases.{small_climate, small_block, leap_climate, leap_block, edges}

pub record Claims : Type 0 where
  -- An accepted pair's season is in its ranges, at most 275 days long, with Z0 at most Zm and an opening depletion of at most T on day 1.
  pub accepted_season : (climate block : List ℕ) → (sheets_of climate block).verdict ≡ Accepted → AcceptedSeason (sheets_of climate block).season
  -- A refused pair's numbers are all 0, and its February has 28 days.
  pub refused_empty : (climate block : List ℕ) (number value : ℕ) → (sheets_of climate block).verdict ≡ Refused number value → sheets_of climate block ≡ refusal number value
  -- Its refusal is one of 1 to 7.
  pub refused_number : (climate block : List ℕ) (number value : ℕ) → (sheets_of climate block).verdict ≡ Refused number value → (1 ≤ number) × (number ≤ 7)
  -- It is the first that applies: 1 to 4 of the climate sheet, 1 to 4 of the block sheet, then 5 to 7.
  pub refuses_first : (climate block : List ℕ) → (sheets_of climate block).verdict ≡ first_of Accepted (pair_lines climate block)
  -- The same of each sheet by itself.
  pub climate_refuses_first : (climate : List ℕ) → (climate_of climate).verdict ≡ first_of Accepted (climate_sheet_lines climate)
  pub block_refuses_first : (block : List ℕ) → (block_of block).verdict ≡ first_of Accepted (block_sheet_lines block)
  -- A pair is accepted exactly when both of its sheets are: any climate goes with any block.
  pub pair_accepted_iff : (climate block : List ℕ) → ((sheets_of climate block).verdict ≡ Accepted) ↔ (((climate_of climate).verdict ≡ Accepted) × ((block_of block).verdict ≡ Accepted))
  -- An accepted pair gets the season that its numbers got in one sheet, and an accepted sheet is a pair.
  pub as_one_sheet : (climate block : List ℕ) → (sheets_of climate block).verdict ≡ Accepted → sheet_of (one_sheet climate block) ≡ sheets_of climate block
  pub as_two_sheets : (sheet : List ℕ) → (sheet_of sheet).verdict ≡ Accepted → sheets_of (climate_part sheet) (block_part sheet) ≡ sheet_of sheet
  -- Accepted pairs and accepted sheets, made of bytes, match one to one.
  pub pairs_one_to_one : (climate block : List ℕ) → Bytes climate → Bytes block → (sheets_of climate block).verdict ≡ Accepted
      → (climate_part (one_sheet climate block) ≡ climate) × (block_part (one_sheet climate block) ≡ block)
  pub sheets_one_to_one : (sheet : List ℕ) → Bytes sheet → (sheet_of sheet).verdict ≡ Accepted → one_sheet (climate_part sheet) (block_part sheet) ≡ sheet
  -- A season has one pair: different accepted pairs have different seasons.
  pub one_spelling : (c b d e : List ℕ) → Bytes c → Bytes b → Bytes d → Bytes e → (sheets_of c b).verdict ≡ Accepted → (sheets_of d e).verdict ≡ Accepted
      → (sheets_of c b).season ≡ (sheets_of d e).season → (c ≡ d) × (b ≡ e)
  -- Numbers that refusals 4 to 7 leave, written one after another, are read as those numbers.
  pub climate_written_lem : (c : List ℕ) → length c ≡ 24 → climate_verdict c ≡ Accepted → climate_of (written c) ≡ climate_by c Accepted
  pub block_written_lem : (b : List ℕ) → 16 ≤ length b → length b ≤ 17 → block_verdict b ≡ Accepted → block_of (written b) ≡ numbers_are b Accepted
  pub pair_written : (c b : List ℕ) → length c ≡ 24 → 16 ≤ length b → length b ≤ 17 → climate_verdict c ≡ Accepted → block_verdict b ≡ Accepted
      → sheets_of (written c) (written b) ≡ sheet_is (season_of (merged c b)) Accepted
  -- An accepted sheet of either kind is its numbers, written.
  pub climate_as_written : (climate : List ℕ) → Bytes climate → (climate_of climate).verdict ≡ Accepted → climate ≡ written ((climate_of climate).eto ++ (climate_of climate).rain)
  pub block_as_written : (block : List ℕ) → Bytes block → (block_of block).verdict ≡ Accepted → block ≡ written (block_of block).fields
  -- A climate sheet has 24 to 60 bytes, a block sheet 16 to 27.
  pub climate_length : (climate : List ℕ) → Bytes climate → (climate_of climate).verdict ≡ Accepted → (24 ≤ length climate) × (length climate ≤ 60)
  pub block_length : (block : List ℕ) → Bytes block → (block_of block).verdict ≡ Accepted → (16 ≤ length block) × (length block ≤ 27)
  -- A block sheet that ends with its sixteenth number has those sixteen.
  pub sixteen_read : (block vs : List ℕ) → numbers 16 0 block ≡ run vs (length block) → block_numbers block ≡ numbers_are vs Accepted
  -- An accepted pair's February has 29 days exactly where its block sheet has a seventeenth number.
  pub leap_iff : (climate block : List ℕ) → (sheets_of climate block).verdict ≡ Accepted
      → ((sheets_of climate block).season.february ≡ 29) ↔ (length (block_of block).fields ≡ 17)
  -- A climate sheet's first 73 bytes decide, and a block sheet's first 52.
  pub climate_bytes_decide : (t y : List ℕ) → 73 ≤ length t → climate_of (t ++ y) ≡ climate_of t
  pub block_bytes_decide : (t y : List ℕ) → 52 ≤ length t → block_of (t ++ y) ≡ block_of t
  -- Each writer gives the first of its refusals that applies: 4, or 4 to 7, as the reader does of the sheet's numbers, then 15;
  pub climate_write_refuses : (c out : List ℕ)
      → write_verdict (climate_written c out).0 ≡ first_of Accepted (write_lines (climate_lines c) (written c) (length out))
  pub block_write_refuses : (vs out : List ℕ)
      → write_verdict (block_written vs out).0 ≡ first_of Accepted (write_lines (block_lines (sheet_fields vs)) (written (sheet_fields vs)) (length out))
  -- refused, it leaves the lent buffer as it was.
  pub climate_write_unaltered : (c out : List ℕ) (number value : ℕ) → (climate_written c out).0 ≡ writer.Refused number value → (climate_written c out).1 ≡ out
  pub block_write_unaltered : (vs out : List ℕ) (number value : ℕ) → (block_written vs out).0 ≡ writer.Refused number value → (block_written vs out).1 ≡ out
  -- What a writer makes is read as the sheet's numbers, a block's of which are the tablet's again,
  pub climate_write_read : (c out : List ℕ) (k : ℕ) → length c ≡ 24 → (climate_written c out).0 ≡ Made k
      → (climate_numbers (take k (climate_written c out).1) ≡ numbers_are c Accepted) × (climate_of (take k (climate_written c out).1) ≡ climate_by c Accepted)
  pub block_write_read : (vs out : List ℕ) (k : ℕ) → length vs ≡ 17 → (block_written vs out).0 ≡ Made k
      → (block_numbers (take k (block_written vs out).1) ≡ numbers_are (sheet_fields vs) Accepted)
      × (block_of (take k (block_written vs out).1) ≡ numbers_are (sheet_fields vs) Accepted)
      × (tablet_fields (sheet_fields vs) ≡ vs)
  pub tablet_fields_lem : (vs : List ℕ) → length vs ≡ 17 → block_verdict (sheet_fields vs) ≡ Accepted → tablet_fields (sheet_fields vs) ≡ vs
  -- and a sheet that the reader accepts is what its writer makes of its numbers.
  pub climate_read_write : (climate out : List ℕ) → Bytes climate → (climate_of climate).verdict ≡ Accepted → length climate ≤ length out
      → climate_written ((climate_of climate).eto ++ (climate_of climate).rain) out ≡ (Made (length climate), climate ++ drop (length climate) out)
  pub block_read_write : (block out : List ℕ) → Bytes block → (block_of block).verdict ≡ Accepted → length block ≤ length out
      → block_written (tablet_fields (block_of block).fields) out ≡ (Made (length block), block ++ drop (length block) out)
  -- A season's numbers are those that it was read from, a climate's and a block's, of which a seventeenth is 29.
  pub fields_of_season : (c b : List ℕ) → length c ≡ 24 → 16 ≤ length b → length b ≤ 17 → (length b ≡ 17 → get_or b 16 0 ≡ 29)
      → (climate_fields (season_of (merged c b)) ≡ c) × (season_fields (season_of (merged c b)) ≡ tablet_fields b) × (sheet_fields (tablet_fields b) ≡ b)
  -- A climate writer makes 24 to 60 bytes, a block writer 16 to 27.
  pub climate_write_length : (c out : List ℕ) (k : ℕ) → length c ≡ 24 → (climate_written c out).0 ≡ Made k → (24 ≤ k) × (k ≤ 60)
  pub block_write_length : (vs out : List ℕ) (k : ℕ) → length vs ≡ 17 → (block_written vs out).0 ≡ Made k → (16 ≤ k) × (k ≤ 27)
  -- Different answers of a writer have different numbers.
  pub write_one_to_one : (a b : Written) → numbers_of a ≡ numbers_of b → a ≡ b
  -- The small pair is the season of that name.
  pub small_read : sheets_of (written small_climate) (written small_block) ≡ sheet_is (season.small 127) Accepted
  -- The leap pair too, with 28 days of February and with 29.
  pub leap_read : (sheets_of (written leap_climate) (written leap_block) ≡ sheet_is (season.leap 28) Accepted)
      × (sheets_of (written leap_climate) (written (leap_block ++ (29 ∷ []))) ≡ sheet_is (season.leap 29) Accepted)
  -- Document 02's numbers of the two sheets (T-08), and edges that are not in the documents.
  pub edges_hold : map (λ (c : List ℕ × List ℕ). c.0) edges ≡ map (λ (c : List ℕ × List ℕ). c.1) edges
