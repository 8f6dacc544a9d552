-- The proofs of `specs/Claims.antt`, in its order.
use Prim.Native.Nat.{ℕ, ◌≤◌}
use mathlib.Core.Path.{◌≡◌, refl, sym, ap, ◌∙◌}
use mathlib.Core.List.{List, ◌++◌}
use native.Mathlib.Omega.{arith}
use lib.ListN.{length}
use Rattle.leb128.specs.Claims.{Bytes}
use Rattle.leb128.specs.Groups.{encode, over_groups, over_in}
use Rattle.leb128.specs.Forms.{decode, decode_from, below}
use Rattle.season.specs.SmallSheet as season
use Rattle.verdict.specs.Refusals.{Accepted, or_refused}
use Rattle.fields.specs.Fields.{outside, lowest_outside, merged}
use Rattle.fields.specs.Refusals.{climate_lines, block_lines}
use Rattle.sheet.specs.Numbers.{Numbers, before, numbers, after, further, ended, numbers_in, written}
use Rattle.sheet.specs.Sheets.{climate_of, block_of, block_with, sheets_of}
use Rattle.sheet.specs.Writing.{sheet_fields, bytes_written}
use Rattle.sheet.specs.Cases.{edges}
use Rattle.sheet.specs.Claims.{Claims}
use Rattle.sheet.proofs.Verdicts.{refused_empty}
use Rattle.sheet.proofs.Accepted.{accepted_season, is_climate, is_block, pair_accepted_iff}
use Rattle.sheet.proofs.ReadBack.{climate_written_lem, block_written_lem, pair_written}
use Rattle.sheet.proofs.Lengths.{climate_length, block_length}
use Rattle.sheet.proofs.Start.{climate_bytes_decide, block_bytes_decide}
use Rattle.sheet.proofs.Numbered.{refused_is}
use Rattle.sheet.proofs.Refusing.{refuses_first, climate_refuses_first, block_refuses_first}
use Rattle.sheet.proofs.Further.{least_read}
use Rattle.sheet.proofs.Answers.{write_refuses, write_unaltered, numbers_one_to_one, climate_write_length, block_write_length, climate_write_read, block_write_read, tablet_fields_lem, fields_of_season, climate_read_write, block_read_write, one_spelling, leap_iff}
use Rattle.sheet.proofs.OneSheet.{as_one_sheet, as_two_sheets, pairs_one_to_one, sheets_one_to_one}

at_end : (b : List ℕ) → length b ≤ length b
at_end b = omega arith

climate_as_written : (climate : List ℕ) → Bytes climate → (climate_of climate).verdict ≡ Accepted → climate ≡ written ((climate_of climate).eto ++ (climate_of climate).rain)
climate_as_written climate bytes e = let a = is_climate climate e in a.as_written bytes ∙ ap written (sym a.dozens)

block_as_written : (block : List ℕ) → Bytes block → (block_of block).verdict ≡ Accepted → block ≡ written (block_of block).fields
block_as_written block bytes e = let a = is_block block e in a.as_written bytes ∙ sym (ap (λ (n : Numbers). written n.fields) a.block)

pub claims : Claims
unfolding encode over_groups over_in decode decode_from below or_refused before numbers after further ended numbers_in written outside lowest_outside merged climate_of block_of block_with sheets_of bytes_written edges season.small season.leap
claims = record {
  accepted_season = accepted_season;
  refused_empty = refused_empty;
  refused_number = λ climate block number value e. (refused_is climate block number value e).0;
  refuses_first = refuses_first;
  climate_refuses_first = climate_refuses_first;
  block_refuses_first = block_refuses_first;
  pair_accepted_iff = pair_accepted_iff;
  as_one_sheet = as_one_sheet;
  as_two_sheets = as_two_sheets;
  pairs_one_to_one = pairs_one_to_one;
  sheets_one_to_one = λ sheet bytes e. sheets_one_to_one sheet e bytes;
  one_spelling = one_spelling;
  climate_written_lem = climate_written_lem;
  block_written_lem = block_written_lem;
  pair_written = pair_written;
  climate_as_written = climate_as_written;
  block_as_written = block_as_written;
  climate_length = climate_length;
  block_length = block_length;
  sixteen_read = λ b vs e. least_read 16 1 b vs (length b) e (at_end b);
  leap_iff = leap_iff;
  climate_bytes_decide = climate_bytes_decide;
  block_bytes_decide = block_bytes_decide;
  climate_write_refuses = λ c. write_refuses (climate_lines c) (written c);
  block_write_refuses = λ vs. write_refuses (block_lines (sheet_fields vs)) (written (sheet_fields vs));
  climate_write_unaltered = λ c. write_unaltered (climate_lines c) (written c);
  block_write_unaltered = λ vs. write_unaltered (block_lines (sheet_fields vs)) (written (sheet_fields vs));
  climate_write_read = climate_write_read;
  block_write_read = block_write_read;
  tablet_fields_lem = tablet_fields_lem;
  climate_read_write = climate_read_write;
  block_read_write = block_read_write;
  fields_of_season = fields_of_season;
  climate_write_length = climate_write_length;
  block_write_length = block_write_length;
  write_one_to_one = numbers_one_to_one;
  small_read = refl;
  leap_read = (refl, refl);
  edges_hold = refl;
}
