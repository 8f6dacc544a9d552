-- One sheet and two: an accepted pair is one accepted sheet, and back.
use Prim.Native.Nat.{ℕ, ◌≤◌}
use mathlib.Core.Path.{◌≡◌, refl, sym, ap, ap₂, ◌∙◌}
use mathlib.Core.List.{List, ◌++◌}
use native.Mathlib.Omega.{arith}
use lib.ListN.{length, take, drop, length-append, length-drop}
use lib.Seq.{length-take-le}
use Rattle.leb128.specs.Claims.{Bytes}
use Rattle.verdict.specs.Refusals.{Verdict, Accepted, Refused}
use Rattle.verdict.proofs.First.{refused_accepted}
use Rattle.fields.specs.Fields.{season_of, merged}
use Rattle.fields.specs.Refusals.{fields_verdict, climate_verdict, block_verdict}
use Rattle.fields.proofs.Merged.{climate_part_lem, block_part_lem, merged_parts}
use Rattle.fields.proofs.Verdicts.{accepted_sound, verdicts_iff}
use Rattle.sheet.specs.Numbers.{Numbers, numbers_are, written}
use Rattle.sheet.specs.Sheets.{climate_numbers, block_numbers, sheet_is, sheets_of}
use Rattle.sheet.specs.OneSheet.{numbers_read, judged, sheet_of, one_sheet, climate_part, block_part}
use Rattle.sheet.proofs.Further.{Counts, in_as_written}
use Rattle.sheet.proofs.Accepted.{is_pair}
use Rattle.sheet.proofs.ReadBack.{fields_small, written_read, climate_numbers_lem, block_numbers_lem, pair_written}

-- ---- one sheet

-- Numbers that refusals 4 to 7 leave, written in one sheet, are read as those numbers,
one_numbers : (f : List ℕ) → Counts 40 1 f → fields_verdict f ≡ Accepted → numbers_read (written f) ≡ numbers_are f Accepted
one_numbers f n a = written_read 40 f n (fields_small f n.1 (accepted_sound f n.0 a).no_field)

-- and accepted.
one_written : (f : List ℕ) → Counts 40 1 f → fields_verdict f ≡ Accepted → sheet_of (written f) ≡ sheet_is (season_of f) Accepted
unfolding sheet_of
one_written f n a = ap (λ (m : Numbers). judged m.fields m.verdict) (one_numbers f n a) ∙ rw a refl

-- What an accepted sheet is, f being its numbers.
record Is-accepted (b f : List ℕ) : Type 0 where
  pub count : Counts 40 1 f
  pub verdict : fields_verdict f ≡ Accepted
  pub sheet : sheet_of b ≡ sheet_is (season_of f) Accepted
  pub as_written : Bytes b → b ≡ written f

is_accepted : (b : List ℕ) → (sheet_of b).verdict ≡ Accepted → Is-accepted b (numbers_read b).fields
unfolding sheet_of
is_accepted b e = go (numbers_read b).verdict refl (fields_verdict (numbers_read b).fields) refl
  where
    go : (v : Verdict) → (numbers_read b).verdict ≡ v → (w : Verdict) → fields_verdict (numbers_read b).fields ≡ w → Is-accepted b (numbers_read b).fields
    go (Refused number value) p w q = absurd (refused_accepted number value (rw p at e))
    go Accepted p (Refused number value) q = absurd (refused_accepted number value (rw (p, q) at e))
    go Accepted p Accepted q =
        let n = in_as_written 40 1 b p in
        record { count = n.0; verdict = q; sheet = rw (p, q); as_written = n.1 }

-- ---- a pair in one sheet

pub as_one_sheet : (climate block : List ℕ) → (sheets_of climate block).verdict ≡ Accepted → sheet_of (one_sheet climate block) ≡ sheets_of climate block
as_one_sheet climate block e =
    let p = is_pair climate block e in
    one_written (merged (climate_numbers climate).fields (block_numbers block).fields) p.count p.verdict ∙ sym p.sheets

pub pairs_one_to_one : (climate block : List ℕ) → Bytes climate → Bytes block → (sheets_of climate block).verdict ≡ Accepted
    → (climate_part (one_sheet climate block) ≡ climate) × (block_part (one_sheet climate block) ≡ block)
pairs_one_to_one climate block x y e =
    let p = is_pair climate block e in
    let c = (climate_numbers climate).fields in
    let b = (block_numbers block).fields in
    let i = p.climate_is in
    let j = p.block_is in
    let nine : 9 ≤ length b = omega (arith, j.count.0) in
    let read : (numbers_read (one_sheet climate block)).fields ≡ merged c b = ap (λ (n : Numbers). n.fields) (one_numbers (merged c b) p.count p.verdict) in (
      ap (λ (f : List ℕ). written (take 24 (drop 9 f))) read ∙ ap written (climate_part_lem c b nine i.count) ∙ sym (i.as_written x),
      ap (λ (f : List ℕ). written (take 9 f ++ drop 33 f)) read ∙ ap written (block_part_lem c b nine i.count) ∙ sym (j.as_written y),
    )

-- ---- one sheet as a pair

-- The parts of an accepted sheet's numbers, written, are read as those.
module _ (sheet : List ℕ) (e : (sheet_of sheet).verdict ≡ Accepted) where
  abbrev f : List ℕ
  f = (numbers_read sheet).fields

  abbrev c : List ℕ
  c = take 24 (drop 9 f)

  abbrev b : List ℕ
  b = take 9 f ++ drop 33 f

  whole : 40 ≤ length f
  whole = (is_accepted sheet e).count.0

  c_count : length c ≡ 24
  c_count = length-take-le 24 (drop 9 f) (omega (arith, length-drop 9 f, whole))

  b_count : Counts 16 1 b
  b_count =
      let n = length-take-le 9 f (omega (arith, whole)) in
      let m = length-append (take 9 f) (drop 33 f) in
      (omega (arith, n, m, length-drop 33 f, whole), omega (arith, n, m, length-drop 33 f, (is_accepted sheet e).count.1))

  both : (climate_verdict c ≡ Accepted) × (block_verdict b ≡ Accepted)
  both = (verdicts_iff c b c_count b_count.0).0 (rw (merged_parts f whole) (is_accepted sheet e).verdict)

  pub as_two_sheets : sheets_of (climate_part sheet) (block_part sheet) ≡ sheet_of sheet
  as_two_sheets =
      pair_written c b c_count b_count.0 b_count.1 both.0 both.1
      ∙ ap (λ (l : List ℕ). sheet_is (season_of l) Accepted) (merged_parts f whole) ∙ sym (is_accepted sheet e).sheet

  pub sheets_one_to_one : Bytes sheet → one_sheet (climate_part sheet) (block_part sheet) ≡ sheet
  sheets_one_to_one x =
      ap₂ (λ (m n : Numbers). written (merged m.fields n.fields)) (climate_numbers_lem c c_count both.0) (block_numbers_lem b b_count both.1)
      ∙ ap written (merged_parts f whole) ∙ sym ((is_accepted sheet e).as_written x)
