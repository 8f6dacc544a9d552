-- Accepted sheets: numbers in their ranges, each as it is written, and nothing behind them; and accepted pairs.
use Prim.Native.Nat.{ℕ}
use mathlib.Core.Path.{◌≡◌, refl, sym, ap, ap₂, ◌∙◌}
use mathlib.Core.Logic.{◌↔◌}
use mathlib.Core.List.{List, ◌++◌}
use native.Mathlib.Omega.{arith}
use lib.ListN.{length, take, drop, take-append-drop, length-drop}
use lib.Seq.{take_all}
use Rattle.leb128.specs.Claims.{Bytes}
use Rattle.season.specs.declared.Season.{Season}
use Rattle.season.specs.Day.{AcceptedSeason}
use Rattle.verdict.specs.Refusals.{Verdict, Accepted, Refused}
use Rattle.verdict.proofs.First.{refused_accepted}
use Rattle.fields.specs.Fields.{season_of, merged}
use Rattle.fields.specs.Refusals.{climate_lines, block_lines, fields_verdict, climate_verdict, block_verdict}
use Rattle.fields.proofs.Merged.{length_merged}
use Rattle.fields.proofs.Verdicts.{accepted_sound, verdicts_iff}
use Rattle.sheet.specs.Numbers.{numbers_are, written}
use Rattle.sheet.specs.Sheets.{climate_numbers, block_numbers, then_refused, climate_by, climate_of, block_of, sheet_is, only_accepted, unless_refused, block_with, sheets_of}
use Rattle.sheet.proofs.Further.{Counts, in_as_written}
use Rattle.sheet.proofs.Verdicts.{then_accepted, climate_verdict_lem, accepted_verdict}

-- ETo and rain are all of a climate's numbers.
pub both_dozens : (c : List ℕ) → length c ≡ 24 → (climate_by c Accepted).eto ++ (climate_by c Accepted).rain ≡ c
both_dozens c n = ap (λ (l : List ℕ). take 12 c ++ l) (take_all 12 (drop 12 c) (omega (arith, length-drop 12 c))) ∙ take-append-drop 12 c

-- What an accepted climate sheet is, c being its numbers.
pub record Is-climate (s c : List ℕ) : Type 0 where
  pub count : length c ≡ 24
  pub verdict : climate_verdict c ≡ Accepted
  pub climate : climate_of s ≡ climate_by c Accepted
  pub dozens : (climate_of s).eto ++ (climate_of s).rain ≡ c
  pub as_written : Bytes s → s ≡ written c

pub is_climate : (s : List ℕ) → (climate_of s).verdict ≡ Accepted → Is-climate s (climate_numbers s).fields
unfolding climate_of climate_verdict
is_climate s e =
    let c = (climate_numbers s).fields in
    let v : then_refused climate_lines (climate_numbers s) ≡ Accepted = sym (climate_verdict_lem c (then_refused climate_lines (climate_numbers s))) ∙ e in
    let a = then_accepted climate_lines (climate_numbers s) v in
    let n = in_as_written 24 0 s a.0 in
    let m : length c ≡ 24 = omega (arith, n.0.0, n.0.1) in
    let is : climate_of s ≡ climate_by c Accepted = ap (climate_by c) v in
    record { count = m; verdict = a.1; climate = is; dozens = rw is (both_dozens c m); as_written = n.1 }

-- What an accepted block sheet is, b being its numbers.
pub record Is-block (s b : List ℕ) : Type 0 where
  pub count : Counts 16 1 b
  pub verdict : block_verdict b ≡ Accepted
  pub block : block_of s ≡ numbers_are b Accepted
  pub as_written : Bytes s → s ≡ written b

pub is_block : (s : List ℕ) → (block_of s).verdict ≡ Accepted → Is-block s (block_numbers s).fields
unfolding block_of block_verdict
is_block s e =
    let a = then_accepted block_lines (block_numbers s) e in
    let n = in_as_written 16 1 s a.0 in
    record { count = n.0; verdict = a.1; block = ap (numbers_are (block_numbers s).fields) e; as_written = n.1 }

-- ---- both

unless_accepted : (v w : Verdict) (s : Season) → (unless_refused v (only_accepted s w)).verdict ≡ Accepted → (v ≡ Accepted) × (w ≡ Accepted)
unless_accepted Accepted w s e = (refl, sym (accepted_verdict s w) ∙ e)
unless_accepted (Refused number value) w s e = absurd (refused_accepted number value e)

accepted_both : (v w : Verdict) (s : Season) → v ≡ Accepted → w ≡ Accepted → unless_refused v (only_accepted s w) ≡ sheet_is s Accepted
accepted_both v w s p q = rw (p, q) refl

-- A pair is accepted exactly where both of its sheets are.
pub pair_accepted_iff : (climate block : List ℕ) → ((sheets_of climate block).verdict ≡ Accepted) ↔ (((climate_of climate).verdict ≡ Accepted) × ((block_of block).verdict ≡ Accepted))
unfolding sheets_of block_with
pair_accepted_iff climate block = (
  λ e. unless_accepted (climate_of climate).verdict (block_of block).verdict _ e,
  λ e. rw (e.0, e.1) refl,
)

-- What an accepted pair is, c and b being its numbers.
pub record Is-pair (climate block c b : List ℕ) : Type 0 where
  pub climate_is : Is-climate climate c
  pub block_is : Is-block block b
  pub sheets : sheets_of climate block ≡ sheet_is (season_of (merged c b)) Accepted
  pub verdict : fields_verdict (merged c b) ≡ Accepted
  pub count : Counts 40 1 (merged c b)

pub is_pair : (climate block : List ℕ) → (sheets_of climate block).verdict ≡ Accepted
    → Is-pair climate block (climate_numbers climate).fields (block_numbers block).fields
unfolding sheets_of block_with
is_pair climate block e =
    let c = (climate_numbers climate).fields in
    let b = (block_numbers block).fields in
    let a = (pair_accepted_iff climate block).0 e in
    let i = is_climate climate a.0 in
    let j = is_block block a.1 in
    record {
      climate_is = i;
      block_is = j;
      sheets = accepted_both (climate_of climate).verdict (block_of block).verdict _ a.0 a.1
          ∙ ap₂ (λ (x y : List ℕ). sheet_is (season_of (merged x y)) Accepted) i.dozens (ap (λ n. n.fields) j.block);
      verdict = (verdicts_iff c b i.count j.count.0).1 (i.verdict, j.verdict);
      count = (omega (arith, length_merged c b, i.count, j.count.0), omega (arith, length_merged c b, i.count, j.count.1));
    }

-- So its season is that of accepted numbers.
pub accepted_season : (climate block : List ℕ) → (sheets_of climate block).verdict ≡ Accepted → AcceptedSeason (sheets_of climate block).season
accepted_season climate block e =
    let p = is_pair climate block e in
    rw p.sheets (accepted_sound (merged (climate_numbers climate).fields (block_numbers block).fields) p.count.0 p.verdict).season
