-- Refusals 4 to 7 of a list of numbers.
use Prim.Native.Nat.{ℕ, ◌≤◌, ◌<◌}
use mathlib.Core.Path.{◌≡◌, refl, sym, ap, ◌∙◌}
use mathlib.Core.Logic.{◌↔◌}
use mathlib.Core.Bool.{Bool}
use mathlib.Core.List.{List, [], ◌++◌}
use native.Mathlib.Omega.{arith}
use borrow.Author.Tests.{lt-ltb, le-ltb, ltb-false}
use lib.Dec.{ltb}
use lib.ListN.{length, take, drop, get_or, replicate}
use Rattle.season.specs.Sheet.{Ranged, season_days, longest_season}
use Rattle.season.specs.Day.{total_on, AcceptedSeason}
use Rattle.verdict.specs.Refusals.{Verdict, Accepted, Refused, or_refused, first_of}
use Rattle.season.specs.declared.Season.{Season}
use Rattle.verdict.proofs.First.{Lines, first_holds, first_fails, accepted_fails}
use Rattle.fields.specs.Fields.{february_of, limits, season_of, merged, block_fields}
use Rattle.fields.specs.Refusals.{field_at_fault, season_lines, field_lines, fields_verdict, climate_at_fault, block_at_fault, climate_lines, block_lines, climate_verdict, block_verdict}
use Rattle.fields.proofs.Lowest.{lowest_end}
use Rattle.fields.proofs.Ranges.{season_ranged, forty_first}
use Rattle.fields.proofs.Merged.{length_merged, back, block_alone, no_fault_iff, block_fault_few, season_by, season_of_both}

pub fault_refused : (f : List ℕ) → 0 < field_at_fault f → fields_verdict f ≡ Refused 4 (field_at_fault f)
unfolding fields_verdict
fault_refused f h = first_holds (ltb 0 (field_at_fault f)) 4 (field_at_fault f) (season_lines (season_of f)) (lt-ltb 0 (field_at_fault f) h)

pub no_fault : (f : List ℕ) → field_at_fault f ≡ 0 → fields_verdict f ≡ first_of Accepted (season_lines (season_of f))
unfolding fields_verdict
no_fault f e =
    first_fails (ltb 0 (field_at_fault f)) 4 (field_at_fault f) (season_lines (season_of f)) (le-ltb 0 (field_at_fault f) (omega arith))

-- The same of a block's numbers: the chain of refusals 5 to 7, as the code has it, after no field was at fault.
pub block_refused : (b : List ℕ) (fault : ℕ) → 0 < fault → fault ≡ block_at_fault b → Refused 4 fault ≡ block_verdict b
unfolding block_verdict
block_refused b fault h e =
    ap (Refused 4) e ∙ sym (first_holds (ltb 0 (block_at_fault b)) 4 (block_at_fault b) (season_lines (season_of (block_fields b))) (lt-ltb 0 (block_at_fault b) (omega (arith, e))))

block_no_fault : (b : List ℕ) → block_at_fault b ≡ 0 → block_verdict b ≡ first_of Accepted (season_lines (season_of (block_fields b)))
unfolding block_verdict
block_no_fault b e =
    first_fails (ltb 0 (block_at_fault b)) 4 (block_at_fault b) (season_lines (season_of (block_fields b))) (le-ltb 0 (block_at_fault b) (omega arith))

pub block_ranged : (b : List ℕ) → 16 ≤ length b → block_at_fault b ≡ 0 → Ranged (season_of (block_fields b))
block_ranged b n z = season_ranged (block_fields b) (omega (arith, length_merged (replicate 24 0) b)) (block_alone b (omega arith) ∙ z)

pub chain : (b : List ℕ) (s : Season) (n t : ℕ) (v₅ v₆ v₇ : Verdict) → block_at_fault b ≡ 0 → s ≡ season_of (block_fields b) → n ≡ season_days s → t ≡ total_on s 1
    → v₅ ≡ or_refused Accepted (ltb longest_season n) 5 0 → v₆ ≡ or_refused v₅ (ltb s.full s.sowing) 6 0 → v₇ ≡ or_refused v₆ (ltb t s.opening) 7 0
    → v₇ ≡ block_verdict b
chain b s n t v₅ v₆ v₇ z a q d e₅ e₆ e₇ =
    e₇ ∙ rw (e₆, e₅, d, q, a) (sym (block_no_fault b z))

-- What an accepted list of numbers is.
pub record Sound (f : List ℕ) : Type 0 where
  pub no_field : field_at_fault f ≡ 0
  pub season : AcceptedSeason (season_of f)

pub accepted_sound : (f : List ℕ) → 40 ≤ length f → fields_verdict f ≡ Accepted → Sound f
unfolding fields_verdict
accepted_sound f n e =
    let s = season_of f in
    let a4 = accepted_fails (ltb 0 (field_at_fault f)) 4 (field_at_fault f) (season_lines s) e in
    let a5 = accepted_fails (ltb longest_season (season_days s)) 5 0 (drop 1 (season_lines s)) a4.1 in
    let a6 = accepted_fails (ltb s.full s.sowing) 6 0 (drop 2 (season_lines s)) a5.1 in
    let a7 = accepted_fails (ltb (total_on s 1) s.opening) 7 0 [] a6.1 in
    let z : field_at_fault f ≡ 0 = omega (arith, ltb-false 0 (field_at_fault f) a4.0) in
    record {
      no_field = z;
      season = record {
        valid = record { ranges = season_ranged f n z; year = ltb-false _ _ a5.0; roots = ltb-false _ _ a6.0 };
        opens = ltb-false _ _ a7.0;
      };
    }

-- ---- a climate and a block

-- Refusals 5 to 7 look at no climate.
lines_by : (eto rain eto' rain' b : List ℕ) → season_lines (season_by eto rain b) ≡ season_lines (season_by eto' rain' b)
lines_by eto rain eto' rain' b = refl

pub lines_alone : (c b : List ℕ) → length c ≡ 24 → 9 ≤ length b → season_lines (season_of (merged c b)) ≡ season_lines (season_of (block_fields b))
lines_alone c b m n =
    let none : List ℕ = replicate 24 0 in
    ap season_lines (season_of_both c b m n) ∙ lines_by (take 12 c) (drop 12 c) (take 12 none) (drop 12 none) b
    ∙ ap season_lines (sym (season_of_both none b refl n))

pub climate_clear : (c : List ℕ) → climate_verdict c ≡ Accepted → climate_at_fault c ≡ 0
unfolding climate_verdict
climate_clear c e = omega (arith, ltb-false 0 (climate_at_fault c) (accepted_fails (ltb 0 (climate_at_fault c)) 4 (climate_at_fault c) [] e).0)

pub climate_accepted : (c : List ℕ) → climate_at_fault c ≡ 0 → climate_verdict c ≡ Accepted
unfolding climate_verdict
climate_accepted c e = first_fails (ltb 0 (climate_at_fault c)) 4 (climate_at_fault c) [] (le-ltb 0 (climate_at_fault c) (omega arith))

pub block_clear : (b : List ℕ) → block_verdict b ≡ Accepted → block_at_fault b ≡ 0
unfolding block_verdict
block_clear b e =
    omega (arith, ltb-false 0 (block_at_fault b) (accepted_fails (ltb 0 (block_at_fault b)) 4 (block_at_fault b) (season_lines (season_of (block_fields b))) e).0)

pub climate_refused : (c : List ℕ) (field : ℕ) → 0 < field → field ≡ climate_at_fault c → Refused 4 field ≡ climate_verdict c
unfolding climate_verdict
climate_refused c field h e =
    ap (Refused 4) e ∙ sym (first_holds (ltb 0 (climate_at_fault c)) 4 (climate_at_fault c) [] (lt-ltb 0 (climate_at_fault c) (omega (arith, e))))

-- An accepted block's season is at most so long, and a seventeenth number is 29.
pub block_days : (b : List ℕ) → block_verdict b ≡ Accepted → season_days (season_of (block_fields b)) ≤ longest_season
unfolding block_verdict
block_days b e =
    let s = season_of (block_fields b) in
    let later = (accepted_fails (ltb 0 (block_at_fault b)) 4 (block_at_fault b) (season_lines s) e).1 in
    ltb-false longest_season (season_days s) (accepted_fails (ltb longest_season (season_days s)) 5 0 (drop 1 (season_lines s)) later).0

pub seventeenth : (b : List ℕ) → length b ≡ 17 → block_verdict b ≡ Accepted → get_or b 16 0 ≡ 29
seventeenth b n e =
    let nine : 9 ≤ length b = omega arith in
    sym (back (replicate 24 0) b nine refl 7)
    ∙ forty_first (block_fields b) (omega (arith, length_merged (replicate 24 0) b)) (block_alone b nine ∙ block_clear b e)

fields_clear : (f : List ℕ) → fields_verdict f ≡ Accepted → field_at_fault f ≡ 0
unfolding fields_verdict
fields_clear f e = omega (arith, ltb-false 0 (field_at_fault f) (accepted_fails (ltb 0 (field_at_fault f)) 4 (field_at_fault f) (season_lines (season_of f)) e).0)

-- All are accepted exactly where both are: any block with any climate.
pub verdicts_iff : (c b : List ℕ) → length c ≡ 24 → 16 ≤ length b
    → (fields_verdict (merged c b) ≡ Accepted) ↔ ((climate_verdict c ≡ Accepted) × (block_verdict b ≡ Accepted))
verdicts_iff c b m n =
    let nine : 9 ≤ length b = omega arith in
    let parts = no_fault_iff c b nine m in
    let same = ap (first_of Accepted) (lines_alone c b m nine) in (
      λ e.
          let z = fields_clear (merged c b) e in
          let both = parts.0 z in
          (climate_accepted c both.0, block_no_fault b both.1 ∙ sym same ∙ sym (no_fault (merged c b) z) ∙ e),
      λ e.
          let clear = block_clear b e.1 in
          no_fault (merged c b) (parts.1 (climate_clear c e.0, clear)) ∙ same ∙ sym (block_no_fault b clear) ∙ e.1,
    )

-- ---- what the refusals carry

-- What holds of 4 to 7 with a field's number or 0 holds of every line, and where it holds of the lines behind them, of all.
module _ (P : ℕ → ℕ → Type 0) (h : (number value : ℕ) → 4 ≤ number → number ≤ 7 → value ≤ 41 → P number value) (behind : List (Bool × ℕ × ℕ)) (l : Lines P behind) where
  fault_line : (fault : ℕ) → fault ≤ 41 → P 4 fault
  fault_line fault m = h 4 fault (omega arith) (omega arith) m

  season_lines_lem : (s : Season) → Lines P (season_lines s ++ behind)
  season_lines_lem s = (
    h 5 0 (omega arith) (omega arith) (omega arith),
    (h 6 0 (omega arith) (omega arith) (omega arith), (h 7 0 (omega arith) (omega arith) (omega arith), l)),
  )

  pub field_lines_lem : (f : List ℕ) → Lines P (field_lines f ++ behind)
  field_lines_lem f = (fault_line (field_at_fault f) (lowest_end 0 (limits (february_of f) (get_or f 0 0)) f), season_lines_lem (season_of f))

  pub climate_lines_lem : (c : List ℕ) → Lines P (climate_lines c ++ behind)
  climate_lines_lem c = (fault_line (climate_at_fault c) (omega (arith, lowest_end 9 (take 24 (drop 9 (limits 28 1))) c)), l)

  pub block_lines_lem : (b : List ℕ) → Lines P (block_lines b ++ behind)
  block_lines_lem b = (fault_line (block_at_fault b) (block_fault_few (february_of (block_fields b)) (get_or b 0 0) b), season_lines_lem (season_of (block_fields b)))
