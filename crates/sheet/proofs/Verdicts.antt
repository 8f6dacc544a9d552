-- The sheets' verdicts, by what their numbers and their judgement are.
use Prim.Native.Nat.{ℕ, ◌+◌, ◌≤◌}
use mathlib.Core.Path.{◌≡◌, refl, sym, ap, ap₂, ◌∙◌}
use mathlib.Core.Bool.{Bool}
use mathlib.Core.List.{List, [], ◌∷◌, ◌++◌}
use native.Mathlib.Omega.{arith}
use lib.ListN.{length, take, drop, get_or, replicate, length-take, length-drop}
use lib.Seq.{take_all, get_or-drop}
use Rattle.verdict.specs.Refusals.{Verdict, Accepted, Refused, first_of, number_of}
use Rattle.season.specs.declared.Season.{Season}
use Rattle.verdict.proofs.First.{first_refused_lem, refused_accepted}
use Rattle.fields.specs.Fields.{season_of, merged}
use Rattle.fields.specs.Refusals.{climate_lines, block_lines, climate_verdict, block_verdict}
use Rattle.fields.proofs.Merged.{gives, gives_take}
use Rattle.sheet.specs.Sheets.{Climate, climate_numbers, block_numbers, then_refused, no_climate, climate_by, climate_of, block_of, sheet_is, refusal, only_accepted, unless_refused, block_with, sheets_of}
use Rattle.sheet.specs.Numbers.{Numbers, numbers_are, numbers_in}
use Rattle.std.specs.Prelude.{Result, Ok, Err}
use Rattle.verdict.specs.declared.Refusal as code
use Rattle.sheet.specs.Reading.{numbers_by, count_of}
use Rattle.sheet.proofs.Further.{Counts, in_as_written}

-- ---- refusals 1 to 3, and then those of the numbers

module _ (lines : List ℕ → List (Bool × ℕ × ℕ)) where
  pub then_accepted : (n : Numbers) → then_refused lines n ≡ Accepted → (n.verdict ≡ Accepted) × (first_of Accepted (lines n.fields) ≡ Accepted)
  then_accepted n e = go n.verdict refl
    where
      go : (v : Verdict) → n.verdict ≡ v → (n.verdict ≡ Accepted) × (first_of Accepted (lines n.fields) ≡ Accepted)
      go Accepted p = (p, ap (λ (w : Verdict). first_of w (lines n.fields)) (sym p) ∙ e)
      go (Refused number value) p =
          absurd (refused_accepted number value
          (sym (first_refused_lem number value (lines n.fields)) ∙ ap (λ (w : Verdict). first_of w (lines n.fields)) (sym p) ∙ e))

-- By what reading answers, with the buffer.
module _ (least extra : ℕ) (s fields : List ℕ) (r : Result ℕ code.Refusal) (e : numbers_by least fields r ≡ numbers_in least extra s) where
  pub stopped : (lines : List ℕ → List (Bool × ℕ × ℕ)) (why : code.Refusal) → r ≡ Err why → then_refused lines (numbers_in least extra s) ≡ Refused (number_of why.reason) why.value
  stopped lines why g =
      ap (then_refused lines) (sym e ∙ ap (numbers_by least fields) g) ∙ first_refused_lem (number_of why.reason) why.value (lines (replicate least 0))

  pub whole : (count : ℕ) → r ≡ Ok count → numbers_are (take count fields) Accepted ≡ numbers_in least extra s
  whole count g = ap (numbers_by least fields) (sym g) ∙ e

  pub stopped_verdict : (why : code.Refusal) → r ≡ Err why → (numbers_in least extra s).verdict ≡ Refused (number_of why.reason) why.value
  stopped_verdict why g = ap (λ (n : Numbers). n.verdict) (sym e ∙ ap (numbers_by least fields) g)

pub count_few : (r : Result ℕ code.Refusal) (count most : ℕ) → count_of r ≤ most → r ≡ Ok count → count ≤ most
count_few r count most h g = rw g at h

-- A buffer that has a sheet's numbers has so many.
pub read_counts : (least extra : ℕ) (s f : List ℕ) → numbers_are f Accepted ≡ numbers_in least extra s → Counts least extra f
read_counts least extra s f e = rw (← e) at (in_as_written least extra s (rw (← e) refl)).0

-- Where no number may be missing, that is the whole buffer.
pub whole_buffer : (least count : ℕ) (s fields : List ℕ) → length fields ≡ least → numbers_are (take count fields) Accepted ≡ numbers_in least 0 s
    → numbers_are fields Accepted ≡ numbers_in least 0 s
whole_buffer least count s fields n e =
    let all : take count fields ≡ fields = take_all count fields (omega (arith, (read_counts least 0 s (take count fields) e).0, length-take count fields)) in
    rw all at e

-- A lent array of twenty-four.
pub climate_by_numbers : (n : ℕ) (s fields : List ℕ) (r : Result ℕ code.Refusal) → n ≡ 24 → numbers_by n fields r ≡ numbers_in n 0 s → numbers_by 24 fields r ≡ climate_numbers s
climate_by_numbers n s fields r e h = rw e at h

-- ---- a climate sheet

pub climate_verdict_lem : (c : List ℕ) (v : Verdict) → (climate_by c v).verdict ≡ v
climate_verdict_lem c Accepted = refl
climate_verdict_lem c (Refused number value) = refl

pub climate_stopped : (s : List ℕ) (number value : ℕ) → then_refused climate_lines (climate_numbers s) ≡ Refused number value → no_climate number value ≡ climate_of s
unfolding climate_of
climate_stopped s number value e = sym (ap (climate_by (climate_numbers s).fields) e)

pub climate_read : (s c : List ℕ) → numbers_are c Accepted ≡ climate_numbers s → climate_by c (climate_verdict c) ≡ climate_of s
unfolding climate_of climate_verdict
climate_read s c e = ap (λ (n : Numbers). climate_by n.fields (then_refused climate_lines n)) e

-- ---- a block sheet

-- The sheet of a season, by a block sheet that is refused, or whose numbers are these.
pub block_stopped : (season : Season) (s : List ℕ) (number value : ℕ) → then_refused block_lines (block_numbers s) ≡ Refused number value
    → refusal number value ≡ only_accepted season (block_of s).verdict
unfolding block_of
block_stopped season s number value e = sym (ap (only_accepted season) e)

pub block_read : (c s b : List ℕ) → numbers_are b Accepted ≡ block_numbers s
    → only_accepted (season_of (merged c b)) (block_verdict b) ≡ only_accepted (season_of (merged c (block_of s).fields)) (block_of s).verdict
unfolding block_of block_verdict
block_read c s b e = ap (λ (n : Numbers). only_accepted (season_of (merged c n.fields)) (then_refused block_lines n)) e

pub block_filled : (c s b : List ℕ) → b ≡ (block_numbers s).fields → Accepted ≡ then_refused block_lines (block_numbers s)
    → sheet_is (season_of (merged c b)) Accepted ≡ only_accepted (season_of (merged c (block_of s).fields)) (block_of s).verdict
unfolding block_of
block_filled c s b e v = ap₂ (λ (x : List ℕ) (w : Verdict). only_accepted (season_of (merged c x)) w) e v

-- ---- both

pub accepted_verdict : (s : Season) (v : Verdict) → (only_accepted s v).verdict ≡ v
accepted_verdict s Accepted = refl
accepted_verdict s (Refused number value) = refl

-- A climate's refusal comes first.
module _ (climate : Climate) (block : List ℕ) where
  pub with_refused : (number value : ℕ) → climate.verdict ≡ Refused number value → refusal number value ≡ block_with climate block
  unfolding block_with
  with_refused number value e = rw e refl

  pub with_accepted : climate.verdict ≡ Accepted
      → only_accepted (season_of (merged (climate.eto ++ climate.rain) (block_of block).fields)) (block_of block).verdict ≡ block_with climate block
  unfolding block_with
  with_accepted e = rw e refl

-- The pair's verdict goes on from the climate's.
unless_verdict : (v w : Verdict) (s : Season) (lines : List (Bool × ℕ × ℕ)) → w ≡ first_of Accepted lines → (unless_refused v (only_accepted s w)).verdict ≡ first_of v lines
unless_verdict Accepted w s lines e = accepted_verdict s w ∙ e
unless_verdict (Refused number value) w s lines e = sym (first_refused_lem number value lines)

pub pair_verdict : (climate block : List ℕ) (lines : List (Bool × ℕ × ℕ)) → (block_of block).verdict ≡ first_of Accepted lines
    → (sheets_of climate block).verdict ≡ first_of (climate_of climate).verdict lines
unfolding sheets_of block_with
pair_verdict climate block lines e = unless_verdict (climate_of climate).verdict (block_of block).verdict _ lines e

-- A refused sheet has no numbers.
only_refused : (s : Season) (v : Verdict) (number value : ℕ) → (only_accepted s v).verdict ≡ Refused number value → only_accepted s v ≡ refusal number value
only_refused s Accepted number value e = absurd (refused_accepted number value (sym e))
only_refused s (Refused n v) number value e = ap (λ (w : Verdict). record { season = season_of (replicate 40 0); verdict = w }) e

unless_refused_lem : (v w : Verdict) (s : Season) (number value : ℕ) → (unless_refused v (only_accepted s w)).verdict ≡ Refused number value
    → unless_refused v (only_accepted s w) ≡ refusal number value
unless_refused_lem Accepted w s number value e = only_refused s w number value e
unless_refused_lem (Refused n v) w s number value e = ap (λ (w : Verdict). record { season = season_of (replicate 40 0); verdict = w }) e

pub refused_empty : (climate block : List ℕ) (number value : ℕ) → (sheets_of climate block).verdict ≡ Refused number value → sheets_of climate block ≡ refusal number value
unfolding sheets_of block_with
refused_empty climate block number value e = unless_refused_lem (climate_of climate).verdict (block_of block).verdict _ number value e

-- Twelve numbers from a place on.
pub dozen : (c : List ℕ) (at : ℕ) → at + 12 ≤ length c
    → get_or c at 0 ∷ get_or c (at + 1) 0 ∷ get_or c (at + 2) 0 ∷ get_or c (at + 3) 0 ∷ get_or c (at + 4) 0 ∷ get_or c (at + 5) 0 ∷ get_or c (at + 6) 0 ∷ get_or c (at + 7) 0
    ∷ get_or c (at + 8) 0 ∷ get_or c (at + 9) 0 ∷ get_or c (at + 10) 0 ∷ get_or c (at + 11) 0 ∷ []
    ≡ take 12 (drop at c)
unfolding gives
dozen c at h =
    let none : at + 0 ≡ at = omega arith in
    let first : get_or c at 0 ≡ get_or (drop at c) 0 0 = sym (get_or-drop at c 0 0 ∙ ap (λ (k : ℕ). get_or c k 0) none) in
    let place : (k : ℕ) → get_or c (at + k) 0 ≡ get_or (drop at c) k 0 = λ k. sym (get_or-drop at c k 0) in
    (λ i. first i ∷ place 1 i ∷ place 2 i ∷ place 3 i ∷ place 4 i ∷ place 5 i ∷ place 6 i ∷ place 7 i ∷ place 8 i ∷ place 9 i ∷ place 10 i ∷ place 11 i ∷ [])
    ∙ gives_take 12 (drop at c) (omega (arith, length-drop at c))
