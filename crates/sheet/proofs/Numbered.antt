-- A pair's refusal is one of 1 to 7, and what it carries is small, as is what a writer's carries. Numbers of at most three bytes: a sheet's faults lie in
-- its first bytes, and one that ends too soon is shorter than that, so refusal 1's length is small though a sheet may be long.
use mathlib.Core.Path.{◌≡◌}
use mathlib.Core.Bool.{Bool, true, false, cond}
use mathlib.Core.List.{List, [], ◌∷◌}
use Prim.Native.Nat.{ℕ, ◌+◌, ◌*◌, ◌≤◌}
use native.Mathlib.Omega.{arith}
use lib.Dec.{ltb}
use lib.ListN.{length}
use Rattle.season.specs.declared.Season.{Season}
use Rattle.verdict.specs.Refusals.{Verdict, Accepted, Refused, first_of}
use Rattle.verdict.proofs.First.{Refusal, Lines, first_refusal}
use Rattle.fields.specs.Refusals.{climate_lines, block_lines}
use Rattle.fields.proofs.Verdicts.{climate_lines_lem, block_lines_lem}
use Rattle.sheet.specs.Numbers.{Run, run, stop, numbers, Numbers, numbers_are, none, further, ended, numbers_in}
use Rattle.sheet.specs.Sheets.{climate_numbers, then_refused, climate_of, block_of, only_accepted, unless_refused, block_with, sheets_of}
use Rattle.sheet.specs.Writing.{write_lines}
use Rattle.sheet.proofs.Laws.{Ends, numbers_end}
use Rattle.sheet.proofs.Further.{further_ends}
use Rattle.sheet.proofs.Verdicts.{climate_verdict_lem, accepted_verdict}

abbrev OfSheet : ℕ → ℕ → Type 0
OfSheet number value = ((1 ≤ number) × (number ≤ 7)) × (value ≤ 123)

-- Refusals 1 and 2 stop a run of numbers, 3 follows it.
ended_is : (least : ℕ) (s : List ℕ) (r : Run) → Ends 123 r → Refusal OfSheet (ended least s r).verdict
unfolding ended
ended_is least s (run vs at) h = test (ltb at (length s))
  where
    test : (b : Bool) → Refusal OfSheet (cond {A = Numbers} b (none least 3 at) (numbers_are vs Accepted)).verdict
    test true = ((omega arith, omega arith), h)
    test false = tt
ended_is least s (stop number place) h = ((omega (arith, h.0.0), omega (arith, h.0.1)), h.1)

ends_up : (m n : ℕ) (r : Run) → m ≤ n → Ends m r → Ends n r
ends_up m n (run vs at) l h = omega arith
ends_up m n (stop number place) l h = (h.0, omega (arith, h.1))

-- A sheet of so few numbers, whose lines carry as little.
sheet_is_lem : (least extra : ℕ) (lines : List ℕ → List (Bool × ℕ × ℕ)) (s : List ℕ) → 3 * (least + extra) ≤ 123 → ((f : List ℕ) → Lines OfSheet (lines f))
    → Refusal OfSheet (then_refused lines (numbers_in least extra s))
unfolding numbers_in
sheet_is_lem least extra lines s few h =
    first_refusal OfSheet (numbers_in least extra s).verdict (lines (numbers_in least extra s).fields)
    (ended_is least s (further extra s (numbers least 0 s))
    (ends_up (3 * (least + extra)) 123 (further extra s (numbers least 0 s)) few (further_ends least extra s (numbers least 0 s) (numbers_end least 0 (3 * least) s (omega arith)))))
    (h (numbers_in least extra s).fields)

of_fields : (number value : ℕ) → 4 ≤ number → number ≤ 7 → value ≤ 41 → OfSheet number value
of_fields number value low high small = ((omega arith, high), omega arith)

climate_is : (climate : List ℕ) → Refusal OfSheet (climate_of climate).verdict
unfolding climate_of
climate_is climate =
    rw (climate_verdict_lem (climate_numbers climate).fields (then_refused climate_lines (climate_numbers climate)))
    (sheet_is_lem 24 0 climate_lines climate (omega arith) (λ f. climate_lines_lem OfSheet of_fields [] tt f))

block_is : (block : List ℕ) → Refusal OfSheet (block_of block).verdict
unfolding block_of
block_is block = sheet_is_lem 16 1 block_lines block (omega arith) (λ f. block_lines_lem OfSheet of_fields [] tt f)

-- The pair's is the climate's, or else the block's.
unless_is : (v w : Verdict) (s : Season) → Refusal OfSheet v → Refusal OfSheet w → Refusal OfSheet (unless_refused v (only_accepted s w)).verdict
unless_is Accepted w s p q = rw (accepted_verdict s w) q
unless_is (Refused number value) w s p q = p

pair_is_lem : (climate block : List ℕ) → Refusal OfSheet (sheets_of climate block).verdict
unfolding sheets_of block_with
pair_is_lem climate block = unless_is (climate_of climate).verdict (block_of block).verdict _ (climate_is climate) (block_is block)

pub refused_is : (climate block : List ℕ) (number value : ℕ) → (sheets_of climate block).verdict ≡ Refused number value → OfSheet number value
refused_is climate block number value e = rw e at (pair_is_lem climate block)

-- A writer's refusals carry a field or 0.
abbrev Few : ℕ → ℕ → Type 0
Few number value = value ≤ 123

module _ (bytes : List ℕ) (room number value : ℕ) where
  abbrev fifteen : List (Bool × ℕ × ℕ)
  fifteen = (ltb room (length bytes), 15, 0) ∷ []

  pub climate_write_refused_is : (c : List ℕ) → first_of Accepted (write_lines (climate_lines c) bytes room) ≡ Refused number value → value ≤ 123
  climate_write_refused_is c e =
      rw e at (first_refusal Few Accepted (write_lines (climate_lines c) bytes room) tt (climate_lines_lem Few (λ n v low high small. omega arith) fifteen (omega arith, tt) c))

  pub block_write_refused_is : (b : List ℕ) → first_of Accepted (write_lines (block_lines b) bytes room) ≡ Refused number value → value ≤ 123
  block_write_refused_is b e =
      rw e at (first_refusal Few Accepted (write_lines (block_lines b) bytes room) tt (block_lines_lem Few (λ n v low high small. omega arith) fifteen (omega arith, tt) b))
