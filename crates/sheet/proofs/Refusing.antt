-- The verdict of a sheet, and of a pair, is the first of its lines that applies: going over the bytes meets what reading the numbers meets.
use Prim.Native.Nat.{ℕ, zero, suc, ◌+◌, ◌-◌}
use mathlib.Core.Path.{◌≡◌, refl, sym, ap, ◌∙◌}
use mathlib.Core.Bool.{Bool, true, false, cond, ◌&&◌}
use mathlib.Core.List.{List, [], ◌∷◌, ◌++◌}
use native.Mathlib.Omega.{arith}
use lib.Dec.{ltb, eqb}
use lib.ListN.{length, drop}
use lib.Seq.{drop-drop}
use Rattle.leb128.specs.Forms.{Number, Whole, Short, Bad, decode, decode_from, below}
use Rattle.verdict.specs.Refusals.{Verdict, Accepted, Refused, or_refused, first_of}
use Rattle.verdict.proofs.First.{first_append}
use Rattle.sheet.specs.Numbers.{Run, run, stop, before, numbers, numbers_are, none, after, further, ended, numbers_in}
use Rattle.fields.specs.Refusals.{climate_lines, block_lines}
use Rattle.sheet.specs.Sheets.{climate_numbers, then_refused, climate_of, block_of, sheets_of}
use Rattle.sheet.specs.Refusals.{First, offends, ends, whole, comes_first, goes_on, byte_lines, bytes_refused, climate_sheet_lines, block_sheet_lines, pair_lines}
use Rattle.sheet.proofs.Verdicts.{climate_verdict_lem, pair_verdict}
use Rattle.sheet.proofs.Runs.{numbers_whole, numbers_short, numbers_bad}

-- ---- one number

-- What comes first, by what stands at the start of the number that begins at place `at` of the bytes t.
abbrev after_number : ℕ → ℕ → List ℕ → Number → First
after_number count at t (Whole v n) = comes_first count (at + n) 0 (drop (at + n) t)
after_number count at t Short = ends
after_number count at t (Bad p) = offends (at + p)

after_below : (count at : ℕ) (t : List ℕ) (low : ℕ) (d : Number) → after_number count at t (below low d) ≡ after_number count at t d
unfolding below
after_below count at t low (Whole v n) = refl
after_below count at t low Short = refl
after_below count at t low (Bad p) = refl

module _ (count at : ℕ) (t : List ℕ) where
  -- the byte at place `here` is byte i of its number
  by_bytes : (i here : ℕ) (s : List ℕ) → here ≡ at + i → drop here t ≡ s → comes_first (suc count) here i s ≡ after_number count at t (decode_from i s)
  unfolding comes_first decode_from
  by_bytes i here [] e r = refl
  by_bytes i here (b ∷ s) e r = go (ltb b 128) (eqb b 0 && ltb 0 i) (ltb i 2) (by_bytes (i + 1) (here + 1) s (omega arith) next)
    where
      next : drop (here + 1) t ≡ s
      next = sym (drop-drop 1 here t) ∙ ap (drop 1) r

      go : (last zeros few : Bool) → comes_first (suc count) (here + 1) (i + 1) s ≡ after_number count at t (decode_from (i + 1) s)
          → ◌≡◌ {A = First} (elim last [
            | true ↦ elim zeros [ true ↦ offends here | false ↦ comes_first count (here + 1) 0 s ]
            | false ↦ elim few [ true ↦ comes_first (suc count) (here + 1) (i + 1) s | false ↦ offends here ]
          ])
          (after_number count at t (elim last [
            | true ↦ elim zeros [ true ↦ Bad i | false ↦ Whole b (i + 1) ]
            | false ↦ elim few [ true ↦ below (b - 128) (decode_from (i + 1) s) | false ↦ Bad i ]
          ]))
      go true true few h = ap offends e
      go true false few h =
          let place : here + 1 ≡ at + (i + 1) = omega arith in
          ap (comes_first count (here + 1) 0) (sym next) ∙ ap (λ (n : ℕ). comes_first count n 0 (drop n t)) place
      go false zeros true h = h ∙ sym (after_below count at t (b - 128) (decode_from (i + 1) s))
      go false zeros false h = ap offends e

-- ---- a run of numbers

-- What refusals 1 and 2 say of a run of numbers, and of what comes first; where neither applies, what is said of the place behind the numbers.
abbrev run_then : ℕ → (ℕ → Verdict) → Run → Verdict
run_then size behind (run vs at) = behind at
run_then size behind (stop number place) = Refused number place

abbrev first_then : ℕ → (ℕ → Verdict) → First → Verdict
first_then size behind (offends place) = Refused 2 place
first_then size behind ends = Refused 1 size
first_then size behind (whole at) = behind at

run_before : (size : ℕ) (behind : ℕ → Verdict) (v : ℕ) (r : Run) → run_then size behind (before v r) ≡ run_then size behind r
unfolding before
run_before size behind v (run vs at) = refl
run_before size behind v (stop number place) = refl

run_after : (size : ℕ) (behind : ℕ → Verdict) (vs : List ℕ) (r : Run) → run_then size behind (after vs r) ≡ run_then size behind r
unfolding after
run_after size behind vs (run ws at) = refl
run_after size behind vs (stop number place) = refl

module _ (t : List ℕ) (behind : ℕ → Verdict) where
  same_run : (count at : ℕ) → run_then (length t) behind (numbers count at t) ≡ first_then (length t) behind (comes_first count at 0 (drop at t))
  unfolding numbers comes_first decode
  same_run zero at = refl
  same_run (suc count) at =
      by_number (decode (drop at t)) refl (same_run count)
    where
      by_number : (d : Number) → decode (drop at t) ≡ d
          → ((n : ℕ) → run_then (length t) behind (numbers count n t) ≡ first_then (length t) behind (comes_first count n 0 (drop n t)))
          → run_then (length t) behind (numbers (suc count) at t) ≡ first_then (length t) behind (comes_first (suc count) at 0 (drop at t))
      by_number (Whole v n) e ih =
          ap (run_then (length t) behind) (numbers_whole count at t v n e) ∙ run_before (length t) behind v (numbers count (at + n) t) ∙ ih (at + n)
          ∙ ap (first_then (length t) behind) (sym (by_bytes count at t 0 at (drop at t) (omega arith) refl ∙ ap (after_number count at t) e))
      by_number Short e ih =
          ap (run_then (length t) behind) (numbers_short count at t e)
          ∙ ap (first_then (length t) behind) (sym (by_bytes count at t 0 at (drop at t) (omega arith) refl ∙ ap (after_number count at t) e))
      by_number (Bad p) e ih =
          ap (run_then (length t) behind) (numbers_bad count at t p e)
          ∙ ap (first_then (length t) behind) (sym (by_bytes count at t 0 at (drop at t) (omega arith) refl ∙ ap (after_number count at t) e))

-- ---- and further numbers

module _ (b : List ℕ) (extra : ℕ) (behind : ℕ → Verdict) where
  -- What is said of the place behind the first run: of the numbers from there on, where bytes follow.
  abbrev run_on : ℕ → Verdict
  run_on at = cond (ltb at (length b)) (run_then (length b) behind (numbers extra at b)) (behind at)

  abbrev first_on : ℕ → Verdict
  first_on at = cond (ltb at (length b)) (first_then (length b) behind (comes_first extra at 0 (drop at b))) (behind at)

  run_further : (r : Run) → run_then (length b) behind (further extra b r) ≡ run_then (length b) run_on r
  unfolding further
  run_further (stop number place) = refl
  run_further (run vs at) = go (ltb at (length b))
    where
      go : (t : Bool) → run_then (length b) behind (elim t [ true ↦ after vs (numbers extra at b) | false ↦ run vs at ]) ≡ cond t (run_then (length b) behind (numbers extra at b)) (behind at)
      go true = run_after (length b) behind vs (numbers extra at b)
      go false = refl

  first_further : (f : First) → first_then (length b) behind (goes_on extra b f) ≡ first_then (length b) first_on f
  first_further (offends place) = refl
  first_further ends = refl
  first_further (whole at) = go (ltb at (length b))
    where
      go : (t : Bool) → first_then (length b) behind (cond t (comes_first extra at 0 (drop at b)) (whole at)) ≡ cond t (first_then (length b) behind (comes_first extra at 0 (drop at b))) (behind at)
      go true = refl
      go false = refl

  on_same : run_on ≡ first_on
  on_same = λ i at. cond (ltb at (length b)) (same_run b behind extra at i) (behind at)

  same_further : (least : ℕ) → run_then (length b) behind (further extra b (numbers least 0 b)) ≡ first_then (length b) behind (goes_on extra b (comes_first least 0 0 b))
  same_further least =
      run_further (numbers least 0 b) ∙ ap (λ (k : ℕ → Verdict). run_then (length b) k (numbers least 0 b)) on_same
      ∙ same_run b first_on least 0 ∙ sym (first_further (comes_first least 0 0 b))

-- ---- and refusal 3

abbrev extra_verdict : ℕ → ℕ → Verdict
extra_verdict size at = cond (ltb at size) (Refused 3 at) Accepted

ended_verdict : (least : ℕ) (b : List ℕ) (r : Run) → (ended least b r).verdict ≡ run_then (length b) (extra_verdict (length b)) r
unfolding ended
ended_verdict least b (stop number place) = refl
ended_verdict least b (run vs at) = go (ltb at (length b))
  where
    go : (t : Bool) → (cond t (none least 3 at) (numbers_are vs Accepted)).verdict ≡ cond t (Refused 3 at) Accepted
    go true = refl
    go false = refl

first_lines : (size : ℕ) (first : First) → first_then size (extra_verdict size) first ≡ first_of Accepted (byte_lines size first)
unfolding or_refused
first_lines size (offends place) = refl
first_lines size ends = refl
first_lines size (whole at) = refl

-- ---- a sheet's lines

numbers_verdict : (least extra : ℕ) (b : List ℕ) → (numbers_in least extra b).verdict ≡ first_of Accepted (bytes_refused least extra b)
unfolding numbers_in
numbers_verdict least extra b =
    ended_verdict least b (further extra b (numbers least 0 b)) ∙ same_further b extra (extra_verdict (length b)) least
    ∙ first_lines (length b) (goes_on extra b (comes_first least 0 0 b))

-- 1 to 3, and then those of the numbers.
then_lines : (least extra : ℕ) (lines : List ℕ → List (Bool × ℕ × ℕ)) (b : List ℕ)
    → then_refused lines (numbers_in least extra b) ≡ first_of Accepted (bytes_refused least extra b ++ lines (numbers_in least extra b).fields)
then_lines least extra lines b =
    ap (λ (v : Verdict). first_of v (lines (numbers_in least extra b).fields)) (numbers_verdict least extra b)
    ∙ sym (first_append Accepted (bytes_refused least extra b) (lines (numbers_in least extra b).fields))

pub climate_refuses_first : (climate : List ℕ) → (climate_of climate).verdict ≡ first_of Accepted (climate_sheet_lines climate)
unfolding climate_of
climate_refuses_first climate =
    climate_verdict_lem (climate_numbers climate).fields (then_refused climate_lines (climate_numbers climate)) ∙ then_lines 24 0 climate_lines climate

pub block_refuses_first : (block : List ℕ) → (block_of block).verdict ≡ first_of Accepted (block_sheet_lines block)
unfolding block_of
block_refuses_first block = then_lines 16 1 block_lines block

-- The climate's lines, and then the block's.
pub refuses_first : (climate block : List ℕ) → (sheets_of climate block).verdict ≡ first_of Accepted (pair_lines climate block)
refuses_first climate block =
    pair_verdict climate block (block_sheet_lines block) (block_refuses_first block)
    ∙ ap (λ (v : Verdict). first_of v (block_sheet_lines block)) (climate_refuses_first climate)
    ∙ sym (first_append Accepted (climate_sheet_lines climate) (block_sheet_lines block))
