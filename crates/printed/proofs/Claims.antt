-- The proofs of `specs/Claims.antt`, in its order.
use mathlib.Core.Path.{◌≡◌, refl, sym, ap, ap₂, ◌∙◌}
use mathlib.Core.List.{List, [], ◌++◌}
use Prim.Native.Nat.{ℕ, ◌≤◌}
use native.Mathlib.Omega.{arith}
use lib.ListN.{length, take, drop, length-drop}
use lib.Seq.{take-length, drop-length, take-append-le, drop-append-le}
use Rattle.leb128.specs.Groups.{encode, over_groups, over_in}
use Rattle.leb128.specs.Forms.{decode, decode_from, below}
use Rattle.season.specs.Rules.{ramp, ramp_z}
use Rattle.season.specs.Calendar.{next_day, days_on}
use Rattle.season.specs.Day.{date_of, kc_of, crop_need, rain_on}
use Rattle.verdict.specs.Refusals.{or_refused}
use Rattle.decades.specs.Table.{day_row, with_day, rows_to, six, flat}
use Rattle.sheet.specs.Numbers.{Run, run, stop, before, numbers, after, further, ended, numbers_in, written}
use Rattle.fields.specs.Fields.{outside, lowest_outside, merged}
use Rattle.sheet.specs.Sheets.{climate_of, block_of, block_with, sheets_of, climate_end}
use Rattle.sheet.proofs.Laws.{Ends, numbers_start, numbers_end}
use Rattle.sheet.proofs.Start.{climate_bytes_decide, block_bytes_decide}
use Rattle.controller.specs.Calls.{on_sheets}
use Rattle.printed.specs.Text.{decimal, ending, cells, sheets_printed, printed}
use Rattle.printed.specs.Cases.{edges}
use Rattle.printed.specs.Claims.{Claims}

-- What is printed of two sheets goes by what each is read as.
same_printed : (c d a b : List ℕ) → climate_of c ≡ climate_of d → block_of a ≡ block_of b → sheets_printed c a ≡ sheets_printed d b
unfolding on_sheets sheets_of block_with
same_printed c d a b p q = rw (p, q)

-- Cut where the climate sheet ends.
cut : (s : List ℕ) (at : ℕ) → climate_end s ≡ at → printed s ≡ sheets_printed (take at s) (drop at s)
cut s at e = ap (λ (n : ℕ). sheets_printed (take n s) (drop n s)) e

-- Twenty-four numbers take at most 72 bytes, so 52 are left to the block sheet; where they are not whole, all is the climate sheet.
module _ (t y : List ℕ) (h : 124 ≤ length t) where
  same_run : numbers 24 0 (t ++ y) ≡ numbers 24 0 t
  same_run = numbers_start t y 24 0 (omega arith)

  by_run : (r : Run) → numbers 24 0 t ≡ r → Ends 72 r → printed (t ++ y) ≡ printed t
  unfolding climate_end
  by_run (run vs at) e l =
      cut (t ++ y) at (rw (same_run ∙ e))
      ∙ ap₂ sheets_printed (take-append-le at t y (omega arith)) (drop-append-le at t y (omega arith))
      ∙ same_printed (take at t) (take at t) (drop at t ++ y) (drop at t) refl (block_bytes_decide (drop at t) y (omega (arith, length-drop at t)))
      ∙ sym (cut t at (rw e))
  by_run (stop number place) e l =
      cut (t ++ y) (length (t ++ y)) (rw (same_run ∙ e))
      ∙ ap₂ sheets_printed (take-length (t ++ y)) (drop-length (t ++ y))
      ∙ same_printed (t ++ y) t [] [] (climate_bytes_decide t y (omega arith)) refl
      ∙ sym (cut t (length t) (rw e) ∙ ap₂ sheets_printed (take-length t) (drop-length t))

  first_bytes_decide : printed (t ++ y) ≡ printed t
  first_bytes_decide = by_run (numbers 24 0 t) refl (numbers_end 24 0 72 t (omega arith))

pub claims : Claims
unfolding encode over_groups over_in decode decode_from below ramp ramp_z next_day days_on date_of kc_of crop_need rain_on or_refused day_row with_day rows_to six flat before numbers after further ended numbers_in written outside lowest_outside merged climate_of block_of block_with sheets_of climate_end decimal ending cells on_sheets edges
claims = record { first_bytes_decide = first_bytes_decide; edges_hold = refl }
