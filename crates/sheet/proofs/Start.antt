-- A sheet's first bytes decide: its numbers take at most three each, and one byte more is the first extra one. And where a climate sheet ends.
use Prim.Native.Nat.{ℕ, zero, suc, ◌+◌, ◌≤◌}
use mathlib.Core.Path.{◌≡◌, refl, sym, ap, ◌∙◌}
use mathlib.Core.Bool.{Bool, true, false, cond}
use mathlib.Core.List.{List, ◌++◌}
use native.Mathlib.Omega.{arith}
use borrow.Author.Tests.{ltb-false, ne_eqb}
use lib.Dec.{ltb, eqb}
use lib.ListN.{length, drop}
use Rattle.leb128.specs.Forms.{Number, Whole, Short, Bad, decode}
use denote.Enum.Bare.{sameb}
use Rattle.verdict.specs.contracts.Reason.{the_type}
use Rattle.verdict.specs.declared.Reason.{Reason}
use Rattle.verdict.specs.declared.Reason.TheVariants as reason
use Rattle.verdict.specs.Refusals.{Verdict, Accepted, Refused, number_of}
use Rattle.sheet.specs.Numbers.{Run, run, stop, before, numbers, Numbers, numbers_are, none, further, ended, numbers_in}
use Rattle.sheet.specs.Sheets.{climate_numbers, climate_of, block_of, end_in, climate_end}
use Rattle.sheet.proofs.Runs.{numbers_whole, numbers_short, numbers_bad, reach_whole}
use Rattle.sheet.proofs.Laws.{Ends, numbers_end}
use Rattle.sheet.proofs.Further.{further_zero, in_start}

pub climate_bytes_decide : (t y : List ℕ) → 73 ≤ length t → climate_of (t ++ y) ≡ climate_of t
unfolding climate_of
climate_bytes_decide t y h = rw (in_start 24 0 t y (omega arith))

pub block_bytes_decide : (t y : List ℕ) → 52 ≤ length t → block_of (t ++ y) ≡ block_of t
unfolding block_of
block_bytes_decide t y h = rw (in_start 16 1 t y (omega arith))

-- ---- where a climate sheet ends

-- A run of numbers ends within the sheet.
abbrev Inside : ℕ → Run → Type 0
Inside size (run vs end) = end ≤ size
Inside size (stop number place) = Unit

inside_before : (size v : ℕ) (r : Run) → Inside size r → Inside size (before v r)
unfolding before
inside_before size v (run vs end) h = h
inside_before size v (stop number place) h = tt

inside_by : (count at : ℕ) (s : List ℕ) → at ≤ length s → ((n : ℕ) → at + n ≤ length s → Inside (length s) (numbers count (at + n) s)) → (d : Number)
    → decode (drop at s) ≡ d → Inside (length s) (numbers (suc count) at s)
inside_by count at s h ih (Whole v n) e = rw (numbers_whole count at s v n e) (inside_before (length s) v _ (ih n (reach_whole at s v n e h)))
inside_by count at s h ih Short e = rw (numbers_short count at s e) tt
inside_by count at s h ih (Bad p) e = rw (numbers_bad count at s p e) tt

numbers_inside : (count at : ℕ) (s : List ℕ) → at ≤ length s → Inside (length s) (numbers count at s)
unfolding numbers
numbers_inside zero at s h = h
numbers_inside (suc count) at s h = inside_by count at s h (λ n l. numbers_inside count (at + n) s l) (decode (drop at s)) refl

-- So a climate sheet ends within the input.
end_within : (size : ℕ) (r : Run) → Inside size r → end_in size r ≤ size
end_within size (run vs end) h = h
end_within size (stop number place) h = omega arith

pub climate_end_within : (s : List ℕ) → climate_end s ≤ length s
unfolding climate_end
climate_end_within s = end_within (length s) (numbers 24 0 s) (numbers_inside 24 0 s (omega arith))

-- It ends before a byte that is refused 3, and else with the input: so the code tells its end by its verdict.
abbrev pub end_of : ℕ → Verdict → ℕ
end_of size Accepted = size
end_of size (Refused number value) = cond (eqb number 3) value size

end_by : (s : List ℕ) (r : Run) → Inside (length s) r → Ends 72 r → end_of (length s) (ended 24 s (further 0 s r)).verdict ≡ end_in (length s) r
unfolding further ended
end_by s (stop m place) i h = ap (λ (b : Bool). cond b place (length s)) (ne_eqb m 3 (λ q. omega (arith, h.0.1)))
end_by s (run vs at) i h = ap (λ (r : Run). end_of (length s) (ended 24 s r).verdict) (further_zero s vs at) ∙ go (ltb at (length s)) refl
  where
    go : (t : Bool) → ltb at (length s) ≡ t → end_of (length s) (cond {A = Numbers} t (none 24 3 at) (numbers_are vs Accepted)).verdict ≡ at
    go true e = refl
    go false e = omega (arith, ltb-false at (length s) e)

pub climate_end_is : (s : List ℕ) (v : Verdict) → (climate_numbers s).verdict ≡ v → end_of (length s) v ≡ climate_end s
unfolding climate_end numbers_in
climate_end_is s v e =
    ap (end_of (length s)) (sym e) ∙ end_by s (numbers 24 0 s) (numbers_inside 24 0 s (omega arith)) (numbers_end 24 0 72 s (omega arith))

-- A refusal is 3 as its reason is that bytes follow.
pub is_three : (r : Reason) → sameb the_type r reason.BytesFollow ≡ eqb (number_of r) 3
is_three reason.EndsEarly = refl
is_three reason.BadNumber = refl
is_three reason.BytesFollow = refl
is_three reason.FieldOutside = refl
is_three reason.SeasonTooLong = refl
is_three reason.RootsShrink = refl
is_three reason.OpeningAboveTotal = refl
is_three reason.AreaTooLong = refl
is_three reason.Damaged = refl
is_three reason.Torn = refl
is_three reason.AllDaysClosed = refl
is_three reason.AmountOutside = refl
is_three reason.DayOverfull = refl
is_three reason.AreaFull = refl
is_three reason.BufferShort = refl
is_three reason.NoChoice = refl
is_three reason.YieldFactorOutside = refl
is_three reason.ProbeWrong = refl
is_three reason.NoContent = refl
is_three reason.RoleOutside = refl
is_three reason.RoleLooksOnly = refl
is_three reason.BankWrong = refl
is_three reason.StartsDiffer = refl
