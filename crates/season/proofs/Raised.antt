-- A top that rises by a whole number a day: day by day, weighed by ETo, and what the machine's steps make of it in 32 bits.
use mathlib.Core.Path.{◌≡◌, sym, ◌∙◌, ap}
use Prim.Native.Nat.{ℕ, ◌+◌, ◌*◌}
use native.Mathlib.Nat.{mul-zero}
use native.Mathlib.Omega.{arith}
use lib.IntN.{ℤ, pos, nat_abs, ◌+ℤ◌, ◌*ℤ◌, +ℤ_assoc, zero-*ℤ}
use lib.Signed.{non_neg}
use lib.Dec.{T}
use mir.Syntax.{w32}
use mir.Val.{Fits, SFits, to_z, of_z}
use mir.ValLaws.{to_z-of_z, to_z_pos}
use Rattle.season.specs.Carried.{risen, raised, Raising}
use Rattle.season.proofs.Whole.{one_times, add_times, swapped, times_add, Times, times_fits, times_back}

-- no days, and more days
pub risen_none : (top : ℕ) (rise : ℤ) → pos top ≡ risen top rise 0
risen_none top rise = rw (zero-*ℤ rise) (ap pos (omega arith))

pub risen_more : (a : ℤ) (rise : ℤ) (j k : ℕ) → a +ℤ pos j *ℤ rise +ℤ pos k *ℤ rise ≡ a +ℤ pos (j + k) *ℤ rise
risen_more a rise j k = +ℤ_assoc a _ _ ∙ ap (λ (z : ℤ). a +ℤ z) (sym (add_times j k rise))

pub raised_more : (top : ℕ) (rise : ℤ) (j k : ℕ) → pos (raised top rise j) ≡ risen top rise j → raised (raised top rise j) rise k ≡ raised top rise (j + k)
unfolding raised
raised_more top rise j k e = ap nat_abs (ap (λ (z : ℤ). z +ℤ pos k *ℤ rise) e ∙ risen_more (pos top) rise j k)

-- where nothing is added
pub raised_level : (top k : ℕ) → raised top (pos 0) k ≡ top
unfolding raised
raised_level top k = rw mul-zero (omega arith)

-- The same rise, weighed by e, with c on top.
pub risen_weighed : (e c a b : ℕ) (rise : ℤ) → pos b ≡ pos a +ℤ rise → pos (e * b + c) ≡ risen (e * a + c) (pos e *ℤ rise) 1
risen_weighed e c a b rise h =
    ap (λ (z : ℤ). pos e *ℤ z +ℤ pos c) h
    ∙ ap (λ (z : ℤ). z +ℤ pos c) (times_add e (pos a) rise)
    ∙ swapped (pos (e * a)) (pos e *ℤ rise) (pos c)
    ∙ ap (λ (z : ℤ). pos (e * a + c) +ℤ z) (sym (one_times (pos e *ℤ rise)))

-- The machine's sum.
module _ {top : ℕ} {rise : ℤ} {days : ℕ} (fits : SFits w32 rise) (r : Raising top rise days) where
  pub grown_fits : SFits w32 (Times days rise)
  grown_fits = times_fits days rise fits r.days_small r.growth_small

  abbrev Sum : ℤ
  Sum = to_z w32 top +ℤ to_z w32 (of_z w32 (Times days rise))

  sum_is : Sum ≡ pos (raised top rise days)
  sum_is = rw (to_z_pos w32 top r.top_small, times_back days rise fits r.days_small r.growth_small) (sym r.never_negative)

  pub sum_fits : SFits w32 Sum
  sum_fits = rw sum_is (record { sfits = r.small })

  pub sum_back : to_z w32 (of_z w32 Sum) ≡ pos (raised top rise days)
  sum_back = to_z-of_z w32 Sum sum_fits ∙ sum_is

  pub cast_back : T (non_neg (to_z w32 (of_z w32 Sum))) × Fits w32 (nat_abs (to_z w32 (of_z w32 Sum)))
  cast_back = rw sum_back (tt, record { fits = omega (arith, r.small) })
