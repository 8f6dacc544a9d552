-- Bits that are no more than an infinity's, but for the sign, are no NaN's.
use mathlib.Core.Path.{sym, ◌∙◌, subst}
use mathlib.Core.Bool.{Bool, not}
use Prim.Native.Nat.{ℕ, ◌%◌, ◌≤◌}
use lib.Dec.{T}
use lib.Bits.{bit_and, and_mask}
use lib.Ieee.{binary32, nan_bits}
use lib.Ieee.Bits.{nan_bits_above}
use borrow.Author.Tests.{le-ltb}
use Rattle.vectors.proofs.probing.float_of.Goals as goal

no_nan : (n : ℕ) → bit_and n 0x7fff_ffff ≤ 0x7f80_0000 → T (not (nan_bits binary32 n))
no_nan n h =
    subst (λ (b : Bool). T (not b))
    (sym (nan_bits_above binary32 n ∙ le-ltb 0x7f80_0000 (n % 0x8000_0000) (subst (λ (m : ℕ). m ≤ 0x7f80_0000) (and_mask n 31) h))) tt

pub float_from_bits-result : goal.float_from_bits-result
float_from_bits-result c = no_nan _ c.if-bits-le2139095040.true
