-- The parts of the blocks lie one behind another in their buffer.
use Prim.Native.Nat.{ℕ, zero, suc, ◌+◌, ◌*◌, ◌≤◌, ◌<◌}
use mathlib.Core.Path.{◌≡◌, refl, sym, ◌∙◌}
use mathlib.Core.Bool.{Bool, true, false, ◌||◌, true≢false}
use mathlib.Core.List.{List}
use native.Mathlib.Omega.{arith}
use lib.Dec.{ltb}
use lib.ListN.{length}
use borrow.Author.Tests.{ltb-false}
use Rattle.season.proofs.Whole.{by_order}
use Rattle.bank.specs.Blocks.{length_of, start_of, outside}
use Rattle.bank.specs.Carried.{Counted}

module _ (lengths : List ℕ) (column : ℕ) where
  pub start_next : (k : ℕ) → start_of lengths column (k + 1) ≡ start_of lengths column k + length_of lengths column k
  unfolding start_of
  start_next k = let z : k + 1 ≡ suc k = omega arith in rw z

  pub start_grows : (k n : ℕ) → k ≤ n → start_of lengths column k ≤ start_of lengths column n
  unfolding start_of
  start_grows k zero h = let z : k ≡ 0 = omega arith in rw z (omega arith)
  start_grows k (suc n) h =
      by_order k (suc n)
      (λ i. let z : k ≡ suc n = omega arith in rw z (omega arith))
      (λ i. omega (arith, start_grows k n (omega arith)))

  -- Block k of n has its part within what the n parts take.
  pub part_within : {k n size : ℕ} → k < n → start_of lengths column n ≤ size → start_of lengths column k + length_of lengths column k ≤ size
  part_within {k} {n} h e = omega (arith, start_next k, start_grows (k + 1) n (omega arith))

-- Block k of n has its three lengths.
pub length_read : {k n column : ℕ} {lengths : List ℕ} → Counted n lengths → column ≤ 2 → k < n → (column ≤ 2) × (k < 40) × (3 * k + column < length lengths)
length_read c h i = (h, omega (arith, c.few), omega (arith, c.three))

-- Neither of two tests holds.
pub or_left : (a b : Bool) → (a || b) ≡ false → a ≡ false
or_left true b e = e
or_left false b e = refl

pub or_right : (a b : Bool) → (a || b) ≡ false → b ≡ false
or_right true b e = absurd (true≢false e)
or_right false b e = e

-- A count within 1 to 40, and three lengths a block.
pub counted : {n : ℕ} {lengths : List ℕ} {r : Bool} → r ≡ outside n → r ≡ false → 3 * n ≤ length lengths → Counted n lengths
counted {n} e f h = record { few = ltb-false 40 n (or_right (ltb n 1) (ltb 40 n) (sym e ∙ f)); three = h }
