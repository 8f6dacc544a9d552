-- The loss as a floor, and where it stops.
use mathlib.Core.Path.{◌≡◌, refl}
use Prim.Native.Nat.{ℕ, ◌+◌, ◌-◌, ◌*◌, ◌/◌, ◌≤◌, ◌<◌, min}
use native.Mathlib.Nat.{div-mul-le_self, lt-mul-div-succ, le-div_iff_mul-le, mul_comm, mul-div_cancel, mul-zero, zero-div}
use native.Mathlib.Omega.{arith}
use borrow.Author.Tests.{ne_eqb}
use Rattle.season.specs.Loss.{loss_of}
use Rattle.season.proofs.Whole.{by_order}

-- by the need
pub no_need : (ky u : ℕ) → loss_of ky 0 u ≡ 0
unfolding loss_of
no_need ky u = refl

pub some_need : (ky f u : ℕ) → 0 < f → loss_of ky f u ≡ min (100 * ky * (f - u) / f) 10000
unfolding loss_of
some_need ky f u h = rw (ne_eqb f 0 (λ e. omega arith))

pub loss_at_most : (ky f u : ℕ) → loss_of ky f u ≤ 10000
loss_at_most ky f u =
    by_order 0 f
    (λ none. let z : f ≡ 0 = omega arith in rw (z, no_need) (omega arith))
    (λ some. rw (some_need ky f u some) (omega arith))

module _ (ky f u : ℕ) (some : 0 < f) where
  abbrev lost : ℕ
  lost = 100 * ky * (f - u)

  pub loss_floor : loss_of ky f u < 10000 → (loss_of ky f u * f ≤ lost) × (lost < (loss_of ky f u + 1) * f)
  loss_floor h =
      let under : min (lost / f) 10000 < 10000 = rw (← some_need ky f u some) h in
      let is : loss_of ky f u ≡ lost / f = rw (some_need ky f u some) (omega arith) in
      rw is (div-mul-le_self lost f, rw (mul_comm (lost / f + 1) f) (lt-mul-div-succ lost some))

  pub loss_full : 10000 * f ≤ lost → loss_of ky f u ≡ 10000
  loss_full h =
      let all : 10000 ≤ lost / f = (le-div_iff_mul-le some).1 h in
      rw (some_need ky f u some) (omega arith)

pub loss_none : (ky f : ℕ) → loss_of ky f f ≡ 0
loss_none ky f =
    by_order 0 f
    (λ none. let z : f ≡ 0 = omega arith in rw (z, no_need))
    (λ some. let z : f - f ≡ 0 = omega arith in rw (some_need ky f f some, z, mul-zero, zero-div))

pub half_met : (u : ℕ) → 0 < u → loss_of 100 (2 * u) u ≡ 5000
half_met u some =
    let e : 100 * 100 * (2 * u - u) ≡ 5000 * (2 * u) = omega arith in
    let twice : 0 < 2 * u = omega arith in
    rw (some_need 100 (2 * u) u twice, e, mul-div_cancel 5000 twice) (omega arith)
