-- A product with a reciprocal in place of a division: the reciprocal of d is more than 2^44 / d by too little to matter while x × d < 2^44.
use mathlib.Core.Path.{◌≡◌, ◌∙◌, sym}
use Prim.Native.Nat.{ℕ, ◌+◌, ◌*◌, ◌/◌, ◌≤◌, ◌<◌}
use native.Mathlib.Nat.{mul_comm, mul_assoc, mul-add, mul_left_comm, mul-le-mul_left, lt_of_mul-lt-mul_left, le_of_mul-le-mul_left, div-mul-le_self, lt-mul-div-succ, div-eq_of_lt-le}
use native.Mathlib.Omega.{arith}
use Rattle.season.specs.Carried.{scale, reciprocal, scaled}

module _ (x d : ℕ) (some : 0 < d) (small : x * d < scale) where
  -- d reciprocals are the scale and at most d more
  above : scale ≤ d * reciprocal d
  above = omega (arith, lt-mul-div-succ scale {b = d} some)

  near : d * reciprocal d ≤ scale + d
  near = omega (arith, div-mul-le_self scale d, mul-add d (scale / d) 1, mul_comm d (scale / d))

  low : x / d * scale ≤ x * reciprocal d
  low =
      le_of_mul-le-mul_left {k = d}
      (omega (arith, mul_left_comm d x (reciprocal d), mul-le-mul_left x above, mul_left_comm d (x / d) scale, mul_comm (x / d) (d * scale), mul_comm d (x / d), div-mul-le_self x d))
      some

  pub high : x * reciprocal d < (x / d + 1) * scale
  high =
      lt_of_mul-lt-mul_left d
      (omega (arith, mul_left_comm d x (reciprocal d), mul-le-mul_left x near, mul-add x scale d, lt-mul-div-succ x {b = d} some))

  pub by_reciprocal : scaled x (reciprocal d) ≡ x / d
  by_reciprocal = div-eq_of_lt-le scale low high

-- The product of two numbers, one of them times the reciprocal beforehand.
module _ (x y d : ℕ) (some : 0 < d) (small : y * x * d < scale) where
  moved : x * (y * reciprocal d) ≡ y * x * reciprocal d
  moved = mul_left_comm x y (reciprocal d) ∙ sym (mul_assoc y x (reciprocal d))

  pub high_product : x * (y * reciprocal d) < (y * x / d + 1) * scale
  high_product = rw moved (high (y * x) d some small)

  pub by_reciprocal_product : scaled x (y * reciprocal d) ≡ y * x / d
  by_reciprocal_product = rw moved (by_reciprocal (y * x) d some small)
