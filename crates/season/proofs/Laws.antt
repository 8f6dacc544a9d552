-- Laws of natural numbers that `omega` does not have: of products and of quotients by a variable.
use mathlib.Core.Path.{◌≡◌, sym, ap}
use Prim.Native.Nat.{ℕ, ◌+◌, ◌-◌, ◌*◌, ◌/◌, ◌≤◌, ◌<◌, min}
use native.Mathlib.Omega.{arith}
use Rattle.season.specs.Rules.{root_depth}
use native.Mathlib.Nat.{mul-le-mul, mul-le-mul_left, le-div_iff_mul-le, div-mul-le_self, div-le_of_le-mul, le_trans, mul_comm, div-lt_iff_lt-mul, mul-lt-mul_of_pos_right, mul-div_cancel}

-- a product of two variables, each with a bound
pub product : (a b x y : ℕ) → a ≤ x → b ≤ y → a * b ≤ x * y
product a b x y p q = mul-le-mul p q

-- a larger dividend has no smaller quotient
pub quotient_up : (a b m : ℕ) → 0 < m → a ≤ b → a / m ≤ b / m
quotient_up a b m h p = (le-div_iff_mul-le h).1 (le_trans (div-mul-le_self a m) p)

-- k of m parts of a are at most a
pub part_le : (a k m : ℕ) → 0 < m → k ≤ m → a * k / m ≤ a
part_le a k m h p = div-le_of_le-mul m (rw (mul_comm m a) (mul-le-mul_left a p))

-- less than all of m parts is less than all
pub quotient_below : (k a m : ℕ) → 0 < m → k < m → 0 < a → k * a / m < a
quotient_below k a m h p q = (div-lt_iff_lt-mul h).1 (rw (mul_comm a m) (mul-lt-mul_of_pos_right p q))

-- roots: full grown from day g on, and growing before
pub root_grown : (z0 zm g i : ℕ) → 0 < g → g ≤ i → z0 + (zm - z0) ≡ root_depth z0 zm g i
root_grown z0 zm g i h p =
    let m : min i g ≡ g = omega arith in
    rw m (ap (λ (n : ℕ). z0 + n) (sym (mul-div_cancel (zm - z0) h)))

pub root_growing : (z0 zm g i : ℕ) → i < g → z0 + (zm - z0) * i / g ≡ root_depth z0 zm g i
root_growing z0 zm g i p =
    let m : min i g ≡ i = omega arith in
    rw m
