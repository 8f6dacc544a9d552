-- Lists of depths: how many are above 0, their sum, and runs of zeros.
use mathlib.Core.Path.{◌≡◌, refl, ap}
use mathlib.Core.List.{List, [], ◌∷◌, ◌++◌}
use Prim.Native.Nat.{ℕ, zero, suc, ◌+◌, ◌≤◌, ◌<◌}
use native.Mathlib.Numerals.{add-one}
use native.Mathlib.Omega.{arith}
use lib.ListN.{length, get_or, take, drop, replicate, take-append-drop}
use lib.Seq.{take-suc}
use Rattle.planner.specs.Choices.{irrigated}
use Rattle.std.specs.List.{fold, sum as total}
use Rattle.planner.specs.Answer.{sum}

irrigated_append : (xs ys : List ℕ) → irrigated (xs ++ ys) ≡ irrigated xs + irrigated ys
unfolding irrigated
irrigated_append [] ys = omega arith
irrigated_append (zero ∷ xs) ys = omega (arith, irrigated_append xs ys)
irrigated_append (suc x ∷ xs) ys = omega (arith, irrigated_append xs ys)

sum-append : (xs ys : List ℕ) → sum (xs ++ ys) ≡ sum xs + sum ys
unfolding sum
sum-append [] ys = omega arith
sum-append (x ∷ xs) ys = omega (arith, sum-append xs ys)

-- what std's `sum` adds up, from any number on
sum_from : (n : ℕ) (xs : List ℕ) → fold ◌+◌ n xs ≡ n + sum xs
unfolding sum
sum_from n [] = omega arith
sum_from n (x ∷ xs) = omega (arith, sum_from (n + x) xs)

pub sum_is : (xs : List ℕ) → total xs ≡ sum xs
sum_is xs = omega (arith, sum_from 0 xs)

-- one day more, irrigated or not
pub irrigated_watered : (xs : List ℕ) (i : ℕ) → i < length xs → 0 < get_or xs i 0 → irrigated (take (i + 1) xs) ≡ irrigated (take i xs) + 1
unfolding irrigated
irrigated_watered xs i h p = rw (add-one i, take-suc xs i 0, irrigated_append) (go (get_or xs i 0) p)
  where
    go : (x : ℕ) → 0 < x → irrigated (take i xs) + irrigated (x ∷ []) ≡ irrigated (take i xs) + 1
    go zero q = absurd (omega arith)
    go (suc x) q = refl

pub irrigated_unwatered : (xs : List ℕ) (i : ℕ) → i < length xs → get_or xs i 0 ≤ 0 → irrigated (take (i + 1) xs) ≡ irrigated (take i xs)
unfolding irrigated
irrigated_unwatered xs i h p =
    let none : get_or xs i 0 ≡ 0 = omega arith in
    rw (add-one, take-suc xs i 0, irrigated_append, none) (omega arith)

pub sum_more : (xs : List ℕ) (i : ℕ) → i < length xs → sum (take (i + 1) xs) ≡ sum (take i xs) + get_or xs i 0
unfolding sum
sum_more xs i h = rw (add-one, take-suc xs i 0, sum-append) (omega arith)

pub sum_part : (xs : List ℕ) (i : ℕ) → sum (take i xs) ≤ sum xs
sum_part xs i = omega (arith, sum-append (take i xs) (drop i xs), ap sum (take-append-drop i xs))

pub take_zeros : (m n : ℕ) → m ≤ n → take m (replicate {A = ℕ} n 0) ≡ replicate m 0
take_zeros zero n h = refl
take_zeros (suc m) zero h = absurd (omega arith)
take_zeros (suc m) (suc n) h = ap (λ xs. 0 ∷ xs) (take_zeros m n (omega arith))
