-- Document 01, 'The season sheet': a number is written in groups of seven bits, lowest group first, 80 added to each byte but the last.
use Rattle.std.specs.Prelude.{ℕ, zero, suc, ◌+◌, ◌/◌, ◌%◌, List, [], ◌∷◌, true, false, ltb}

-- Recursion over the digits of n in a base: `last n` where n is below the base, so that it is its own last digit, and else `more n` of what
-- the number without its lowest digit gives. The number before n bounds how many digits there can be.
unfoldable pub over_in : {A : Type 0} → ℕ → (ℕ → A) → (ℕ → A → A) → ℕ → ℕ → A
over_in base last more zero n = last n
over_in base last more (suc fuel) n = elim (ltb n base) [ true ↦ last n | false ↦ more n (over_in base last more fuel (n / base)) ]

-- A number n has no more than n digits, or one.
abbrev pub over_digits : {A : Type 0} → ℕ → (ℕ → A) → (ℕ → A → A) → ℕ → A
over_digits base last more n = over_in base last more n n

-- A group is a digit in base 128.
unfoldable pub over_groups : {A : Type 0} → (ℕ → A) → (ℕ → A → A) → ℕ → A
over_groups = over_digits 128

-- The bytes of n: each group with 128 added, but the last as it is.
unfoldable pub encode : ℕ → List ℕ
unfolding over_groups
encode = over_groups (λ n. n ∷ []) (λ n bytes. (128 + n % 128) ∷ bytes)

-- How many groups n takes; 0 takes one.
unfoldable pub group_count : ℕ → ℕ
unfolding over_groups
group_count = over_groups (λ n. 1) (λ n k. k + 1)
