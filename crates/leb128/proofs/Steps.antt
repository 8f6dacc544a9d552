-- The recursion over digits, a step at a time, in every base; and induction over groups. Every law of groups goes by these, so none has a
-- case for each width.
use Prim.Native.Nat.{ℕ, zero, suc, ◌+◌, ◌/◌, ◌%◌, ◌≤◌, ◌<◌}
use mathlib.Core.Path.{◌≡◌, refl, sym, ap, ◌∙◌}
use mathlib.Core.Bool.{Bool, true, false}
use mathlib.Core.List.{[], ◌∷◌}
use mathlib.Core.Logic.{◌⊎◌, inl, inr}
use native.Mathlib.Nat.{le_refl, div-lt_self}
use native.Mathlib.Omega.{arith}
use borrow.Author.Tests.{lt-ltb, le-ltb, ltb-true, ltb-false}
use lib.Dec.{ltb}
use Rattle.leb128.specs.Groups.{over_in, over_digits, over_groups, group_count, encode}

pub lt_or_le : (a b : ℕ) → (a < b) ⊎ (b ≤ a)
lt_or_le a b = go (ltb a b) refl
  where
    go : (t : Bool) → ltb a b ≡ t → (a < b) ⊎ (b ≤ a)
    go true e = inl (ltb-true a b e)
    go false e = inr (ltb-false a b e)

-- what holds of every last group, and of a number wherever it holds without its lowest group, holds of every number
pub group_ind : (P : ℕ → Type 0) → ((n : ℕ) → n < 128 → P n) → ((n : ℕ) → 128 ≤ n → P (n / 128) → P n) → (n : ℕ) → P n
group_ind P last more n = go n n (le_refl n)
  where
    go : (fuel n : ℕ) → n ≤ fuel → P n
    go zero n h = last n (omega arith)
    go (suc fuel) n h =
        elim (lt_or_le n 128) [ inl l ↦ last n l | inr m ↦ more n m (go fuel (n / 128) (omega arith)) ]

module _ {A : Type 0} (base : ℕ) (two : 2 ≤ base) (last : ℕ → A) (more : ℕ → A → A) where
  in_last : (fuel n : ℕ) → n < base → over_in base last more fuel n ≡ last n
  unfolding over_in
  in_last zero n h = refl
  in_last (suc fuel) n h = rw (lt-ltb n base h, over_in)

  in_more : (fuel n : ℕ) → base ≤ n → over_in base last more (suc fuel) n ≡ more n (over_in base last more fuel (n / base))
  unfolding over_in
  in_more fuel n h = rw (le-ltb n base h, over_in)

  smaller : (n : ℕ) → base ≤ n → n / base < n
  smaller n h = div-lt_self (omega arith) (omega arith)

  -- any fuel that is enough gives the same
  same : (f g n : ℕ) → n ≤ f → n ≤ g → over_in base last more f n ≡ over_in base last more g n
  same zero g n p q = in_last zero n (omega arith) ∙ sym (in_last g n (omega arith))
  same (suc f) zero n p q = in_last (suc f) n (omega arith) ∙ sym (in_last zero n (omega arith))
  same (suc f) (suc g) n p q =
      elim (lt_or_le n base) [
        | inl l ↦ in_last (suc f) n l ∙ sym (in_last (suc g) n l)
        | inr m ↦
            let s = smaller n m in
            in_more f n m ∙ ap (more n) (same f g (n / base) (omega arith) (omega arith)) ∙ sym (in_more g n m)
      ]

  pub digits_last : (n : ℕ) → n < base → over_digits base last more n ≡ last n
  digits_last n h = in_last n n h

  pub digits_more : (n : ℕ) → base ≤ n → over_digits base last more n ≡ more n (over_digits base last more (n / base))
  digits_more n h =
      let s = smaller n h in
      same n (suc n) n (le_refl n) (omega arith) ∙ in_more n n h ∙ ap (more n) (same n (n / base) (n / base) (omega arith) (le_refl _))

pub count_last : (n : ℕ) → n < 128 → group_count n ≡ 1
unfolding group_count over_groups
count_last n h = digits_last 128 (omega arith) _ _ n h

pub count_more : (n : ℕ) → 128 ≤ n → group_count n ≡ group_count (n / 128) + 1
unfolding group_count over_groups
count_more n h = digits_more 128 (omega arith) _ _ n h

pub encode_last : (n : ℕ) → n < 128 → encode n ≡ n ∷ []
unfolding encode over_groups
encode_last n h = digits_last 128 (omega arith) _ _ n h

pub encode_more : (n : ℕ) → 128 ≤ n → encode n ≡ (128 + n % 128) ∷ encode (n / 128)
unfolding encode over_groups
encode_more n h = digits_more 128 (omega arith) _ _ n h
