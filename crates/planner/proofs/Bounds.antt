-- The plan's numbers are small: a depletion within a season's ready water, and a net total of at most the first depletion and all needs.
use mathlib.Core.Path.{◌≡◌}
use mathlib.Core.List.{List, [], ◌∷◌}
use Prim.Native.Nat.{ℕ, zero, suc, ◌+◌, ◌*◌, ◌≤◌, ◌<◌}
use native.Mathlib.Nat.{mul_comm}
use native.Mathlib.Omega.{arith}
use lib.ListN.{length}
use Rattle.season.specs.declared.Season.{Season}
use Rattle.season.specs.Sheet.{Valid, longest_season}
use Rattle.season.specs.Day.{crop_need, total_on, ready_on}
use Rattle.season.proofs.Laws.{part_le}
use Rattle.season.proofs.Bounds.{total_le, need_le}
use Rattle.planner.specs.Choices.{Outlook, planned_day, Fills, Best}
use Rattle.planner.specs.Plan.{depths, plan}
use Rattle.planner.specs.Outlook.{days_left}
use Rattle.planner.specs.Answer.{sum}
use Rattle.planner.proofs.Walks.{walks_right}

pub ready_at_most : (s : Season) (i : ℕ) → Valid s → ready_on s i ≤ 120000
ready_at_most s i v =
    omega (arith, mul_comm s.fraction (total_on s i), part_le (total_on s i) s.fraction 100 (omega arith) (omega arith), total_le s i v.ranges)

-- what is let in is at most the depletion at first and the needs, c a day
sum_filled : (o : Outlook) (c d D : ℕ) (xs : List ℕ) → ((i : ℕ) → d ≤ i → i < length xs + d → o.need i ≤ c) → Fills o d D xs → sum xs ≤ D + length xs * c
unfolding Fills sum
sum_filled o c d D [] n f = omega arith
sum_filled o c d D (zero ∷ xs) n f =
    omega (arith, n d (omega arith) (omega arith), sum_filled o c (suc d) (planned_day o d D 0) xs (λ i a b. n i (omega arith) (omega arith)) f.1)
sum_filled o c d D (suc x ∷ xs) n f =
    omega (
      arith,
      f.0 (omega arith),
      n d (omega arith) (omega arith),
      sum_filled o c (suc d) (planned_day o d D (suc x)) xs (λ i a b. n i (omega arith) (omega arith)) f.1,
    )

pub plan_made : (o : Outlook) (k d D : ℕ) (xs : List ℕ) → plan o k d D ≡ depths xs → Best o k d D xs
plan_made o k d D xs e = rw e at (walks_right o k d D)

-- the net total of a season's plan, on whichever of its turn days
pub net_at_most : (s : Season) (o : Outlook) (today D : ℕ) (xs : List ℕ) → Valid s → 1 ≤ today → o.need ≡ crop_need s → Best o (days_left s today) today D xs
    → sum xs ≤ D + 3000 * longest_season
net_at_most s o today D xs v l e b =
    let n = b.size in
    omega (
      arith,
      v.year,
      sum_filled o 3000 today D xs (λ i p q. rw e (need_le s i v (record { from = omega arith; to = omega (arith, n) }))) b.fills,
    )
