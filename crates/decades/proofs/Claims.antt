-- The proofs of `specs/Claims.antt`, in its order.
use mathlib.Core.Path.{◌≡◌, refl, sym, ap}
use mathlib.Core.List.{List, [], ◌∷◌, map}
use Prim.Native.Nat.{ℕ}
use native.Mathlib.Omega.{arith}
use lib.ListN.{replicate}
use Rattle.season.specs.Sheet.{Within, Valid}
use Rattle.season.specs.Calendar.{next_day, days_on}
use Rattle.season.specs.Rules.{ramp, ramp_z}
use Rattle.season.specs.Day.{date_of, kc_of, crop_need, rain_on}
use Rattle.season.specs.Carried.{day_of}
use Rattle.season.specs.SmallSheet.{small}
use Rattle.season.proofs.Each.{all_le}
use Rattle.decades.specs.Table.{day_row, with_day, rows_to, row_count, six, flat, tabled}
use Rattle.decades.specs.Cases.{onion, buffers, edges}
use Rattle.decades.specs.Claims.{Claims}
use Rattle.decades.proofs.Count.{rows_at_most, count_within}
use Rattle.decades.proofs.Answers.{refused_unaltered, numbers_one_to_one}

onion_valid : (february : ℕ) → Within 28 29 february → Valid (onion february)
unfolding onion
onion_valid february w = record {
  ranges = record {
    month = omega arith;
    first = record { low≤ = omega arith; ≤high = omega (arith, w.low≤) };
    initial = omega arith;
    development = omega arith;
    middle = omega arith;
    late = omega arith;
    kcini = omega arith;
    kcmid = omega arith;
    kcend = omega arith;
    eto = all_le 1500 (500 ∷ replicate 11 0) tt;
    rain = all_le 60000 (replicate 12 0) tt;
    water = omega arith;
    sowing = omega arith;
    full = omega arith;
    fraction = omega arith;
    efficiency = omega arith;
    opening = omega arith;
    turns = omega arith;
    february = w;
  };
  year = omega arith;
  roots = omega arith;
}

-- Its rows, by the dates of its first and last day.
onion_rows : row_count (onion 28) ≡ 29
unfolding onion day_of date_of days_on next_day
onion_rows = sym (count_within (onion 28) (onion_valid 28 (omega arith)) (day_of (onion 28) 275) refl (omega arith))

onion_leap : row_count (onion 29) ≡ 28
unfolding onion day_of date_of days_on next_day
onion_leap = sym (count_within (onion 29) (onion_valid 29 (omega arith)) (day_of (onion 29) 275) refl (omega arith))

abbrev lefts : List (List ℕ × List ℕ) → List (List ℕ)
lefts = map (λ (c : List ℕ × List ℕ). c.0)

abbrev rights : List (List ℕ × List ℕ) → List (List ℕ)
rights = map (λ (c : List ℕ × List ℕ). c.1)

buffers_hold : lefts buffers ≡ rights buffers
unfolding buffers small tabled rows_to with_day day_row six flat date_of kc_of crop_need rain_on next_day days_on ramp ramp_z
buffers_hold = refl

edges_hold : lefts edges ≡ rights edges
unfolding edges
edges_hold = rw (onion_rows, onion_leap) (ap (λ (rest : List (List ℕ)). (29 ∷ 28 ∷ []) ∷ rest) buffers_hold)

pub claims : Claims
claims = record {
  rows_at_most = rows_at_most;
  onion_valid = onion_valid;
  refused_unaltered = refused_unaltered;
  numbers_one_to_one = numbers_one_to_one;
  edges_hold = edges_hold;
}
