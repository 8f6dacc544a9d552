-- The proofs of `specs/Claims.antt`, in its order.
use mathlib.Core.List.{List, ◌∷◌}
use Prim.Native.Nat.{ℕ, ◌+◌, ◌-◌, ◌*◌, ◌≤◌, ◌<◌}
use native.Mathlib.Nat.{div-mul-le_self, lt-mul-div-succ, mul_comm, mul-le-mul_left}
use native.Mathlib.Omega.{arith}
use lib.ListN.{get_or, replicate}
use Rattle.season.specs.declared.Season.{Season}
use Rattle.season.specs.declared.Net.{Net}
use Rattle.season.specs.Calendar.{month_days}
use Rattle.season.specs.Sheet.{Within, Valid}
use Rattle.season.specs.Rules.{nearest}
use Rattle.season.specs.Day.{total_on, ready_on}
use Rattle.season.specs.Depths.{gross_of}
use Rattle.season.specs.SmallSheet.{block_with, small, leap}
use Rattle.season.specs.Claims.{Claims}
use Rattle.season.proofs.Each.{all_le}
use Rattle.season.proofs.Laws.{quotient_up}
use Rattle.season.proofs.Ramp.{ramp_pos}
use Rattle.season.proofs.Calendar.{february_days, other_months}
use Rattle.season.proofs.Bounds.{need_le, rain_le, total_le}
use Rattle.season.proofs.Closing.{balance, stays_within, total_up, ready_below, use_le}
use Rattle.season.proofs.Losing.{loss_at_most, loss_floor, loss_full, loss_none, half_met}

rounded : (top bottom : ℕ) → 0 < bottom
    → (2 * bottom * nearest top bottom ≤ 2 * top + bottom) × (2 * top < 2 * bottom * nearest top bottom + bottom)
rounded top bottom h =
    let q = nearest top bottom in
    let ratio : 2 * top + bottom < 2 * bottom * (q + 1) = lt-mul-div-succ (2 * top + bottom) {b = 2 * bottom} (omega arith) in
    omega (arith, div-mul-le_self (2 * top + bottom) (2 * bottom), mul_comm q (2 * bottom), ratio)

ready_up : (s : Season) (i : ℕ) → Valid s → ready_on s i ≤ ready_on s (i + 1)
ready_up s i v =
    quotient_up (s.fraction * total_on s i) (s.fraction * total_on s (i + 1)) 100 (omega arith) (mul-le-mul_left s.fraction (total_up s i v))

ceiling : (e : ℕ) (net : Net) → 1 ≤ e → (net.0 * 100 ≤ (gross_of e net).0 * e) × ((gross_of e net).0 * e < net.0 * 100 + e)
ceiling e net h =
    let n = net.0 * 100 + (e - 1) in
    omega (arith, div-mul-le_self n e, lt-mul-div-succ n {b = e} h)

-- Four days on the soil of both sheets.
block_valid : (month first : ℕ) (eto rain : List ℕ) (turns february : ℕ) → Within 1 12 month → Within 1 (month_days february month) first
    → ((m : ℕ) → get_or eto m 0 ≤ 1500) → ((m : ℕ) → get_or rain m 0 ≤ 60000) → turns ≤ 127 → Within 28 29 february
    → Valid (block_with month first 1 eto rain 0 turns february)
block_valid month first eto rain turns february m d e r t w = record {
  ranges = record {
    month = m;
    first = d;
    initial = omega arith;
    development = omega arith;
    middle = omega arith;
    late = omega arith;
    kcini = omega arith;
    kcmid = omega arith;
    kcend = omega arith;
    eto = e;
    rain = r;
    water = omega arith;
    sowing = omega arith;
    full = omega arith;
    fraction = omega arith;
    efficiency = omega arith;
    opening = omega arith;
    turns = t;
    february = w;
  };
  year = omega arith;
  roots = omega arith;
}

small_valid : (turns : ℕ) → turns ≤ 127 → Valid (small turns)
unfolding small
small_valid turns h =
    block_valid 1 9 _ _ turns 28 (omega arith) (omega arith) (all_le 1500 (500 ∷ replicate 11 0) tt) (all_le 60000 (replicate 12 0) tt) h (omega arith)

leap_valid : (february : ℕ) → Within 28 29 february → Valid (leap february)
unfolding leap
leap_valid february w =
    block_valid 2 27 _ _ 127 february (omega arith) (record { low≤ = omega arith; ≤high = omega (arith, w.low≤) })
    (all_le 1500 (0 ∷ 500 ∷ 1000 ∷ replicate 9 0) tt) (all_le 60000 (0 ∷ 10000 ∷ 10000 ∷ replicate 9 0) tt) (omega arith) w

pub claims : Claims
claims = record {
  february_days = february_days;
  other_months = other_months;
  kc_never_negative = ramp_pos;
  rounded_nearest = rounded;
  need_at_most = need_le;
  rain_at_most = rain_le;
  total_at_most = λ s i v. total_le s i v.ranges;
  ready_below_total = ready_below;
  total_never_falls = total_up;
  ready_never_falls = ready_up;
  water_equation = balance;
  depletion_at_most_total = stays_within;
  use_at_most_need = use_le;
  loss_at_most = loss_at_most;
  loss_floor = loss_floor;
  loss_full = loss_full;
  loss_none = loss_none;
  half_met = half_met;
  gross_is_ceiling = ceiling;
  small_valid = small_valid;
  leap_valid = leap_valid;
}
