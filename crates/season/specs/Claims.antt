-- What is proved of this crate's definitions. `claims`, in proofs/Claims.antt, has a proof of each field.
use Rattle.std.specs.Prelude.{◌≡◌, ℕ, ◌+◌, ◌-◌, ◌*◌, ◌≤◌, ◌<◌, pos}
use Rattle.season.specs.declared.Season.{Season}
use Rattle.season.specs.declared.Net.{Net}
use Rattle.season.specs.Calendar.{month_days}
use Rattle.season.specs.Sheet.{Within, Valid, DayOf}
use Rattle.season.specs.Rules.{ramp_z, ramp, nearest}
use Rattle.season.specs.Day.{crop_need, rain_on, total_on, ready_on}
use Rattle.season.specs.Closing.{close_day}
use Rattle.season.specs.Loss.{loss_of}
use Rattle.season.specs.Depths.{gross_of}
use Rattle.season.specs.SmallSheet.{small, leap}

pub record Claims : Type 0 where
  -- February has the days that are given, and no other month is changed by them.
  pub february_days : (f : ℕ) → month_days f 2 ≡ f
  pub other_months : (f g m : ℕ) → (m ≡ 2 → ⊥) → month_days f m ≡ month_days g m
  -- The difference of coefficients may be negative, Kp × L + k × (Kn − Kp) never is.
  pub kc_never_negative : (kp kn l k : ℕ) → k ≤ l → pos (ramp kp kn l k) ≡ ramp_z kp kn l k
  -- Rounding is to the nearest point, a half going up.
  pub rounded_nearest : (top bottom : ℕ) → 0 < bottom
      → (2 * bottom * nearest top bottom ≤ 2 * top + bottom) × (2 * top < 2 * bottom * nearest top bottom + bottom)
  -- Each quantity has its bound.
  pub need_at_most : (s : Season) (i : ℕ) → Valid s → DayOf s i → crop_need s i ≤ 3000
  pub rain_at_most : (s : Season) (i : ℕ) → Valid s → rain_on s i ≤ 25000
  pub total_at_most : (s : Season) (i : ℕ) → Valid s → total_on s i ≤ 120000
  pub ready_below_total : (s : Season) (i : ℕ) → Valid s → ready_on s i < total_on s i
  -- Total and ready water never fall.
  pub total_never_falls : (s : Season) (i : ℕ) → Valid s → total_on s i ≤ total_on s (i + 1)
  pub ready_never_falls : (s : Season) (i : ℕ) → Valid s → ready_on s i ≤ ready_on s (i + 1)
  -- Closing a day loses no water, and keeps the depletion at most T.
  pub water_equation : (d w c t r : ℕ) → d + (close_day d w c t r).used + (close_day d w c t r).percolated ≡ (close_day d w c t r).depletion + w
  pub depletion_at_most_total : (d w c t r : ℕ) → d ≤ t → (close_day d w c t r).depletion ≤ t
  -- A crop uses no more than it needs.
  pub use_at_most_need : (d w c t r : ℕ) → r < t → (close_day d w c t r).used ≤ c
  -- The loss is the floor of 100 × Ky × (F − U) / F up to 10,000, the whole yield, and no more. Of equal sums it is none; with Ky 100 and half the need
  -- met it is a half.
  pub loss_at_most : (ky f u : ℕ) → loss_of ky f u ≤ 10000
  pub loss_floor : (ky f u : ℕ) → 0 < f → loss_of ky f u < 10000
      → (loss_of ky f u * f ≤ 100 * ky * (f - u)) × (100 * ky * (f - u) < (loss_of ky f u + 1) * f)
  pub loss_full : (ky f u : ℕ) → 0 < f → 10000 * f ≤ 100 * ky * (f - u) → loss_of ky f u ≡ 10000
  pub loss_none : (ky f : ℕ) → loss_of ky f f ≡ 0
  pub half_met : (u : ℕ) → 0 < u → loss_of 100 (2 * u) u ≡ 5000
  -- The gross depth is the smallest that gives the net depth at the efficiency.
  pub gross_is_ceiling : (e : ℕ) (net : Net) → 1 ≤ e → (net.0 * 100 ≤ (gross_of e net).0 * e) × ((gross_of e net).0 * e < net.0 * 100 + e)
  -- The ranges are met: by the small sheet, whatever its turns,
  pub small_valid : (turns : ℕ) → turns ≤ 127 → Valid (small turns)
  -- and by the leap sheet, whether February has 28 days or 29.
  pub leap_valid : (february : ℕ) → Within 28 29 february → Valid (leap february)
