-- Document 01, 'Closing a day'. D is the depletion, W the water entered, C the crop need, T and R the total and the ready water.
use Rattle.std.specs.Prelude.{cond, ℕ, ◌+◌, ◌-◌, ◌*◌, ◌/◌, ◌≤◌, ◌<◌, min, leb}
use Rattle.season.specs.declared.DayClose.{DayClose}

-- C if D1 ≤ R, else floor(C × (T − D1) / (T − R)).
abbrev pub wanted : ℕ → ℕ → ℕ → ℕ → ℕ
wanted d1 c t r = cond (leb d1 r) c (c * (t - d1) / (t - r))

-- Crop use U: in both cases no more than T − D1.
abbrev pub crop_use : ℕ → ℕ → ℕ → ℕ → ℕ
crop_use d1 c t r = min (wanted d1 c t r) (t - d1)

-- Percolation is max(0, W − D), D1 = max(0, D − W), and the new depletion is D1 + U. The need C is answered beside the use (request T-03).
unfoldable pub close_day : ℕ → ℕ → ℕ → ℕ → ℕ → DayClose
close_day d w c t r =
    record { need = c; used = crop_use (d - w) c t r; percolated = w - d; depletion = (d - w) + crop_use (d - w) c t r }

-- What a caller has of the five numbers on a day of an accepted season (`closable`, proofs/Closing.antt).
pub record Closable (d w c t r : ℕ) : Type 0 where
  pub within : d ≤ t
  pub ready : r < t
  pub total : t ≤ 120000
  pub water : w ≤ 240000
  pub need : c ≤ 3000
