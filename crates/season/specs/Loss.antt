-- Request T-03, source document 002, Equation 27: 1 − Ya/Ym = Ky × (1 − ETc adj / ETc). Ky is the yield response factor in hundredths, F the sum
-- of the need C, which is ETc, and U the sum of the use, which is ETc adj.
use Rattle.std.specs.Prelude.{Bool, cond, ◌||◌, ℕ, ◌-◌, ◌*◌, ◌/◌, min, eqb, ltb}

-- Refusal 17: Ky outside 1 to 200.
abbrev pub ky_outside : ℕ → Bool
ky_outside ky = ltb ky 1 || ltb 200 ky

-- The loss in ten-thousandths: floor(100 × Ky × (F − U) / F), at most 10,000, and 0 when F is 0.
unfoldable pub loss_of : ℕ → ℕ → ℕ → ℕ
loss_of ky f u = cond (eqb f 0) 0 (min (100 * ky * (f - u) / f) 10000)
