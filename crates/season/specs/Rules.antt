-- Document 01, 'A day's numbers': the rules that speak of numbers alone. Depths are points, hundredths of a millimetre; a difference of
-- natural numbers stops at 0.
use Rattle.std.specs.Prelude.{cond, ℕ, ◌+◌, ◌-◌, ◌*◌, ◌/◌, min, leb, ℤ, pos, nat_abs, ◌+ℤ◌, ◌-ℤ◌, ◌*ℤ◌}

-- Kc on day k of a stage of L days, times L: Kp × L + k × (Kn − Kp), where the difference may be negative.
unfoldable pub ramp_z : ℕ → ℕ → ℕ → ℕ → ℤ
ramp_z kp kn l k = pos (kp * l) +ℤ pos k *ℤ (pos kn -ℤ pos kp)

-- The same as a natural number: it is that very number, never negative (the claim `kc_never_negative`).
unfoldable pub ramp : ℕ → ℕ → ℕ → ℕ → ℕ
ramp kp kn l k = nat_abs (ramp_z kp kn l k)

-- top / bottom rounded to the nearest whole number, a half going up: the floor of top / bottom + 1 / 2.
abbrev pub nearest : ℕ → ℕ → ℕ
nearest top bottom = (2 * top + bottom) / (2 * bottom)

-- Z(i) = Z0 + floor((Zm − Z0) × min(i, G) / G).
abbrev pub root_depth : ℕ → ℕ → ℕ → ℕ → ℕ
root_depth z0 zm g i = z0 + (zm - z0) * min i g / g

-- R = floor(p × T / 100).
abbrev pub ready_part : ℕ → ℕ → ℕ
ready_part p t = p * t / 100

-- Effective rain of a month with rain q.
abbrev pub effective_rain : ℕ → ℕ
effective_rain q = cond (leb q 25000) (q * (62500 - q) / 62500) (12500 + q / 10)

-- Of the effective rain e of a month of m days, what is planned on its first d days; and planned rain on day d.
abbrev pub rain_to : ℕ → ℕ → ℕ → ℕ
rain_to e d m = e * d / m

abbrev pub planned_rain : ℕ → ℕ → ℕ → ℕ
planned_rain e d m = rain_to e d m - rain_to e (d - 1) m
