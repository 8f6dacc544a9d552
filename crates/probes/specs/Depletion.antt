-- Document 02, T-07: measured depletion. A difference of natural numbers stops at 0.
use Rattle.std.specs.Prelude.{ℕ, ◌-◌, ◌*◌, ◌/◌, min}

-- floor(max(0, f − v) × Z / 10) points, at most T.
unfoldable pub measured : ℕ → ℕ → ℕ → ℕ → ℕ
measured f v z t = min ((f - v) * z / 10) t
