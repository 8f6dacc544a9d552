-- `probes::measured_depletion` meets its contract: the product is at most 6,000 × 300.
use mathlib.Core.Path.{ap, ◌∙◌}
use Prim.Native.Nat.{ℕ, ◌*◌, ◌/◌, ◌≤◌, min}
use native.Mathlib.Nat.{mul-le-mul}
use native.Mathlib.Omega.{arith}
use Rattle.probes.specs.Depletion.{measured}
use Rattle.probes.proofs.measured_depletion.Goals as goal

pub overflow_mul-saturating_sub : goal.overflow_mul-saturating_sub
overflow_mul-saturating_sub c = let d : c.saturating_sub.result ≤ 6000 = omega (arith, c.saturating_sub.ensures, c.requires.0) in
    omega (arith, mul-le-mul d c.requires.1)

pub returns : goal.returns
unfolding measured
returns c = let a = c.args in
    c.min.ensures ∙ ap (λ (d : ℕ). min (d * a.root / 10) a.total) c.saturating_sub.ensures
