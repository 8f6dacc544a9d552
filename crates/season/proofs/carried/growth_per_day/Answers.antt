-- The product is small.
use native.Mathlib.Omega.{arith}
use Rattle.season.proofs.Bounds.{growth_per_day_small}
use Rattle.season.proofs.carried.growth_per_day.Goals as goal

pub overflow_mul-result : goal.overflow_mul-result
overflow_mul-result c = record { fits = rw (c.saturating_sub.ensures, c.reciprocal_of.ensures) (omega (arith, growth_per_day_small c.args.s c.requires)) }

pub returns : goal.returns
returns c = rw (c.saturating_sub.ensures, c.reciprocal_of.ensures)
