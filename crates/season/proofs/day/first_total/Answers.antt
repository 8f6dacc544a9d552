-- The roots on day 1, times the available water.
use Prim.Native.Nat.{◌+◌, ◌/◌}
use native.Mathlib.Nat.{div-le_self}
use native.Mathlib.Omega.{arith}
use Rattle.season.proofs.Laws.{product}
use Rattle.season.proofs.Bounds.{first_root}
use Rattle.season.proofs.day.first_total.Goals as goal

pub overflow_add-result-2 : goal.overflow_add-result-2
overflow_add-result-2 c = record { fits = omega (arith, c.saturating_sub.ensures, div-le_self c.saturating_sub.result (c.args.s.initial + c.args.s.development), c.requires.sowing.≤high, c.requires.full.≤high) }

pub overflow_mul-result : goal.overflow_mul-result
overflow_mul-result c = record { fits = omega (arith, product c.args.s.water (c.args.s.sowing + c.saturating_sub.result / (c.args.s.initial + c.args.s.development)) 400 600 c.requires.water.≤high (omega (arith, c.saturating_sub.ensures, div-le_self c.saturating_sub.result (c.args.s.initial + c.args.s.development), c.requires.sowing.≤high, c.requires.full.≤high))) }

pub returns : goal.returns
returns c = rw (c.saturating_sub.ensures, first_root c.args.s c.requires)
