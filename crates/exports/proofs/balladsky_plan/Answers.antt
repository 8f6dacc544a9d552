-- What the controller answers is written, beside the lent buffer.
use Prim.Native.Nat.{ℕ}
use mathlib.Core.Path.{refl, ap}
use mathlib.Core.List.{List}
use Rattle.planner.specs.Answer.{Planned, numbers_of}
use Rattle.exports.proofs.Over.{both_by}
use Rattle.exports.proofs.Bounds.{planned_small}
use Rattle.exports.proofs.balladsky_plan.Goals as goal

pub put_planned-requires : goal.put_planned-requires
put_planned-requires c = rw (ap (λ (a : Planned × List ℕ). a.0) c.plan.ensures) (planned_small _ _ _ _ _)

pub returns : goal.returns
returns c = both_by numbers_of _ refl c.plan.ensures c.put_planned.ensures
