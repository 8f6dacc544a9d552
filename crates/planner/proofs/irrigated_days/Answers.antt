-- A depth above 0 is one more.
use native.Mathlib.Omega.{arith}
use mathlib.Core.Path.{refl}
use Rattle.planner.specs.Choices.{irrigated}
use Rattle.planner.proofs.Lists.{irrigated_watered, irrigated_unwatered}
use Rattle.planner.proofs.irrigated_days.Goals as goal
use Rattle.planner.proofs.irrigated_days.Goals.{then-depth-gt0, else-depth-gt0}

pub loop-depth-init : goal.loop-depth-init
unfolding irrigated
loop-depth-init c = (refl, omega arith)

pub loop-depth-preserved : goal.loop-depth-preserved
loop-depth-preserved c = let xs = c.args.depths.now in
    elim c.if-depth-gt0.branch [
      | then-depth-gt0 w ↦ (omega (arith, irrigated_watered xs c.loop-depth.depth-index (omega arith) w.if-depth-gt0.true), omega arith)
      | else-depth-gt0 w ↦ (omega (arith, irrigated_unwatered xs c.loop-depth.depth-index (omega arith) w.if-depth-gt0.false), omega arith)
    ]
