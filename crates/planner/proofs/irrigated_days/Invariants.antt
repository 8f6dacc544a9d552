-- After so many turns the first depths are counted.
use mathlib.Core.Path.{◌≡◌}
use Prim.Native.Nat.{◌≤◌}
use lib.ListN.{take}
use Rattle.planner.specs.Choices.{irrigated}
use Rattle.planner.proofs.irrigated_days.Given as goal

abbrev pub invariant-loop-depth : goal.invariant-loop-depth
invariant-loop-depth l = (l.days ≡ irrigated (take l.depth-index l.depths)) × (l.days ≤ l.depth-index)
