-- No shower changes how many calls there are.
use mathlib.Core.Path.{◌≡◌}
use lib.ListN.{length}
use Rattle.power_cuts.proofs.histories.long_history.Given as goal

abbrev pub invariant-loop-i : goal.invariant-loop-i
invariant-loop-i l = 136 ≡ length l.calls
