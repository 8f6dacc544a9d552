-- Each round of the loop passes a day; the depths before it stand, but for the latest turn day's (proofs/Loops.antt).
use Prim.Native.Nat.{◌+◌, ◌-◌}
use Rattle.planner.proofs.Loops.{Drawing}
use Rattle.planner.proofs.draw_depths.Given as goal

abbrev pub invariant-loop-track : goal.invariant-loop-track
invariant-loop-track l = Drawing l.s l.from.today l.from.waiting l.from.used.now l.from.limit l.start l.last l.t l.before l.week l.t.number l.track l.depths

abbrev pub decreases-loop-track : goal.decreases-loop-track
decreases-loop-track l = l.last + 1 - l.t.number
