-- The loop is the walk over the days of proofs/Rows.antt, with the buffer, a stretch of days at a turn.
use Prim.Native.Nat.{◌-◌}
use Rattle.decades.proofs.Rows.{Filling}
use Rattle.decades.proofs.fill_rows.Given as goal

abbrev pub invariant-loop-out : goal.invariant-loop-out
invariant-loop-out l = Filling l.s l.n l.t l.at l.need l.before l.initial.out l.out

abbrev pub decreases-loop-out : goal.decreases-loop-out
decreases-loop-out l = l.n - l.t.number
