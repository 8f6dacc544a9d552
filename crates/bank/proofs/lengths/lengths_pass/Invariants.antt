-- What is left of the buffer and the parts before make up its size.
use mathlib.Core.Path.{◌≡◌}
use Prim.Native.Nat.{◌+◌, ◌≤◌}
use Rattle.bank.specs.Blocks.{start_of}
use Rattle.bank.proofs.lengths.lengths_pass.Given as goal

abbrev pub invariant-loop-k : goal.invariant-loop-k
invariant-loop-k l = (l.k ≤ l.blocks) × (l.left + start_of l.lengths l.column l.k ≡ l.size)
