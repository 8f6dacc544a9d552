-- The loop is `Searched` of proofs/Lowest.antt over a block's places, whose fields are `found_at` of proofs/Merged.antt.
use Prim.Native.Nat.{◌≤◌}
use lib.ListN.{get_or}
use Rattle.fields.specs.Fields.{february_of, block_fields}
use Rattle.fields.proofs.Lowest.{Searched}
use Rattle.fields.proofs.Merged.{places}
use Rattle.fields.proofs.block_fault.Given as goal

abbrev pub invariant-loop-place : goal.invariant-loop-place
invariant-loop-place l = Searched 1 (places (february_of (block_fields l.block)) (get_or l.block 0 0)) l.block l.place × (l.place ≤ 16)
