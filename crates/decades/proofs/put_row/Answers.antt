-- The six numbers are stored together.
use Prim.Native.Nat.{ℕ, ◌+◌, ◌-◌, ◌≤◌}
use mathlib.Core.Path.{◌≡◌, sym, ◌∙◌}
use mathlib.Core.List.{List, append_assoc}
use native.Mathlib.Omega.{arith}
use lib.ListN.{length, take, drop}
use borrow.Rule.Slice.PartMut.{put_mid}
use Rattle.std.proofs.lemmas.List.{drop-drop}
use Rattle.std.proofs.lemmas.List.Edits.{sets, sets-eq}
use Rattle.decades.specs.Table.{six}
use Rattle.decades.proofs.put_row.Goals as goal

stored : (vs ys out : List ℕ) (at : ℕ) → at + length vs ≤ length out → ys ≡ vs → put_mid at (at + length vs - at) out ys ≡ sets out at vs
stored vs ys out at h e = let k : at + length vs - at ≡ length vs = omega arith in
    rw (k, e, sets-eq vs out at h, drop-drop) (sym (append_assoc (take at out) vs (drop (at + length vs) out)))

pub returns : goal.returns
unfolding six
returns c =
    let a = c.args in
    stored (six a.efficiency a.row) _ a.out.now a.at c.requires.at_in_bounds
    (c.copy_from_slice.ensures.after ∙ rw (c.points-gross.ensures, c.gross_of.ensures, c.net_of-net.ensures))
