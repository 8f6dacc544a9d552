-- By the answer's case: the rows' count, or the refusal; beside it the lent buffer.
use Prim.Native.Nat.{ℕ}
use mathlib.Core.Path.{ap}
use mathlib.Core.List.{List}
use Rattle.decades.specs.Table.{Tabled, numbers_of, tabled_in}
use Rattle.exports.specs.Small.{SmallTabled}
use Rattle.exports.proofs.Over.{holds_by, both_by}
use Rattle.exports.proofs.Bounds.{tabled_small}
use Rattle.exports.proofs.balladsky_table.Goals as goal

pub put_size-requires : goal.put_size-requires
put_size-requires c = holds_by (ap tabled_in c.in-Ok.is) (ap (λ (a : Tabled × List ℕ). a.0) c.table.ensures) SmallTabled (tabled_small _ _ _ _)

pub put_refused-requires : goal.put_refused-requires
put_refused-requires c = holds_by (ap tabled_in c.in-Err.is) (ap (λ (a : Tabled × List ℕ). a.0) c.table.ensures) SmallTabled (tabled_small _ _ _ _)

pub returns-in-Ok : goal.returns-in-Ok
returns-in-Ok c = both_by numbers_of _ (ap tabled_in c.in-Ok.is) c.table.ensures c.put_size.ensures

pub returns-in-Err : goal.returns-in-Err
returns-in-Err c = both_by numbers_of _ (ap tabled_in c.in-Err.is) c.table.ensures c.put_refused.ensures
