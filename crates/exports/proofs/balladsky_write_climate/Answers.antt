-- What the controller answers is written, beside the lent buffer.
use Prim.Native.Nat.{ℕ}
use mathlib.Core.Path.{refl, ap}
use mathlib.Core.List.{List}
use Rattle.sheet.specs.Writing.{Written, numbers_of}
use Rattle.exports.proofs.Over.{both_by}
use Rattle.exports.proofs.Bounds.{climate_small}
use borrow.Author.Rules.{rules}
use Rattle.exports.proofs.balladsky_write_climate.Goals as goal

pub put_written-requires : goal.put_written-requires
put_written-requires c = rw (ap (λ (a : Written × List ℕ). a.0) c.write_climate.ensures) (climate_small c.args.role c.args.fields.now c.args.climate.now (search rules))

pub returns : goal.returns
returns c = both_by numbers_of _ refl c.write_climate.ensures c.put_written.ensures
