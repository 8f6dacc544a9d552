-- What the controller answers is written, beside both lent buffers.
use Prim.Native.Nat.{ℕ}
use mathlib.Core.Path.{ap}
use mathlib.Core.List.{List}
use Rattle.verdict.specs.Refusals.{Verdict, numbers_of}
use Rattle.exports.proofs.Over.{three_by}
use Rattle.exports.proofs.Bounds.{banked_small}
use Rattle.exports.proofs.balladsky_bank.Goals as goal

pub put_verdict-requires : goal.put_verdict-requires
put_verdict-requires c = rw (ap (λ (a : Verdict × List ℕ × List ℕ). a.0) c.bank.ensures) (banked_small _ _ _ _ _ _ _ _ _)

pub returns : goal.returns
returns c = three_by numbers_of _ c.bank.ensures c.put_verdict.ensures
