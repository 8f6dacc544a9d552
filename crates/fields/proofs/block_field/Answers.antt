-- `fields::block_field` meets its contract.
use mathlib.Core.Path.{refl}
use borrow.Author.Tests.{lt-ltb, le-ltb}
use Rattle.fields.proofs.block_field.Goals as goal

pub returns-then-place-lt9 : goal.returns-then-place-lt9
returns-then-place-lt9 c = rw (lt-ltb _ _ c.if-place-lt9.true) refl

pub returns-else-place-lt9 : goal.returns-else-place-lt9
returns-else-place-lt9 c = rw (le-ltb _ _ c.if-place-lt9.false) refl
