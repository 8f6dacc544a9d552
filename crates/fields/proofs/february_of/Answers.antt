-- Sixteen numbers have no seventeenth; else it decides.
use mathlib.Core.Path.{refl, sym, ◌∙◌}
use borrow.Author.Tests.{eq-eqb, ne_eqb}
use Rattle.fields.proofs.Merged.{february_short, february_long}
use Rattle.fields.proofs.february_of.Goals as goal

pub returns-then-block-le16 : goal.returns-then-block-le16
returns-then-block-le16 c = sym (february_short c.args.block.now c.if-block-le16.true)

pub returns-then-block-eq29 : goal.returns-then-block-eq29
returns-then-block-eq29 c = sym (february_long _ c.if-block-le16.false ∙ rw (eq-eqb _ _ c.if-block-eq29.true) refl)

pub returns-else-block-eq29 : goal.returns-else-block-eq29
returns-else-block-eq29 c = sym (february_long _ c.if-block-le16.false ∙ rw (ne_eqb _ _ c.if-block-eq29.false) refl)
