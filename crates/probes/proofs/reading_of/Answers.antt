-- `probes::reading_of` meets its contract, arm by arm.
use mathlib.Core.Path.{sym, ◌∙◌}
use mathlib.Core.Logic.{inl, inr}
use Rattle.probes.specs.Contents.{reading_of}
use Rattle.probes.proofs.reading_of.Goals as goal

pub returns-in-Water-deep : goal.returns-in-Water-deep
unfolding reading_of
returns-in-Water-deep c = c.pair_of.ensures ∙ sym (rw (c.in-Water.is, c.in-Water-deep.is))

pub returns-in-Low-deep : goal.returns-in-Low-deep
unfolding reading_of
returns-in-Low-deep c = c.content_of.ensures ∙ sym (elim c.in-Low-deep.is [ inl low ↦ rw (c.in-Water.is, low.1) | inr silent ↦ rw (c.in-Water.is, silent) ])

pub returns-in-Low : goal.returns-in-Low
unfolding reading_of
returns-in-Low c = c.single_of.ensures ∙ sym (elim c.in-Low.is [ inl low ↦ rw low.1 | inr silent ↦ rw silent ])
