-- `probes::single_of` meets its contract, arm by arm.
use mathlib.Core.Path.{sym, ap, ◌∙◌}
use Rattle.probes.specs.Contents.{single_of}
use Rattle.probes.proofs.single_of.Goals as goal

pub returns-in-Water : goal.returns-in-Water
returns-in-Water c = c.content_of.ensures ∙ sym (ap single_of c.in-Water.is)
