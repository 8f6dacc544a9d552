-- `probes::is_content` meets its contract: the patterns of 0.0 and 1.0 are read as the definition's two numbers.
use mathlib.Core.Path.{sym, ap, ◌∙◌}
use mathlib.Core.Bool.{Bool, ◌&&◌}
use lib.Ieee as Ieee
use Rattle.probes.specs.Contents.{whole, is_content}
use Rattle.probes.proofs.is_content.Goals as goal

pub returns-then-x : goal.returns-then-x
unfolding is_content Ieee.of_bits
returns-then-x c = sym (ap (λ (t : Bool). t && Ieee.le c.args.x whole) c.if-x.true)

pub returns-else-x : goal.returns-else-x
unfolding is_content Ieee.of_bits
returns-else-x c = c.if-x.false ∙ sym (ap (λ (t : Bool). t && Ieee.le c.args.x whole) c.if-x.false)
