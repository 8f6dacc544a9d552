-- Kind by kind.
use mathlib.Core.Path.{sym}
use native.Mathlib.Omega.{arith}
use Rattle.exports.specs.Kinds.{probe_of}
use borrow.Author.Tests.{eq-eqb, ne_eqb}
use Rattle.exports.proofs.probe_of.Goals as goal

pub returns-in-1 : goal.returns-in-1
unfolding probe_of
returns-in-1 c = sym (rw (eq-eqb c.args.kind 1 c.in-1.is))

pub returns-in-2 : goal.returns-in-2
unfolding probe_of
returns-in-2 c = sym (rw (ne_eqb c.args.kind 1 (omega (arith, c.in-2.is)), eq-eqb c.args.kind 2 c.in-2.is))

pub returns-in_default : goal.returns-in_default
unfolding probe_of
returns-in_default c = sym (rw (ne_eqb c.args.kind 1 (λ e. omega (arith, c.in_default, e)), ne_eqb c.args.kind 2 (λ e. omega (arith, c.in_default, e))))
