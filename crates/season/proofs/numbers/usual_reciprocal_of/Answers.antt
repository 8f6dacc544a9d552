-- Each constant is the quotient that the definition computes.
use mathlib.Core.Path.{ap, sym}
use Rattle.season.specs.Carried.{reciprocal}
use Rattle.season.proofs.numbers.usual_reciprocal_of.Goals as goal

pub returns-then-d-eq31 : goal.returns-then-d-eq31
returns-then-d-eq31 c = ap reciprocal (sym c.if-d-eq31.true)

pub returns-then-d-eq30 : goal.returns-then-d-eq30
returns-then-d-eq30 c = ap reciprocal (sym c.if-d-eq30.true)

pub returns-then-d-eq100 : goal.returns-then-d-eq100
returns-then-d-eq100 c = ap reciprocal (sym c.if-d-eq100.true)
