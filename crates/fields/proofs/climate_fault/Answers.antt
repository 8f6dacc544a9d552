-- The loop is `Searched` of proofs/Lowest.antt.
use mathlib.Core.Path.{sym, ◌∙◌}
use native.Mathlib.Omega.{arith}
use Rattle.fields.proofs.Lowest.{search_start, search_found, search_on, search_none}
use Rattle.fields.proofs.climate_fault.Goals as goal

pub loop-k-init : goal.loop-k-init
loop-k-init c = search_start 10 _ _ (omega (arith, c.requires))

pub offset_bounds-by_place-k : goal.offset_bounds-by_place-k
offset_bounds-by_place-k c = omega (arith, c.loop-k-test.true)

pub bounds-by_place-k : goal.bounds-by_place-k
bounds-by_place-k c = omega (arith, c.loop-k-test.true)

pub offset_bounds-c-k : goal.offset_bounds-c-k
offset_bounds-c-k c = omega (arith, c.loop-k-test.true, c.requires)

pub bounds-c-k : goal.bounds-c-k
bounds-c-k c = omega (arith, c.loop-k-test.true, c.requires)

pub returns-then-is_outside : goal.returns-then-is_outside
returns-then-is_outside c = (omega arith, sym (search_found c.loop-k.invariant (0, 0) (omega (arith, c.loop-k-test.true, c.requires)) (sym c.is_outside.ensures ∙ c.if-is_outside.true)))

pub loop-k-preserved : goal.loop-k-preserved
loop-k-preserved c = search_on c.loop-k.invariant (0, 0) (omega (arith, c.loop-k-test.true, c.requires)) (sym c.is_outside.ensures ∙ c.if-is_outside.false)

pub returns : goal.returns
returns c = search_none c.loop-k.invariant (omega (arith, c.loop-k-test.false, c.requires))
