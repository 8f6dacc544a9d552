-- After i turns the plan's first i days are counted (proofs/Uses.antt).
use mathlib.Core.Path.{refl}
use native.Mathlib.Omega.{arith}
use lib.ListN.{get_or}
use Rattle.bank.proofs.Uses.{adding_start, adding_old, counts_few, adding_valves, adding_end}
use Rattle.bank.proofs.planning.add_used.Goals as goal

pub loop-i-init : goal.loop-i-init
loop-i-init c = adding_start c.args.used.now c.args.depths.now (omega (arith, c.requires.counts.size, c.requires.depths_len_bound))

pub loop-i-preserved : goal.loop-i-preserved
loop-i-preserved c = adding_valves c.loop-i.invariant c.loop-i-test.true c.valves_of.ensures refl

pub overflow_add-used : goal.overflow_add-used
overflow_add-used c =
    record { fits = omega (arith, adding_old c.loop-i.invariant, c.requires.counts.few c.loop-i.i, c.valves_of.ensures, counts_few (get_or c.args.depths.now c.loop-i.i 0)) }

pub returns : goal.returns
returns c = adding_end c.loop-i.invariant c.loop-i-test.false
