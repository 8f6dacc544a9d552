-- Each turn adds the need of one day more; where the coefficient stays there is nothing to go over.
use mathlib.Core.Path.{◌≡◌, ◌∙◌, ap}
use native.Mathlib.Omega.{arith}
use lib.IntN.{ℤ}
use Rattle.season.specs.Carried.{scaled, raised}
use Rattle.season.proofs.Laws.{product}
use Rattle.season.proofs.Bounds.{need_le}
use Rattle.season.proofs.Days.{need_is, need_fits}
use Rattle.season.proofs.Along.{left_few, rise_back, no_rise, needs_constant, summed, summed_is, summing_start, summing_raising, summing_fits, summing_small, summing_more}
use Rattle.season.proofs.carried.need_after.Goals as goal

pub quotient-requires : goal.quotient-requires
quotient-requires c = need_fits c.requires.valid c.requires.on_day

pub overflow_mul-result : goal.overflow_mul-result
overflow_mul-result c = record { fits = rw c.quotient.ensures (omega (arith, product c.args.days (scaled c.args.t.top c.args.t.reciprocal) 30 3000 (omega (arith, c.requires.days_le_left, left_few c.requires.valid c.requires.on_day)) (omega (arith, need_is c.requires.valid c.requires.on_day, need_le c.args.s c.args.t.number c.requires.valid c.requires.on_day.of)))) }

pub returns-then-t-eq0 : goal.returns-then-t-eq0
returns-then-t-eq0 c = rw c.quotient.ensures (needs_constant c.requires.valid c.requires.on_day (no_rise c.requires.valid c.requires.on_day c.if-t-eq0.true) c.args.days c.requires.days_le_left)

pub loop-init : goal.loop-init
loop-init c = summing_start c.args.t c.args.days

pub raised-top-requires : goal.raised-top-requires
raised-top-requires c = rw (rise_back c.requires.valid c.requires.on_day) (summing_raising c.requires.valid c.requires.on_day c.loop.invariant c.requires.days_le_left c.loop-test.true)

pub quotient-sum-requires : goal.quotient-sum-requires
quotient-sum-requires c = rw (c.raised-top.ensures, rise_back c.requires.valid c.requires.on_day) (summing_fits c.requires.valid c.requires.on_day c.loop.invariant c.requires.days_le_left c.loop-test.true)

pub overflow_add-sum : goal.overflow_add-sum
overflow_add-sum c = record { fits = rw (c.quotient-sum.ensures, c.raised-top.ensures, rise_back c.requires.valid c.requires.on_day) (omega (arith, summing_small c.requires.valid c.requires.on_day c.loop.invariant c.requires.days_le_left c.loop-test.true)) }

pub loop-preserved : goal.loop-preserved
loop-preserved c = summing_more c.requires.valid c.requires.on_day c.loop.invariant c.requires.days_le_left c.loop-test.true (c.raised-top.ensures ∙ ap (λ (z : ℤ). raised c.loop.top z 1) (rise_back c.requires.valid c.requires.on_day)) (rw c.quotient-sum.ensures)

pub returns : goal.returns
returns c = let all : c.loop.counter ≡ c.args.days = omega (arith, c.loop.invariant.few, c.loop-test.false) in c.loop.invariant.total ∙ ap (summed c.args.t) all ∙ summed_is c.requires.valid c.requires.on_day c.args.days c.requires.days_le_left
