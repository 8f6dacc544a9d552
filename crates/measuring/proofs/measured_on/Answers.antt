-- Z and T are of the season day that `day_of` gives.
use mathlib.Core.Path.{ap, ap₂, ◌∙◌}
use Prim.Native.Nat.{ℕ}
use Rattle.season.specs.Day.{root_on, total_on}
use Rattle.season.specs.Carried.{OnDay}
use Rattle.season.proofs.Days.{number_is, on_day}
use Rattle.season.proofs.Bounds.{root_le}
use Rattle.probes.specs.Depletion.{measured}
use Rattle.measuring.proofs.measured_on.Goals as goal

pub root_depth-root-requires : goal.root_depth-root-requires
root_depth-root-requires c =
    let today : OnDay c.args.s c.day_of-today.result = on_day c.args.s c.day_of-today.result c.args.day c.requires.day_of c.day_of-today.ensures in
    record { valid = c.requires.valid; on_day = today }

pub total_on-total-requires : goal.total_on-total-requires
total_on-total-requires c =
    let today : OnDay c.args.s c.day_of-today.result = on_day c.args.s c.day_of-today.result c.args.day c.requires.day_of c.day_of-today.ensures in
    record { valid = c.requires.valid; on_day = today }

pub measured_depletion-requires : goal.measured_depletion-requires
measured_depletion-requires c = (c.requires.capacity_bound, rw c.root_depth-root.ensures (root_le c.args.s _ c.requires.valid.ranges))

pub returns : goal.returns
returns c = let a = c.args in
    let n = number_is a.s c.day_of-today.result a.day c.day_of-today.ensures in
    c.measured_depletion.ensures
    ∙ ap₂ (λ (z t : ℕ). measured a.capacity a.content z t)
    (c.root_depth-root.ensures ∙ ap (root_on a.s) n)
    (c.total_on-total.ensures ∙ ap (total_on a.s) n)
