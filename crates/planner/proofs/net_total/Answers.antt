-- What std's `sum` adds up is the total.
use Prim.Native.Nat.{ℕ, ◌<◌}
use mathlib.Core.Path.{◌≡◌, ap, ◌∙◌}
use Rattle.std.proofs.Common.{rules}
use Rattle.std.specs.List.{sum as total}
use Rattle.planner.proofs.Lists.{sum_is}
use Rattle.planner.proofs.net_total.Goals as goal

pub sum-requires-clause-fits : goal.sum-requires-clause-fits
sum-requires-clause-fits c =
    let small : total c.args.depths.now < 4294967296 = rw (sum_is c.args.depths.now) c.requires in
    search rules

pub returns : goal.returns
returns c =
    let is : c.sum.result ≡ total c.args.depths.now = search rules in
    ap (λ (n : ℕ). record { 0 = n }) (is ∙ sum_is c.args.depths.now)
