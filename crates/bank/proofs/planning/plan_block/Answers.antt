-- The answer is the plan's, and only a plan that is made is counted.
use mathlib.Core.Path.{sym, ap}
use Prim.Native.Nat.{◌+◌, ◌-◌}
use lib.ListN.{take}
use lib.Seq.{length-take-le}
use Rattle.season.specs.Sheet.{longest_season}
use Rattle.bank.proofs.Places.{take_at_most}
use Rattle.bank.proofs.Replies.{left_few, left_counted}
use Rattle.bank.proofs.planning.plan_block.Goals as goal

pub slice_bounds-add_used-end : goal.slice_bounds-add_used-end
slice_bounds-add_used-end c = (left_few c.args.s c.args.today c.args.kept.depletion c.args.kept.waiting (take c.args.seen c.args.used.now) c.args.limit c.args.depths.now c.requires.today_in_bounds c.plan_left-planned.ensures c.requires.valid c.requires.day_of (ap (λ n. n + 1 - c.args.today) c.season_days.ensures) c.days_taken-count.ensures).0

pub slice_bounds-add_used-end-2 : goal.slice_bounds-add_used-end-2
slice_bounds-add_used-end-2 c = sym (length-take-le c.days_taken-count.result _ (left_few c.args.s c.args.today c.args.kept.depletion c.args.kept.waiting (take c.args.seen c.args.used.now) c.args.limit c.args.depths.now c.requires.today_in_bounds c.plan_left-planned.ensures c.requires.valid c.requires.day_of (ap (λ n. n + 1 - c.args.today) c.season_days.ensures) c.days_taken-count.ensures).0)

pub add_used-requires : goal.add_used-requires
add_used-requires c = record { counts = c.requires.counts; depths_len_bound = take_at_most c.days_taken-count.result longest_season _ (left_few c.args.s c.args.today c.args.kept.depletion c.args.kept.waiting (take c.args.seen c.args.used.now) c.args.limit c.args.depths.now c.requires.today_in_bounds c.plan_left-planned.ensures c.requires.valid c.requires.day_of (ap (λ n. n + 1 - c.args.today) c.season_days.ensures) c.days_taken-count.ensures).1 }

pub returns : goal.returns
returns c = left_counted c.args.s c.args.today c.args.kept.depletion c.args.kept.waiting (take c.args.seen c.args.used.now) c.args.limit c.args.depths.now c.requires.today_in_bounds c.plan_left-planned.ensures c.args.used.now (ap (λ n. n + 1 - c.args.today) c.season_days.ensures) c.days_taken-count.ensures c.add_used.ensures
