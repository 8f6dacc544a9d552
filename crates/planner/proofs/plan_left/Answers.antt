-- The local array's first numbers are the zeros that `answer_from` starts from.
use mathlib.Core.Path.{ap}
use Prim.Native.Nat.{◌+◌, ◌-◌}
use native.Mathlib.Omega.{arith}
use Rattle.season.specs.Sheet.{longest_season}
use Rattle.planner.proofs.Answers.{answer_short, answer_enough, draft_length, draft_zeros}
use Rattle.planner.proofs.plan_left.Goals as goal

pub returns-then-depths-count : goal.returns-then-depths-count
returns-then-depths-count c = answer_short c.args.s c.args.today c.args.waiting c.args.depletion c.args.used.now c.args.limit c.args.depths.now (rw c.season_days.ensures at c.if-depths-count.true)

pub slice_bounds-answer_from-end : goal.slice_bounds-answer_from-end
slice_bounds-answer_from-end c = draft_length longest_season _ (omega (arith, c.season_days.ensures))

pub answer_from-requires : goal.answer_from-requires
answer_from-requires c = record { valid = c.requires.valid; day_of = c.requires.day_of; depletion_bound = c.requires.depletion_bound; draft_value = draft_zeros longest_season _ _ (ap (λ n. n + 1 - c.args.today) c.season_days.ensures) (omega arith); today_in_bounds = omega (arith, c.if-depths-count.false, c.season_days.ensures) }

pub returns : goal.returns
returns c = let days = c.season_days.ensures in
    answer_enough c.args.s c.args.today c.args.waiting c.args.depletion c.args.used.now c.args.limit c.args.depths.now (omega (arith, c.if-depths-count.false)) c.answer_from.ensures
