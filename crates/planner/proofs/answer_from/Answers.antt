-- A whole draft is a best choice (`Finished`), so that its numbers fit, and the answer is `answer_to`.
use native.Mathlib.Omega.{arith}
use Rattle.planner.proofs.Answers.{Finished, finished, answer_made, answer_lost}
use Rattle.planner.proofs.answer_from.Goals as goal
use Rattle.planner.proofs.answer_from.Goals.{In_default}

pub returns-in-Err : goal.returns-in-Err
returns-in-Err c = answer_lost c.args.s.efficiency _ c.args.depths.now c.draw_depths.ensures c.in-Err.is

-- the draft is whole
done : (c : In_default) → Finished c.args.s c.args.from.today c.args.from.waiting c.args.from.used.now c.args.from.limit c.args.depletion c.draw_depths.new.depths
done c = finished c.args.from.waiting c.args.from.used.now c.args.from.limit c.requires.valid c.requires.day_of c.requires.depletion_bound c.draw_depths.ensures c.in_default.is

pub irrigated_days-days-requires : goal.irrigated_days-days-requires
irrigated_days-days-requires c = (done (goal.at.irrigated_days-days-requires c).In_default).short

pub net_total-net-requires : goal.net_total-net-requires
net_total-net-requires c = omega (arith, (done (goal.at.net_total-net-requires c).In_default).small)

pub gross_of-gross-requires : goal.gross_of-gross-requires
gross_of-gross-requires c =
    let f = done (goal.at.gross_of-gross-requires c).In_default in
    (f.valid.ranges.efficiency.low≤, f.valid.ranges.efficiency.≤high, rw c.net_total-net.ensures (omega (arith, f.small)))

pub copy_depths-requires : goal.copy_depths-requires
copy_depths-requires c = omega (arith, (done (goal.at.copy_depths-requires c).In_default).size, c.requires.today_in_bounds)

pub returns : goal.returns
returns c = answer_made c.args.s.efficiency c.args.depths.now (done (goal.at.returns c).In_default) c.irrigated_days-days.ensures c.net_total-net.ensures c.gross_of-gross.ensures c.copy_depths.ensures
