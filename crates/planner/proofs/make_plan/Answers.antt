-- With no valve used, and a limit of one, the turn days left are all of them.
use mathlib.Core.Path.{◌∙◌}
use Rattle.planner.proofs.Answers.{answer_all}
use Rattle.planner.proofs.make_plan.Goals as goal

pub returns : goal.returns
returns c = c.plan_left.ensures ∙ answer_all c.args.s c.args.today c.args.depletion c.args.waiting c.args.depths.now
