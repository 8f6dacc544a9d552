-- The answer goes by what the opening found; a clean journal's ledger is within its ranges.
use mathlib.Core.Path.{◌≡◌, sym, ◌∙◌}
use native.Mathlib.Omega.{arith}
use Rattle.verdict.proofs.First.{handed_on}
use Rattle.journal.specs.Opening.{Clean, opening_in}
use Rattle.journal.proofs.Found.{clean_found}
use Rattle.controller.proofs.Plans.{plan_closed, plan_open, plan_unclean, ledger_plans}
use Rattle.controller.proofs.plan_season.Goals as goal
use Rattle.controller.proofs.plan_season.Goals.{After-season_days}

-- The journal is clean, with the ledger that is gone on from.
found : (c : After-season_days) → opening_in c.find.result ≡ Clean c.in_ok-l.l
found c = clean_found _ _ (sym c.clean.ensures ∙ c.in_ok-l.was)

pub returns-then-season_days-l : goal.returns-then-season_days-l
returns-then-season_days-l c =
    plan_closed c.args.s.season c.args.area.now c.args.depths.now _ c.find.ensures _ _ (found (goal.at.returns-then-season_days-l c).After-season_days) c.season_days.ensures c.if-season_days-l.true

pub overflow_add-l : goal.overflow_add-l
overflow_add-l c =
    record { fits = omega (arith, ledger_plans c.args.s.season c.args.area.now c.args.depths.now _ c.find.ensures c.args.s.accepted _ _ (found (goal.at.overflow_add-l c).After-season_days) c.season_days.ensures c.if-season_days-l.false) }

pub make_plan-requires : goal.make_plan-requires
make_plan-requires c =
    let p = ledger_plans c.args.s.season c.args.area.now c.args.depths.now _ c.find.ensures c.args.s.accepted _ _ (found (goal.at.make_plan-requires c).After-season_days) c.season_days.ensures c.if-season_days-l.false in
    record { valid = c.args.s.accepted.valid; day_of = p.1; depletion_bound = p.2 }

pub returns : goal.returns
returns c =
    c.make_plan.ensures
    ∙ plan_open c.args.s.season c.args.area.now c.args.depths.now _ c.find.ensures _ _ (found (goal.at.returns c).After-season_days) c.season_days.ensures c.if-season_days-l.false

pub returns-in_err-l : goal.returns-in_err-l
returns-in_err-l c =
    rw (handed_on _ _ c.from_residual.ensures.1)
    (plan_unclean c.args.s.season c.args.area.now c.args.depths.now _ c.find.ensures _ (sym c.clean.ensures ∙ c.in_err-l.was))
