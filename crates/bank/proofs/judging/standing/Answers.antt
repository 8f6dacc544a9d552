-- By what the opening found; a clean journal's ledger is within its ranges.
use mathlib.Core.Path.{refl, sym, ap, ◌∙◌}
use native.Mathlib.Omega.{arith}
use Rattle.verdict.proofs.First.{said}
use Rattle.journal.proofs.Answers.{clean_within}
use Rattle.journal.proofs.Found.{clean_found, unclean_found}
use Rattle.bank.specs.Judging.{no_standing, standing_on}
use Rattle.bank.proofs.Judges.{stand_clean}
use Rattle.bank.proofs.judging.standing.Goals as goal

pub overflow_sub-left : goal.overflow_sub-left
overflow_sub-left c = omega (arith, c.season_days-days.ensures, (clean_within c.args.s.season c.args.area.now c.args.s.accepted _ _ c.find.ensures (clean_found _ _ (sym c.clean.ensures ∙ c.in-Ok.is))).to)

pub overflow_add-result : goal.overflow_add-result
overflow_add-result c = record { fits = omega (arith, (clean_within c.args.s.season c.args.area.now c.args.s.accepted _ _ c.find.ensures (clean_found _ _ (sym c.clean.ensures ∙ c.in-Ok.is))).waits) }

pub returns-in-Ok : goal.returns-in-Ok
returns-in-Ok c =
    rw (said _ _ _ _ _ c.or_refused-verdict.ensures, said _ _ _ _ _ c.refuse_if.ensures)
    (stand_clean c.args.s.season c.args.area.now c.args.room _ c.find.ensures _ _ (clean_found _ _ (sym c.clean.ensures ∙ c.in-Ok.is)) c.season_days-days.ensures)

pub returns-in-Err : goal.returns-in-Err
unfolding standing_on
returns-in-Err c =
    c.no_standing.ensures
    ∙ sym (ap (standing_on c.args.s.season c.args.room) (sym c.find.ensures)
    ∙ unclean_found (standing_on c.args.s.season c.args.room) no_standing (λ l place. refl) (λ number place. refl) _ _ (sym c.clean.ensures ∙ c.in-Err.is))
