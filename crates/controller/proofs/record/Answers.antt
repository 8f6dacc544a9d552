-- The role is refused, 21 behind 20, or the call is the one without a role.
use Prim.Native.Nat.{ℕ}
use mathlib.Core.Bool.{Bool}
use mathlib.Core.Path.{◌≡◌, refl, sym, ap, ◌∙◌}
use lib.Dec.{eqb}
use Rattle.verdict.specs.Refusals.{Accepted, or_refused, first_of, verdict_in}
use Rattle.verdict.proofs.First.{handed_on, said}
use Rattle.journal.specs.Calls.{recorded_with}
use Rattle.journal.specs.Roles.{enter_lines}
use Rattle.controller.proofs.Roles.{declined, allowed, entering, looks}
use Rattle.controller.proofs.record.Goals as goal
use Rattle.controller.proofs.record.Goals.{After-refuse_if}

-- 21 behind 20, where 20 does not apply.
judged : (c : After-refuse_if) → verdict_in c.refuse_if.result ≡ first_of Accepted (enter_lines c.args.role)
judged c =
    entering c.args.role (sym (ap verdict_in c.in_ok-role.was) ∙ c.try_from.ensures.0)
    (said _ _ _ _ _ c.refuse_if.ensures
    ∙ ap (λ (t : Bool). or_refused Accepted t 21 0) (c.eq.ensures ∙ (looks c.in_ok-role.role ∙ ap (λ (n : ℕ). eqb n 1) (rw c.in_ok-role.was at c.try_from.ensures.1))))

pub returns-in_err-role : goal.returns-in_err-role
unfolding or_refused recorded_with
returns-in_err-role c =
    rw (handed_on _ _ c.from_residual.ensures.1)
    (declined _ _ _ _ (entering c.args.role (sym (ap verdict_in c.in_err-role.was) ∙ c.try_from.ensures.0) refl) _ _ refl)

pub returns-in_err-refuse_if : goal.returns-in_err-refuse_if
unfolding recorded_with
returns-in_err-refuse_if c =
    rw (handed_on _ _ c.from_residual-in_err-refuse_if.ensures.1)
    (declined _ _ _ _ (judged (goal.at.returns-in_err-refuse_if c).After-refuse_if) _ _ (ap verdict_in c.in_err-refuse_if.was))

pub returns : goal.returns
returns c = c.sheet_recorded.ensures ∙ allowed _ _ _ _ (judged (goal.at.returns c).After-refuse_if) (ap verdict_in c.in_ok-refuse_if.was)
