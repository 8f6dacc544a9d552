-- By the answer's case: the totals, or the refusal.
use Prim.Native.Nat.{ℕ}
use mathlib.Core.Path.{refl, ap, ◌∙◌}
use mathlib.Core.List.{[], ◌∷◌}
use Rattle.planner.specs.Answer.{numbers_of, planned_in}
use Rattle.answers.specs.Over.{written_over}
use Rattle.exports.specs.Small.{SmallPlanned}
use Rattle.exports.proofs.Over.{holds_by, written_by_lem}
use Rattle.exports.proofs.put_planned.Goals as goal

pub put_refused-requires : goal.put_refused-requires
put_refused-requires c = holds_by (ap planned_in c.in-Err.is) refl SmallPlanned c.requires

pub returns-in-Ok : goal.returns-in-Ok
returns-in-Ok c =
    written_by_lem (ap planned_in c.in-Ok.is) refl numbers_of _
    (c.put_totals.ensures ∙ ap (λ (x : ℕ). written_over (0 ∷ 0 ∷ c.in-Ok.t.waterings ∷ c.in-Ok.t.net.0 ∷ x ∷ []) c.args.out.now) c.points.ensures)

pub returns-in-Err : goal.returns-in-Err
returns-in-Err c = written_by_lem (ap planned_in c.in-Err.is) refl numbers_of _ c.put_refused.ensures
