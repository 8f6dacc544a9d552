-- The role is refused, or the opening is the one without a role, with its stores for role 3 alone.
use Prim.Native.Nat.{ℕ}
use mathlib.Core.Bool.{true, false}
use mathlib.Core.Path.{◌≡◌, sym, ap, ◌∙◌}
use mathlib.Core.List.{[]}
use lib.Dec.{eqb}
use Rattle.verdict.specs.Refusals.{verdict_in}
use Rattle.journal.specs.Roles.{may_mend}
use Rattle.journal.specs.Opening.{Opening}
use Rattle.journal.specs.Calls.{opened_with}
use Rattle.controller.proofs.Roles.{declined, allowed, mends, with_stores, stores_kept}
use Rattle.controller.proofs.open.Goals as goal

pub returns-then-eq : goal.returns-then-eq
returns-then-eq c =
    let mine : may_mend c.args.role ≡ true = ap (λ (n : ℕ). eqb n 3) (sym (rw c.in-Ok.is at c.try_from.ensures.1)) ∙ (sym (mends c.in-Ok.role) ∙ (sym c.eq.ensures ∙ c.if-eq.true)) in
    c.sheet_opened.ensures ∙ with_stores c.args.role _ mine ∙ allowed _ _ _ _ c.try_from.ensures.0 (ap verdict_in c.in-Ok.is)

pub returns-else-eq : goal.returns-else-eq
returns-else-eq c =
    let mine : may_mend c.args.role ≡ false = ap (λ (n : ℕ). eqb n 3) (sym (rw c.in-Ok.is at c.try_from.ensures.1)) ∙ (sym (mends c.in-Ok.role) ∙ (sym c.eq.ensures ∙ c.if-eq.false)) in
    c.without_stores.ensures
    ∙ ap (λ (o : Opening). opened_with o []) c.sheet_found.ensures
    ∙ stores_kept c.args.role _ mine
    ∙ allowed _ _ _ _ c.try_from.ensures.0 (ap verdict_in c.in-Ok.is)

pub returns-in-Err : goal.returns-in-Err
returns-in-Err c = c.without_stores-in-Err.ensures ∙ rw c.into.ensures (declined _ _ _ _ c.try_from.ensures.0 _ _ (ap verdict_in c.in-Err.is))
