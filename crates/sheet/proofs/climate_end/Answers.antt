-- It goes by the verdict of the climate sheet (proofs/Start.antt).
use mathlib.Core.Path.{sym, ap, ◌∙◌}
use Rattle.verdict.specs.Refusals.{Accepted}
use Rattle.sheet.specs.Numbers.{Numbers}
use Rattle.sheet.proofs.Verdicts.{whole, stopped_verdict}
use Rattle.sheet.proofs.Start.{climate_end_is, is_three}
use Rattle.sheet.proofs.climate_end.Goals as goal

pub returns-in-Ok : goal.returns-in-Ok
returns-in-Ok c = climate_end_is c.args.input.now Accepted (ap (λ (n : Numbers). n.verdict) (sym (whole _ _ c.args.input.now _ _ c.read_all.ensures _ c.in-Ok.is)))

pub returns-then-eq : goal.returns-then-eq
returns-then-eq c =
    let e = climate_end_is c.args.input.now _ (stopped_verdict _ _ c.args.input.now _ _ c.read_all.ensures _ c.in-Err.is) in
    rw (sym (is_three c.in-Err.refusal.reason) ∙ sym c.eq.ensures ∙ c.if-eq.true) at e

pub returns-else-eq : goal.returns-else-eq
returns-else-eq c =
    let e = climate_end_is c.args.input.now _ (stopped_verdict _ _ c.args.input.now _ _ c.read_all.ensures _ c.in-Err.is) in
    rw (sym (is_three c.in-Err.refusal.reason) ∙ sym c.eq.ensures ∙ c.if-eq.false) at e
