-- Each step of the chain is the step of `first_of`; what refusal 17 lets pass is at most 200.
use mathlib.Core.Path.{◌∙◌, ap, sym}
use Rattle.verdict.specs.Refusals.{Verdict, verdict_in}
use Rattle.verdict.proofs.First.{said, handed_on}
use Rattle.journal.specs.Loss.{Parts, losses_of, lost_unless}
use Rattle.journal.proofs.Answers.{ky_most}
use Rattle.journal.proofs.losing.lost_by.Goals as goal

pub losses_of-requires : goal.losses_of-requires
losses_of-requires c =
    (ky_most c.args.ky c.args.torn c.args.place (rw (said _ _ _ _ _ c.or_refused.ensures, said _ _ _ _ _ c.refuse_if.ensures, c.is_outside-outside.ensures) at (ap verdict_in c.in_ok-or_refused.was)), c.requires)

pub returns : goal.returns
returns c =
    ap Parts c.losses_of.ensures
    ∙ sym (ap (λ (v : Verdict). lost_unless v (losses_of c.args.ky c.args.l)) (rw (said _ _ _ _ _ c.or_refused.ensures, said _ _ _ _ _ c.refuse_if.ensures, c.is_outside-outside.ensures) at (ap verdict_in c.in_ok-or_refused.was)))

pub returns-in_err-or_refused : goal.returns-in_err-or_refused
returns-in_err-or_refused c =
    rw (handed_on _ _ c.from_residual.ensures.1)
    (sym (ap (λ (v : Verdict). lost_unless v (losses_of c.args.ky c.args.l)) (rw (said _ _ _ _ _ c.or_refused.ensures, said _ _ _ _ _ c.refuse_if.ensures, c.is_outside-outside.ensures) at (ap verdict_in c.in_err-or_refused.was))))
