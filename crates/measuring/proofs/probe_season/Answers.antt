-- By what the opening found.
use mathlib.Core.Path.{refl, sym, ap, ◌∙◌}
use Rattle.verdict.proofs.First.{handed_on}
use Rattle.journal.proofs.Answers.{clean_within}
use Rattle.journal.proofs.Found.{clean_found, unclean_found}
use Rattle.probes.specs.Contents.{reading_in}
use Rattle.measuring.specs.Probing.{Refused, probed_on}
use Rattle.measuring.proofs.probe_season.Goals as goal

pub probed_from-requires-clause-le_day : goal.probed_from-requires-clause-le_day
probed_from-requires-clause-le_day c = (clean_within c.args.s.season c.args.area.now c.args.s.accepted _ _ c.find.ensures (clean_found _ _ (sym c.clean.ensures ∙ c.in_ok-l.was))).from

pub returns : goal.returns
unfolding probed_on
returns c =
    c.probed_from.ensures
    ∙ sym (ap (probed_on c.args.s.season (reading_in c.args.reading) c.args.capacity) (sym c.find.ensures ∙ clean_found _ _ (sym c.clean.ensures ∙ c.in_ok-l.was)))

pub returns-in_err-l : goal.returns-in_err-l
unfolding probed_on
returns-in_err-l c =
    rw (handed_on _ _ c.from_residual.ensures.1)
    (sym (ap (probed_on c.args.s.season (reading_in c.args.reading) c.args.capacity) (sym c.find.ensures)
    ∙ unclean_found (probed_on c.args.s.season (reading_in c.args.reading) c.args.capacity) Refused (λ l place. refl) (λ number place. refl) _ _ (sym c.clean.ensures ∙ c.in_err-l.was)))
