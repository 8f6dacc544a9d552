-- By what the opening found.
use mathlib.Core.Path.{◌∙◌, ap, sym}
use Rattle.journal.specs.Opening.{opening_in}
use Rattle.journal.specs.Loss.{lost, lost_on}
use Rattle.journal.proofs.Answers.{clean_within, torn_within}
use Rattle.journal.proofs.losing.loss.Goals as goal

pub lost_by-requires : goal.lost_by-requires
lost_by-requires c = (clean_within c.args.s.season c.args.area.now c.args.s.accepted _ _ c.find.ensures (ap opening_in c.in-Clean.is)).uses

pub lost_by-requires-in-Torn : goal.lost_by-requires-in-Torn
lost_by-requires-in-Torn c = (torn_within c.args.s.season c.args.area.now c.args.s.accepted _ _ _ c.find.ensures (ap opening_in c.in-Torn.is)).uses

pub returns-in-Clean : goal.returns-in-Clean
unfolding lost lost_on
returns-in-Clean c = c.lost_by.ensures ∙ sym (ap (lost_on c.args.ky) (sym c.find.ensures ∙ ap opening_in c.in-Clean.is))

pub returns-in-Torn : goal.returns-in-Torn
unfolding lost lost_on
returns-in-Torn c = c.lost_by-in-Torn.ensures ∙ sym (ap (lost_on c.args.ky) (sym c.find.ensures ∙ ap opening_in c.in-Torn.is))

pub returns-in-Refused : goal.returns-in-Refused
unfolding lost lost_on
returns-in-Refused c = sym (ap (lost_on c.args.ky) (sym c.find.ensures ∙ ap opening_in c.in-Refused.is))
