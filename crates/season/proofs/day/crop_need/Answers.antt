-- The top by the reciprocal of its bottom.
use mathlib.Core.Path.{◌∙◌}
use Rattle.season.proofs.Days.{need_is, need_fits}
use Rattle.season.proofs.day.crop_need.Goals as goal

pub quotient-requires : goal.quotient-requires
quotient-requires c = need_fits c.requires.valid c.requires.on_day

pub returns : goal.returns
returns c = c.quotient.ensures ∙ need_is c.requires.valid c.requires.on_day
