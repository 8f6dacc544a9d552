-- Each field is what its callee ensures.
use Rattle.season.specs.Closing.{close_day}
use Rattle.season.proofs.close.close_day.Goals as goal

pub returns : goal.returns
unfolding close_day
returns c = rw (c.saturating_sub.ensures, c.crop_use-used.ensures, c.saturating_sub-d1.ensures)
