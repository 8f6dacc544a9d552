-- The table with the month's length put in.
use Rattle.fields.proofs.block_limits.Goals as goal

pub returns : goal.returns
returns c = rw c.month_length.ensures
