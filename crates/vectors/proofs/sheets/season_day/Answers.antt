-- The two tests leave a day of the season, so every function may be asked about it.
use Rattle.season.proofs.Days.{on_day}
use borrow.Author.Rules.{rules}
use Rattle.vectors.proofs.sheets.season_day.Goals as goal

pub numbers_on-requires : goal.numbers_on-requires
numbers_on-requires c = record { valid = c.args.a.accepted.valid; on_day = on_day c.args.a.season c.day_of.result c.args.day (search rules) c.day_of.ensures }
