-- The decades of the year from the first day's to the last day's.
use mathlib.Core.Path.{◌≡◌, ◌∙◌, ap}
use native.Mathlib.Omega.{arith}
use Rattle.season.specs.Carried.{day_of}
use Rattle.season.specs.Sheet.{season_days}
use Rattle.decades.proofs.Count.{small_dates, small_decades, decades_in_order, count_over, count_within}
use Rattle.decades.proofs.row_count.Goals as goal
use Rattle.decades.proofs.row_count.Goals.{After-day_of-last}

-- The last day.
last_of : (c : After-day_of-last) → c.day_of-last.result ≡ day_of c.args.s (season_days c.args.s)
last_of c = c.day_of-last.ensures ∙ ap (day_of _) c.season_days.ensures

pub decade_number-to-requires : goal.decade_number-to-requires
decade_number-to-requires c =
    let last = last_of ((goal.at.decade_number-to-requires c).After-day_of-last) in
    (small_dates c.args.s c.requires c.day_of-last.result last).1.0

pub date_number-requires : goal.date_number-requires
date_number-requires c =
    let last = last_of ((goal.at.date_number-requires c).After-day_of-last) in
    (small_dates c.args.s c.requires c.day_of-last.result last).1

pub date_number-requires-2 : goal.date_number-requires-2
date_number-requires-2 c =
    let last = last_of ((goal.at.date_number-requires-2 c).After-day_of-last) in
    (small_dates c.args.s c.requires c.day_of-last.result last).0

pub overflow_add-result : goal.overflow_add-result
overflow_add-result c =
    let last = last_of ((goal.at.overflow_add-result c).After-day_of-last) in
    record { fits = omega (arith, c.decade_number-to.ensures, c.decade_number-from.ensures, small_decades c.args.s c.requires c.day_of-last.result last) }

pub overflow_sub-result : goal.overflow_sub-result
overflow_sub-result c =
    let last = last_of ((goal.at.overflow_sub-result c).After-day_of-last) in
    omega (arith, c.decade_number-to.ensures, c.decade_number-from.ensures, small_decades c.args.s c.requires c.day_of-last.result last)

pub returns-then-date_number : goal.returns-then-date_number
returns-then-date_number c =
    let last = last_of ((goal.at.returns-then-date_number c).After-day_of-last) in
    rw (c.decade_number-to.ensures, c.decade_number-from.ensures)
    (count_over c.args.s c.requires c.day_of-last.result last (rw (← c.date_number.ensures, ← c.date_number-2.ensures) c.if-date_number.true))

pub overflow_add-result-2 : goal.overflow_add-result-2
overflow_add-result-2 c =
    let last = last_of ((goal.at.overflow_add-result-2 c).After-day_of-last) in
    record { fits = omega (arith, c.decade_number-to.ensures, c.decade_number-from.ensures, small_decades c.args.s c.requires c.day_of-last.result last) }

pub overflow_sub-result-2 : goal.overflow_sub-result-2
overflow_sub-result-2 c =
    let last = last_of ((goal.at.overflow_sub-result-2 c).After-day_of-last) in
    omega (arith, c.decade_number-to.ensures, c.decade_number-from.ensures, decades_in_order c.args.s c.requires c.day_of-last.result last (rw (← c.date_number.ensures, ← c.date_number-2.ensures) c.if-date_number.false))

pub returns : goal.returns
returns c =
    let last = last_of ((goal.at.returns c).After-day_of-last) in
    rw (c.decade_number-to.ensures, c.decade_number-from.ensures)
    (count_within c.args.s c.requires c.day_of-last.result last (rw (← c.date_number.ensures, ← c.date_number-2.ensures) c.if-date_number.false))
