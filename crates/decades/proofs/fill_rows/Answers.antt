-- The loop is the walk over the days of proofs/Rows.antt, with the buffer, a stretch of days at a turn.
use mathlib.Core.Path.{◌≡◌, refl, ◌∙◌}
use Prim.Native.Nat.{◌+◌, ◌-◌, ◌<◌}
use native.Mathlib.Omega.{arith}
use Rattle.season.specs.Carried.{day_of}
use Rattle.season.proofs.Days.{number_is, on_day}
use Rattle.decades.proofs.Rows.{Filling, first_day, next_on, need_small, more_at_most, rows_many, filling_start, filling_room, filling_same, filling_along, filling_new, filling_end}
use Rattle.decades.proofs.fill_rows.Goals as goal
use Rattle.decades.proofs.fill_rows.Goals.{Joined-last-gt0, then-last-gt0, else-last-gt0}

-- Where the season goes on after the stretch: the walk at the stretch's last day, and t is the day after it, by either arm.
walked : (c : Joined-last-gt0)
    → Filling c.args.s c.season_days-n.result c.further_on-last.result c.loop-out.at (c.loop-out.need + c.need_after-need.result) c.loop-out.before c.args.out.now c.loop-out.out
walked c = filling_along c.loop-out.invariant c.days_alike-days.ensures c.need_after-need.ensures c.further_on-last.ensures

day_after : (c : Joined-last-gt0) → c.if-last-gt0.t ≡ day_of c.args.s (c.further_on-last.result.number + 1)
day_after c =
    elim c.if-last-gt0.branch [ then-last-gt0 w ↦ w.t-is ∙ w.further_on-t.ensures | else-last-gt0 w ↦ w.t-is ∙ w.next_day-next.ensures ]

-- Fewer days are left than at the stretch's first.
fewer : (c : Joined-last-gt0) → c.season_days-n.result - c.if-last-gt0.t.number < c.season_days-n.result - c.loop-out.t.number
fewer c = omega (arith, c.if-n-last.false, number_is _ _ _ c.further_on-last.ensures, number_is _ _ _ (day_after c))

pub crop_need-need-requires-clause-on_day : goal.crop_need-need-requires-clause-on_day
crop_need-need-requires-clause-on_day c = on_day _ _ 1 (first_day c.requires.valid) c.day_of-start.ensures

pub rain_before-before-requires-clause-on_day : goal.rain_before-before-requires-clause-on_day
rain_before-before-requires-clause-on_day c = on_day _ _ 1 (first_day c.requires.valid) c.day_of-start.ensures

pub loop-out-init : goal.loop-out-init
loop-out-init c = filling_start c.requires.valid c.season_days-n.ensures c.day_of-start.ensures c.crop_need-need.ensures c.rain_before-before.ensures c.requires.s_in_bounds

pub need_after-need-requires : goal.need_after-need-requires
need_after-need-requires c = record { valid = c.loop-out.invariant.rows.valid; on_day = c.loop-out.invariant.rows.on; days_le_left = omega (arith, c.days_alike-days.ensures) }

pub overflow_add-need : goal.overflow_add-need
overflow_add-need c = record { fits = omega (arith, need_small (filling_along c.loop-out.invariant c.days_alike-days.ensures c.need_after-need.ensures refl).rows) }

pub further_on-last-requires : goal.further_on-last-requires
further_on-last-requires c = record { valid = c.loop-out.invariant.rows.valid; on_day = c.loop-out.invariant.rows.on; days_le_left = omega (arith, c.days_alike-days.ensures) }

pub row_of-requires : goal.row_of-requires
row_of-requires c =
    let walked = filling_along c.loop-out.invariant c.days_alike-days.ensures c.need_after-need.ensures c.further_on-last.ensures in
    record { valid = walked.rows.valid; on_day = walked.rows.on; before_bound = walked.rows.least }

pub put_row-requires : goal.put_row-requires
put_row-requires c =
    let walked = filling_along c.loop-out.invariant c.days_alike-days.ensures c.need_after-need.ensures c.further_on-last.ensures in
    let room = filling_room walked c.row_of.ensures in
    record { at_in_bounds = room.0; le_efficiency = room.1 }

pub returns-then-n-last : goal.returns-then-n-last
returns-then-n-last c =
    let walked = filling_along c.loop-out.invariant c.days_alike-days.ensures c.need_after-need.ensures c.further_on-last.ensures in
    filling_end walked c.if-n-last.true c.row_of.ensures c.put_row.ensures

pub further_on-t-requires : goal.further_on-t-requires
further_on-t-requires c =
    let walked = filling_along c.loop-out.invariant c.days_alike-days.ensures c.need_after-need.ensures c.further_on-last.ensures in
    record { valid = walked.rows.valid; on_day = walked.rows.on; days_le_left = c.if-last-gt0.true }

pub next_day-next-requires : goal.next_day-next-requires
next_day-next-requires c =
    let walked = filling_along c.loop-out.invariant c.days_alike-days.ensures c.need_after-need.ensures c.further_on-last.ensures in
    record { valid = walked.rows.valid; on_day = walked.rows.on }

pub crop_need-first-requires : goal.crop_need-first-requires
crop_need-first-requires c =
    let w = walked c in
    let on = day_after c in
    record { valid = w.rows.valid; on_day = next_on w.rows c.if-n-last.false on }

pub overflow_add-need-then-same_decade : goal.overflow_add-need-then-same_decade
overflow_add-need-then-same_decade c =
    let w = walked ((goal.at.overflow_add-need-then-same_decade c).Joined-last-gt0) in
    let on = day_after ((goal.at.overflow_add-need-then-same_decade c).Joined-last-gt0) in
    let r = w.rows in
    record { fits = omega (arith, need_small r, more_at_most r c.if-n-last.false on c.crop_need-first.ensures) }

pub loop-out-smaller-then-same_decade : goal.loop-out-smaller-then-same_decade
loop-out-smaller-then-same_decade c = fewer ((goal.at.loop-out-smaller-then-same_decade c).Joined-last-gt0)

pub loop-out-preserved-then-same_decade : goal.loop-out-preserved-then-same_decade
loop-out-preserved-then-same_decade c =
    let w = walked ((goal.at.loop-out-preserved-then-same_decade c).Joined-last-gt0) in
    let on = day_after ((goal.at.loop-out-preserved-then-same_decade c).Joined-last-gt0) in
    filling_same w c.if-n-last.false on c.crop_need-first.ensures (rw (← c.same_decade.ensures) c.if-same_decade.true)

pub row_of-requires-else-same_decade : goal.row_of-requires-else-same_decade
row_of-requires-else-same_decade c =
    let w = walked ((goal.at.row_of-requires-else-same_decade c).Joined-last-gt0) in
    record { valid = w.rows.valid; on_day = w.rows.on; before_bound = w.rows.least }

pub put_row-requires-else-same_decade : goal.put_row-requires-else-same_decade
put_row-requires-else-same_decade c =
    let w = walked ((goal.at.put_row-requires-else-same_decade c).Joined-last-gt0) in
    let room = filling_room w c.row_of-else-same_decade.ensures in
    record { at_in_bounds = room.0; le_efficiency = room.1 }

pub overflow_add-at : goal.overflow_add-at
overflow_add-at c =
    let w = walked ((goal.at.overflow_add-at c).Joined-last-gt0) in
    record { fits = omega (arith, (rows_many w.rows).2) }

pub rain_before-before-requires-else-same_decade : goal.rain_before-before-requires-else-same_decade
rain_before-before-requires-else-same_decade c =
    let w = walked ((goal.at.rain_before-before-requires-else-same_decade c).Joined-last-gt0) in
    let on = day_after ((goal.at.rain_before-before-requires-else-same_decade c).Joined-last-gt0) in
    record { valid = w.rows.valid; on_day = next_on w.rows c.if-n-last.false on }

pub loop-out-smaller : goal.loop-out-smaller
loop-out-smaller c = fewer ((goal.at.loop-out-smaller c).Joined-last-gt0)

pub loop-out-preserved : goal.loop-out-preserved
loop-out-preserved c =
    let w = walked ((goal.at.loop-out-preserved c).Joined-last-gt0) in
    let on = day_after ((goal.at.loop-out-preserved c).Joined-last-gt0) in
    filling_new w c.if-n-last.false on c.crop_need-first.ensures (rw (← c.same_decade.ensures) c.if-same_decade.false) c.rain_before-before-else-same_decade.ensures c.row_of-else-same_decade.ensures c.put_row-else-same_decade.ensures
