-- Each round of the loop passes a day; the depths before it stand, but for the latest turn day's (proofs/Loops.antt).
use mathlib.Core.Logic.{inl, inr}
use Prim.Native.Nat.{suc}
use native.Mathlib.Omega.{arith}
use Rattle.season.specs.Carried.{OnDay}
use Rattle.season.proofs.Days.{number_is, on_day}
use Rattle.planner.proofs.Carry.{day_few, coming_grows, coming_rain, coming_along, coming_over}
use Rattle.planner.proofs.Loops.{Drawing, drawing_start, drawing_from, drawing_whole, drawing_next, drawing_fits, drawing_lost, drawing_place, drawing_passed}
use Rattle.planner.proofs.draw_depths.Goals as goal
use Rattle.planner.proofs.draw_depths.Goals.{Joined-ahead-track, then-ahead-track+else-ahead-track-2, else-ahead-track}

pub season_days-last-requires : goal.season_days-last-requires
season_days-last-requires c = c.requires.valid.ranges

pub day_of-first-requires : goal.day_of-first-requires
day_of-first-requires c = record { valid = c.requires.valid; day_of = c.requires.day_of }

pub overflow_sub-t : goal.overflow_sub-t
overflow_sub-t c =
    let first_on : OnDay c.args.s c.day_of-first.result = on_day _ _ _ c.requires.day_of c.day_of-first.ensures in
    (day_few c.requires.valid first_on).0

pub rain_to-before-requires : goal.rain_to-before-requires
rain_to-before-requires c =
    let first_on : OnDay c.args.s c.day_of-first.result = on_day _ _ _ c.requires.day_of c.day_of-first.ensures in
    let d = day_few c.requires.valid first_on in
    record { valid = c.requires.valid; on_day = first_on; d_bound = omega (arith, d.1) }

pub overflow_sub-week : goal.overflow_sub-week
overflow_sub-week c = c.requires.day_of.from

pub loop-track-init : goal.loop-track-init
loop-track-init c = rw c.track_from-track.ensures
    (drawing_start c.args.from.waiting c.args.from.used.now c.args.from.limit c.requires.valid c.requires.day_of c.requires.start_bound c.requires.depths_value c.season_days-last.ensures c.day_of-first.ensures c.rain_to-before.ensures)

pub rain_to-to-requires : goal.rain_to-to-requires
rain_to-to-requires c = let w = c.loop-track.invariant.coming in
    record { valid = w.valid; on_day = w.day; d_bound = (day_few w.valid w.day).1 }

pub overflow_sub-to : goal.overflow_sub-to
overflow_sub-to c = coming_grows c.loop-track.invariant.coming c.rain_to-to.ensures

pub outlook_on-ahead-requires : goal.outlook_on-ahead-requires
outlook_on-ahead-requires c = let w = c.loop-track.invariant.coming in
    record { valid = w.valid; on_day = w.day; today_le_number = drawing_from c.loop-track.invariant; rain_value = coming_rain w c.rain_to-to.ensures; week_value = w.days }

pub pass_day-track-requires : goal.pass_day-track-requires
pass_day-track-requires c = let f = drawing_fits c.loop-track.invariant c.outlook_on-ahead.ensures in
    record { filled_le_depletion = f.0; need_bound = f.1 }

pub returns-then-ahead-track-2 : goal.returns-then-ahead-track-2
returns-then-ahead-track-2 c = drawing_lost c.loop-track.invariant c.outlook_on-ahead.ensures c.pass_day-track.ensures c.if-ahead-track-2.true

pub overflow_sub-place : goal.overflow_sub-place
overflow_sub-place c = (drawing_place c.loop-track.invariant c.outlook_on-ahead.ensures c.pass_day-track.ensures c.if-ahead-track.true c.if-ahead-track-2.false).0

pub overflow_cast-place : goal.overflow_cast-place
overflow_cast-place c = record { fits = omega (arith, (drawing_place c.loop-track.invariant c.outlook_on-ahead.ensures c.pass_day-track.ensures c.if-ahead-track.true c.if-ahead-track-2.false).1) }

pub offset_bounds-depths-place : goal.offset_bounds-depths-place
offset_bounds-depths-place c = record { fits = omega (arith, (drawing_place c.loop-track.invariant c.outlook_on-ahead.ensures c.pass_day-track.ensures c.if-ahead-track.true c.if-ahead-track-2.false).1) }

pub bounds-depths-place : goal.bounds-depths-place
bounds-depths-place c = (drawing_place c.loop-track.invariant c.outlook_on-ahead.ensures c.pass_day-track.ensures c.if-ahead-track.true c.if-ahead-track-2.false).2

pub week_after-week-requires : goal.week_after-week-requires
week_after-week-requires c = omega (arith, c.loop-track.invariant.coming.days)

pub further_on-t-requires : goal.further_on-t-requires
further_on-t-requires c = let w = c.loop-track.invariant.coming in
    record { valid = w.valid; on_day = w.day; days_le_left = c.if-t-gt0.true }

pub loop-track-smaller-then-t-gt0 : goal.loop-track-smaller-then-t-gt0
loop-track-smaller-then-t-gt0 c = let w = c.loop-track.invariant.coming in
    omega (arith, w.season, w.day.of.to, number_is _ _ _ c.further_on-t.ensures)

-- the day is passed
passed : (c : Joined-ahead-track) → Drawing c.args.s c.args.from.today c.args.from.waiting c.args.from.used.now c.args.from.limit c.args.start c.season_days-last.result c.loop-track.t c.loop-track.before c.loop-track.week (suc c.loop-track.t.number) c.if-ahead-track.track c.if-ahead-track.depths
passed c = drawing_passed c.loop-track.invariant c.outlook_on-ahead.ensures c.pass_day-track.ensures
    (elim c.if-ahead-track.branch [ then-ahead-track+else-ahead-track-2 w ↦ inl (w.if-ahead-track.true, w.if-ahead-track-2.false, w.depths-is, w.track-is) | else-ahead-track w ↦ inr (w.if-ahead-track.false, w.depths-is, w.track-is) ])

pub loop-track-preserved-then-t-gt0 : goal.loop-track-preserved-then-t-gt0
loop-track-preserved-then-t-gt0 c =
    drawing_next (passed (goal.at.loop-track-preserved-then-t-gt0 c).Joined-ahead-track) c.further_on-t.ensures
    (coming_along c.loop-track.invariant.coming c.rain_to-to.ensures c.further_on-t.ensures c.week_after-week.ensures c.if-t-gt0.true)

pub returns-then-last-t : goal.returns-then-last-t
returns-then-last-t c =
    drawing_whole (passed (goal.at.returns-then-last-t c).Joined-ahead-track) c.if-last-t.true

pub next_day-next-requires : goal.next_day-next-requires
next_day-next-requires c = let w = c.loop-track.invariant.coming in
    record { valid = w.valid; on_day = w.day }

pub loop-track-smaller : goal.loop-track-smaller
loop-track-smaller c = omega (arith, c.if-last-t.false, number_is _ _ _ c.next_day-next.ensures)

pub loop-track-preserved : goal.loop-track-preserved
loop-track-preserved c =
    drawing_next (passed (goal.at.loop-track-preserved c).Joined-ahead-track) c.next_day-next.ensures
    (coming_over c.loop-track.invariant.coming c.rain_to-to.ensures c.next_day-next.ensures c.week_after-week.ensures c.if-last-t.false c.rain_before-before.ensures)
