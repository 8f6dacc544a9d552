-- The sum is the ramp: what the machine's difference makes is in proofs/Ramp.antt.
use native.Mathlib.Omega.{arith}
use Rattle.season.proofs.Laws.{product}
use Rattle.season.proofs.Ramp.{rise_fits, rise_back, ramp_raising, ramp_raised}
use Rattle.season.proofs.day.sloping_on.Goals as goal

pub overflow_sub-rise : goal.overflow_sub-rise
overflow_sub-rise c = rise_fits c.args.before c.args.after c.requires.0 c.requires.1

pub overflow_mul-before : goal.overflow_mul-before
overflow_mul-before c = record { fits = omega (arith, product c.args.before c.args.days 200 200 c.requires.0 c.requires.2) }

pub raised-requires : goal.raised-requires
raised-requires c = ramp_raising c.args.before c.args.after c.requires.0 c.requires.1 c.args.days c.args.day c.requires.2 c.requires.3

pub returns : goal.returns
returns c = rw (c.raised.ensures, ramp_raised c.args.before c.args.after c.requires.0 c.requires.1, rise_back c.args.before c.args.after c.requires.0 c.requires.1)
