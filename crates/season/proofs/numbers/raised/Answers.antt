-- What each of the machine's steps makes is in proofs/Raised.antt.
use mathlib.Core.Path.{ap}
use lib.IntN.{nat_abs}
use Rattle.season.proofs.Raised.{grown_fits, sum_fits, cast_back, sum_back}
use Rattle.season.proofs.numbers.raised.Goals as goal

pub overflow_mul-result : goal.overflow_mul-result
overflow_mul-result c = grown_fits c.ranges.rise c.requires

pub overflow_add-result : goal.overflow_add-result
overflow_add-result c = sum_fits c.ranges.rise c.requires

pub overflow_cast-result-3 : goal.overflow_cast-result-3
overflow_cast-result-3 c = cast_back c.ranges.rise c.requires

pub returns : goal.returns
returns c = ap nat_abs (sum_back c.ranges.rise c.requires)
