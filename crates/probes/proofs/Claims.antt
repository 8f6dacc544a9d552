-- The proofs of `specs/Claims.antt`, in its order.
use mathlib.Core.Path.{refl}
use native.Mathlib.Omega.{arith}
use lib.Ieee.{of_bits, le}
use Rattle.probes.specs.Contents.{is_content, ten_thousandths, content_of}
use Rattle.probes.specs.Depletion.{measured}
use Rattle.probes.specs.Cases.{cases}
use Rattle.probes.specs.Claims.{Claims}
use Rattle.probes.proofs.Bits.{greatest, at_most_ten_thousand}
use Rattle.probes.proofs.Readings.{wrong_either, nothing_neither}

pub claims : Claims
unfolding cases content_of is_content ten_thousandths measured le of_bits
claims = record {
  greatest = greatest;
  content_at_most = at_most_ten_thousand;
  wrong_either = wrong_either;
  nothing_neither = nothing_neither;
  measured_at_most = λ f v z t. omega arith;
  cases_hold = refl;
}
