-- What is proved of this crate's definitions. `claims`, in proofs/Claims.antt, has a proof of each field.
use Rattle.std.specs.Prelude.{ℕ, ◌+◌, ◌*◌, ◌≤◌, ◌<◌, ◌≡◌, true, ◌&&◌, ◌||◌, List, map, Float}
use Rattle.std.specs.Float.Ieee.Positive.{num, den}
use Rattle.probes.specs.declared.Probe.{Probe}
use Rattle.probes.specs.Contents.{is_content, ten_thousandths, reading_of, is_wrong, is_nothing, wrong_content, no_content}
use Rattle.probes.specs.Depletion.{measured}
use Rattle.probes.specs.Cases.{cases}

pub record Claims : Type 0 where
  -- v / 10,000 is at most the exact value, but for its sign, and (v + 1) / 10,000 is above it.
  pub greatest : (x : Float) → (ten_thousandths x * den x ≤ num x * 10000) × (num x * 10000 < (ten_thousandths x + 1) * den x)
  -- A content has at most 10,000 ten-thousandths.
  pub content_at_most : (x : Float) → is_content x ≡ true → ten_thousandths x ≤ 10000
  -- A reading is wrong exactly where either probe's content is, and nothing exactly where neither has one.
  pub wrong_either : (shallow deep : Probe) → is_wrong (reading_of shallow deep) ≡ (wrong_content shallow || wrong_content deep)
  pub nothing_neither : (shallow deep : Probe) → is_nothing (reading_of shallow deep) ≡ (no_content shallow && no_content deep)
  -- Measured depletion is at most T.
  pub measured_at_most : (f v z t : ℕ) → measured f v z t ≤ t
  -- The cases.
  pub cases_hold : map (λ (c : List ℕ × List ℕ). c.0) cases ≡ map (λ (c : List ℕ × List ℕ). c.1) cases
