-- Document 02, T-07: a probe's water content, by the exact value of its f32. That is, but for the sign, `num` / `den` in the logic's IEEE 754; a content
-- with a sign is negative zero.
use Rattle.std.specs.Prelude.{ℕ, ◌+◌, ◌*◌, ◌/◌, Bool, true, false, not, ◌&&◌, cond, pos, Float, Result, Ok, Err}
use Rattle.std.specs.Float.{fin}
use Rattle.std.specs.Float.Ieee.{le}
use Rattle.std.specs.Float.Ieee.Positive.{num, den}
use Rattle.probes.specs.declared.Probe.{Probe}
use Rattle.probes.specs.declared.Probe.TheVariants.{Water, Low, Silent}
use Rattle.probes.specs.declared.Pair.{Pair}
use Rattle.probes.specs.declared.NoContent.{NoContent}
use Rattle.probes.specs.declared.NoContent.TheVariants as missing

-- What the probes say: a content; one that is no number from 0 to 1 (refusal 18); none (refusal 19).
pub data Reading : Type 0 where
  Content : ℕ → Reading
  Wrong : Reading
  Nothing : Reading

-- 0 and 1. Negative zero is equal to 0.
abbrev pub none : Float
none = fin false 0 (pos 0)

abbrev pub whole : Float
whole = fin false 1 (pos 0)

-- A number from 0 to 1.
unfoldable pub is_content : Float → Bool
is_content x = le none x && le x whole

-- The greatest whole v with v / 10,000 at most the exact value.
unfoldable pub ten_thousandths : Float → ℕ
ten_thousandths x = num x * 10000 / den x

unfoldable pub content_of : Float → Reading
content_of x = cond (is_content x) (Content (ten_thousandths x)) Wrong

-- The floor of the mean of two contents. One that is no number from 0 to 1 is at fault wherever it stands.
unfoldable pub pair_of : Pair → Reading
pair_of p =
    cond (is_content p.shallow && is_content p.deep) (Content ((ten_thousandths p.shallow + ten_thousandths p.deep) / 2)) Wrong

abbrev pub pair_is : Float → Float → Pair
pair_is x y = record { shallow = x; deep = y }

-- One probe. A low or a silent one has no content.
abbrev pub single_of : Probe → Reading
single_of (Water x) = content_of x
single_of (Low u) = Nothing
single_of Silent = Nothing

-- Both contents, or the one there is.
unfoldable pub reading_of : Probe → Probe → Reading
reading_of (Water x) (Water y) = pair_of (pair_is x y)
reading_of (Water x) (Low u) = single_of (Water x)
reading_of (Water x) Silent = single_of (Water x)
reading_of (Low u) deep = single_of deep
reading_of Silent deep = single_of deep

-- What a reading is: wrong, nothing, or a content; 0 stands for one that there is not.
abbrev pub is_wrong : Reading → Bool
is_wrong (Content v) = false
is_wrong Wrong = true
is_wrong Nothing = false

abbrev pub is_nothing : Reading → Bool
is_nothing (Content v) = false
is_nothing Wrong = false
is_nothing Nothing = true

abbrev pub content_in : Reading → ℕ
content_in (Content v) = v
content_in Wrong = 0
content_in Nothing = 0

-- In document 02's words: a probe's content that is no number from 0 to 1; no content from a probe.
abbrev pub wrong_content : Probe → Bool
wrong_content (Water x) = not (is_content x)
wrong_content (Low u) = false
wrong_content Silent = false

abbrev pub no_content : Probe → Bool
no_content (Water x) = false
no_content (Low u) = true
no_content Silent = true

-- ---- the type of the code

-- What a result says.
abbrev pub reading_in : Result ℕ NoContent → Reading
reading_in (Ok v) = Content v
reading_in (Err missing.Wrong) = Wrong
reading_in (Err missing.Nothing) = Nothing
