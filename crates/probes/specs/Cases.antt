-- Contents by their bit patterns. Left, what the definitions answer; right, the numbers, worked by hand.
use Rattle.std.specs.Prelude.{ℕ, List, [], ◌∷◌}
use Rattle.std.specs.Float.{binary32}
use Rattle.std.specs.Float.Ieee.{of_bits}
use Rattle.probes.specs.Contents.{Reading, Content, Wrong, Nothing, content_of}
use Rattle.probes.specs.Depletion.{measured}

-- The refusal's number, or 0 and the content.
abbrev pub numbers_of : Reading → List ℕ
numbers_of (Content v) = 0 ∷ v ∷ []
numbers_of Wrong = 18 ∷ []
numbers_of Nothing = 19 ∷ []

abbrev answer : ℕ → List ℕ
answer bits = numbers_of (content_of (of_bits binary32 bits))

unfoldable pub cases : List (List ℕ × List ℕ)
cases =
    -- 0, -0, 1, 0.5, 0.25
    (answer 0x0000_0000, 0 ∷ 0 ∷ [])
    ∷ (answer 0x8000_0000, 0 ∷ 0 ∷ [])
    ∷ (answer 0x3f80_0000, 0 ∷ 10000 ∷ [])
    ∷ (answer 0x3f00_0000, 0 ∷ 5000 ∷ [])
    ∷ (answer 0x3e80_0000, 0 ∷ 2500 ∷ [])
    -- 0.3 as an f32 is above 0.3; 0.35 and 0.7 are below; the last below 1
    ∷ (answer 0x3e99_999a, 0 ∷ 3000 ∷ [])
    ∷ (answer 0x3eb3_3333, 0 ∷ 3499 ∷ [])
    ∷ (answer 0x3f33_3333, 0 ∷ 6999 ∷ [])
    ∷ (answer 0x3f7f_ffff, 0 ∷ 9999 ∷ [])
    -- 0.0001 as an f32 is below it; the next one above
    ∷ (answer 0x38d1_b717, 0 ∷ 0 ∷ [])
    ∷ (answer 0x38d1_b718, 0 ∷ 1 ∷ [])
    -- the least normal, a subnormal
    ∷ (answer 0x0080_0000, 0 ∷ 0 ∷ [])
    ∷ (answer 0x0000_0001, 0 ∷ 0 ∷ [])
    -- above 1, an infinity, -infinity, two NaNs, below 0, the least below 0
    ∷ (answer 0x3f80_0001, 18 ∷ [])
    ∷ (answer 0x7f80_0000, 18 ∷ [])
    ∷ (answer 0xff80_0000, 18 ∷ [])
    ∷ (answer 0x7fc0_0000, 18 ∷ [])
    ∷ (answer 0x7fa0_0000, 18 ∷ [])
    ∷ (answer 0xbf00_0000, 18 ∷ [])
    ∷ (answer 0x8000_0001, 18 ∷ [])
    -- f 3,000, v 2,500, Z 100: 5,000; at most T; v above f
    ∷ (measured 3000 2500 100 12000 ∷ measured 3000 2500 100 4000 ∷ measured 2500 3000 100 12000 ∷ [], 5000 ∷ 4000 ∷ 0 ∷ [])
    ∷ []
