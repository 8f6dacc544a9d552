-- Edges of numbers in groups that are not in document 01. Left, what the definitions answer; right, what its rules give.
use Rattle.std.specs.Prelude.{ℕ, List, [], ◌∷◌}
use Rattle.leb128.specs.Groups.{encode}
use Rattle.leb128.specs.Forms.{decode, numbers_of}

unfoldable pub edges : List (List ℕ × List ℕ)
edges =
    -- 0 takes one byte; a third byte of 80 is refused 2; a number that is not whole; bytes behind a number
    (encode 0, 0x00 ∷ [])
    ∷ (numbers_of (decode (0xff ∷ 0xff ∷ 0x80 ∷ [])), 2 ∷ 2 ∷ [])
    ∷ (numbers_of (decode (0xff ∷ 0xff ∷ [])), 1 ∷ [])
    ∷ (numbers_of (decode (0xc0 ∷ 0xa9 ∷ 0x07 ∷ 0xff ∷ [])), 0 ∷ 120000 ∷ 3 ∷ [])
    ∷ []
