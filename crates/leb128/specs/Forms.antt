-- Document 01, 'The season sheet' and refusals 1 and 2: what stands at the start of some bytes. Places are counted from 0.
use Rattle.std.specs.Prelude.{ℕ, ◌+◌, ◌*◌, ◌-◌, ◌%◌, List, [], ◌∷◌, ◌++◌, true, false, ◌&&◌, ltb, eqb, replicate, Result, Ok, Err}
use Rattle.leb128.specs.declared.Decoded.{Decoded}
use Rattle.leb128.specs.declared.NoNumber.{NoNumber}
use Rattle.leb128.specs.declared.NoNumber.TheVariants as none
use Rattle.leb128.specs.declared.Groups.{Groups}
use Rattle.leb128.specs.Groups.{group_count, encode}

-- What stands at the start of some bytes: a number and how many bytes it takes; they end inside the number; or the place of the first byte that no
-- number has there.
pub data Number : Type 0 where
  Whole : ℕ → ℕ → Number
  Short : Number
  Bad : ℕ → Number

-- A group put below what the bytes behind it give.
unfoldable pub below : ℕ → Number → Number
below low (Whole v k) = Whole (low + 128 * v) k
below low Short = Short
below low (Bad p) = Bad p

-- The number whose next byte stands at place i. A byte below 128 ends it, but not a 0 after others; any other says that more follow, but
-- not the third.
unfoldable pub decode_from : ℕ → List ℕ → Number
decode_from i [] = Short
decode_from i (b ∷ bs) =
    elim (ltb b 128) [
      | true ↦ elim (eqb b 0 && ltb 0 i) [ true ↦ Bad i | false ↦ Whole b (i + 1) ]
      | false ↦ elim (ltb i 2) [ true ↦ below (b - 128) (decode_from (i + 1) bs) | false ↦ Bad i ]
    ]

unfoldable pub decode : List ℕ → Number
decode bytes = decode_from 0 bytes

-- The number that the groups of three bytes make, lowest first.
abbrev pub joined_of : ℕ → ℕ → ℕ → ℕ
joined_of a b c = a % 128 + 128 * (b % 128) + 16384 * (c % 128)

-- The refusal's number, 1 or 2, and the offending byte's place in 2; of a whole number 0, its value and how many bytes it takes.
abbrev pub numbers_of : Number → List ℕ
numbers_of (Whole v k) = 0 ∷ v ∷ k ∷ []
numbers_of Short = 1 ∷ []
numbers_of (Bad p) = 2 ∷ p ∷ []

-- The bytes of n with zeros behind them, five in all, and how many they are.
unfoldable pub groups_of : ℕ → Groups
groups_of n = record { bytes = encode n ++ replicate (5 - group_count n) 0; count = group_count n }

-- What a result of the code says.
abbrev pub number_in : Result Decoded NoNumber → Number
number_in (Ok d) = Whole d.number d.length
number_in (Err none.Short) = Short
number_in (Err (none.Bad p)) = Bad p
