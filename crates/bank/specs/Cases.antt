-- A bank of the small sheet (document 02, T-10): left, what the definition answers; right, what the request's rule gives, worked by hand.
use Rattle.std.specs.Prelude.{ℕ, List, [], ◌∷◌, ◌++◌, replicate}
use Rattle.verdict.specs.Refusals.{Verdict, numbers_of}
use Rattle.sheet.specs.Numbers.{written}
use Rattle.sheet.specs.Cases.{small_climate, small_block}
use Rattle.bank.specs.Banks.{banked}

-- The verdict's numbers, the answers, and the depths.
abbrev shown : Verdict × List ℕ × List ℕ → List ℕ
shown a = numbers_of a.0 ++ a.1 ++ a.2

-- Four blocks with turns 127, blank journals of 8 bytes, parts of 5 sevens, limit 1.
abbrev small : List ℕ
small = written small_block

abbrev three : List ℕ
three = 16 ∷ 8 ∷ 5 ∷ []

abbrev four : List ℕ → List ℕ
four xs = xs ++ xs ++ xs ++ xs

unfoldable pub cases : List (List ℕ × List ℕ)
cases = (
  shown (banked (written small_climate) 4 1 (four three) (four small) (replicate 32 0xFF) (replicate 20 7) (replicate 200 9)),
  0 ∷ 0
      -- Day 3 with 700; days 2 and 4 with 200 and 1,000; then none.
      ∷ 0 ∷ 0 ∷ 1 ∷ 700 ∷ 934
      ∷ 0 ∷ 0 ∷ 2 ∷ 1200 ∷ 1600
      ∷ 16 ∷ 3 ∷ 0 ∷ 0 ∷ 0
      ∷ 16 ∷ 3 ∷ 0 ∷ 0 ∷ 0
      ∷ (replicate 180 9
      ++ (0 ∷ 0 ∷ 700 ∷ 0 ∷ 7
      ∷ 0 ∷ 200 ∷ 0 ∷ 1000 ∷ 7
      ∷ replicate 10 7)),
)
    ∷ []
