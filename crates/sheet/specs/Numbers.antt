-- Document 01, 'The season sheet': numbers, one after another, and where bytes follow them one more (document 02, T-06); refusals 1 to 3. Of a sheet of
-- any count: a climate's or a block's (T-08).
use Rattle.std.specs.Prelude.{ℕ, zero, suc, ◌+◌, List, [], ◌∷◌, ◌++◌, true, false, cond, ltb, length, drop, replicate}
use Rattle.leb128.specs.Forms.{Whole, Short, Bad, decode}
use Rattle.leb128.specs.Groups.{encode}
use Rattle.verdict.specs.Refusals.{Verdict, Accepted, Refused}

-- A run of numbers: their values and the place after them, or a refusal.
pub data Run : Type 0 where
  run : List ℕ → ℕ → Run
  stop : ℕ → ℕ → Run

unfoldable pub before : ℕ → Run → Run
before v (run vs at) = run (v ∷ vs) at
before v (stop number place) = stop number place

-- The numbers from place at on, `count` of them. Refusal 1 has the sheet's length, 2 the offending byte's place.
unfoldable pub numbers : ℕ → ℕ → List ℕ → Run
numbers zero at s = run [] at
numbers (suc count) at s =
    elim (decode (drop at s)) [
      | Whole v n ↦ before v (numbers count (at + n) s)
      | Short ↦ stop 1 (length s)
      | Bad p ↦ stop 2 (at + p)
    ]

-- The values vs, and then a run's.
unfoldable pub after : List ℕ → Run → Run
after vs (run ws at) = run (vs ++ ws) at
after vs (stop number place) = stop number place

-- Where bytes follow a run they are read as `extra` numbers more.
unfoldable pub further : ℕ → List ℕ → Run → Run
further extra s (run vs at) = elim (ltb at (length s)) [ true ↦ after vs (numbers extra at s) | false ↦ run vs at ]
further extra s (stop number place) = stop number place

-- A sheet's numbers, as they stand, and what refusals 1 to 3 say of it.
pub record Numbers : Type 0 where
  pub fields : List ℕ
  pub verdict : Verdict

abbrev pub numbers_are : List ℕ → Verdict → Numbers
numbers_are f v = record { fields = f; verdict = v }

-- Refused by 1, 2 or 3: the least count of numbers, all 0.
abbrev pub none : ℕ → ℕ → ℕ → Numbers
none least number value = numbers_are (replicate least 0) (Refused number value)

-- Refusal 3 has the first extra byte's place.
unfoldable pub ended : ℕ → List ℕ → Run → Numbers
ended least s (run vs at) = cond (ltb at (length s)) (none least 3 at) (numbers_are vs Accepted)
ended least s (stop number place) = none least number place

-- A least count of numbers, and where bytes follow them `extra` more.
unfoldable pub numbers_in : ℕ → ℕ → List ℕ → Numbers
numbers_in least extra s = ended least s (further extra s (numbers least 0 s))

-- The sheet of some numbers.
unfoldable pub written : List ℕ → List ℕ
written [] = []
written (v ∷ vs) = encode v ++ written vs
