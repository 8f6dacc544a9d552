-- Document 02, T-09: who may look, record and mend. A role is a number: 1 looks, 2 also enters rain, irrigation and closings, 3 is also
-- handed the mending stores of an opening. Cited by the book and by the calls.
use Rattle.std.specs.Prelude.{ℕ, Bool, ◌||◌, List, [], ◌∷◌, ◌++◌, ltb, eqb}
use Rattle.verdict.specs.Refusals.{Accepted, Refused, first_of}

-- A refusal's test, its number, and the number returned with it.
abbrev pub Line : Type 0
Line = Bool × ℕ × ℕ

-- Every call: 20, a role outside 1 to 3.
unfoldable pub look_lines : ℕ → List Line
look_lines role = (ltb role 1 || ltb 3 role, 20, 0) ∷ []

-- Rain, irrigation and close: then 21, role 1.
unfoldable pub enter_lines : ℕ → List Line
enter_lines role = look_lines role ++ ((eqb role 1, 21, 0) ∷ [])

abbrev pub may_mend : ℕ → Bool
may_mend role = eqb role 3

-- The first of the lines that applies refuses; else the answer.
unfoldable pub by_role : {A : Type 0} → List Line → (ℕ → ℕ → A) → A → A
by_role lines refuse reply = elim (first_of Accepted lines) [ Accepted ↦ reply | Refused number value ↦ refuse number value ]
