-- What the code that reads answers, as what the definitions say: a count with a lent buffer, or a refusal.
use Rattle.std.specs.Prelude.{ℕ, List, take, Result, Ok, Err}
use Rattle.verdict.specs.declared.Refusal.{Refusal}
use Rattle.verdict.specs.Refusals.{Accepted, by_result}
use Rattle.sheet.specs.Numbers.{Numbers, numbers_are, none}

-- A sheet's numbers: the first `count` of the buffer.
abbrev pub numbers_by : ℕ → List ℕ → Result ℕ Refusal → Numbers
numbers_by least fields = by_result (λ count. numbers_are (take count fields) Accepted) (none least)

abbrev pub count_of : Result ℕ Refusal → ℕ
count_of (Ok count) = count
count_of (Err r) = 0
