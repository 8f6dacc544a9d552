-- Document 01, 'The plan': the totals, and the answer with the lent buffer.
use Rattle.std.specs.Prelude.{true, false, List, [], ◌∷◌, ◌++◌, ℕ, ◌+◌, ltb, length, drop, Result, Ok, Err}
use Rattle.verdict.specs.declared.Refusal.{Refusal}
use Rattle.verdict.specs.Refusals.{by_result}
use Rattle.season.specs.declared.Season.{Season}
use Rattle.season.specs.declared.Net.{Net}
use Rattle.season.specs.declared.Gross.{Gross}
use Rattle.season.specs.Depths.{net_is, gross_of}
use Rattle.planner.specs.declared.Totals.{Totals}
use Rattle.planner.specs.Choices.{irrigated}
use Rattle.planner.specs.Outlook.{outlook, days_left}
use Rattle.planner.specs.Plan.{Plan, depths, refused, plan}

-- The net total.
unfoldable pub sum : List ℕ → ℕ
sum [] = 0
sum (x ∷ xs) = x + sum xs

abbrev pub net_of : List ℕ → Net
net_of xs = net_is (sum xs)

-- What the program's draft stands for, with the depths that it made; the error is the day that no choice holds.
abbrev pub settles : Result (Unit {0}) ℕ → List ℕ → Plan
settles (Ok x) xs = depths xs
settles (Err f) xs = refused f

-- What planning answers: how many days are irrigated, the net and the gross total; or a refusal with its number and the number returned with it.
pub data Planned : Type 0 where
  Made : ℕ → Net → Gross → Planned
  Refused : ℕ → ℕ → Planned

-- An answer's numbers: 0 and 0 where it is no refusal, how many days are irrigated, the net and the gross total; or the refusal's number
-- and the number returned with it.
abbrev pub numbers_of : Planned → List ℕ
numbers_of (Made days net gross) = 0 ∷ 0 ∷ days ∷ net.0 ∷ gross.0 ∷ []
numbers_of (Refused number value) = number ∷ value ∷ []

-- The answer to a plan, and the lent buffer l after it: a depth for each remaining day, and what stood beyond. The gross total is taken
-- once on the net total.
unfoldable pub answer_to : ℕ → List ℕ → Plan → Planned × List ℕ
answer_to e l (depths xs) = (Made (irrigated xs) (net_of xs) (gross_of e (net_of xs)), xs ++ drop (length xs) l)
answer_to e l (refused f) = (Refused 16 f, l)

-- The plan from the open day to the season's end, starting at D: refusal 15 where l has fewer numbers than days are left, else the plan.
unfoldable pub answer : Season → ℕ → ℕ → ℕ → List ℕ → Planned × List ℕ
answer s today D waiting l =
    elim (ltb (length l) (days_left s today)) [
      | true ↦ (Refused 15 0, l)
      | false ↦ answer_to s.efficiency l (plan (outlook s today waiting) (days_left s today) today D)
    ]

-- What a result of the code says.
abbrev pub planned_in : Result Totals Refusal → Planned
planned_in = by_result (λ t. Made t.waterings t.net t.gross) Refused
