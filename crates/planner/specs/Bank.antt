-- Document 02, T-10: blocks planned one after another on one pump, which feeds at most m valves on a day. A place j of a plan is the j-th
-- day after d, the open day that all blocks have.
use Rattle.std.specs.Prelude.{ℕ, ◌+◌, ◌-◌, ◌&&◌, true, false, List, [], ◌∷◌, ltb, length, get_or}
use Rattle.season.specs.declared.Season.{Season}
use Rattle.planner.specs.Answer.{Planned, Refused, answer_to}
use Rattle.planner.specs.Choices.{Outlook, irrigated}
use Rattle.planner.specs.Plan.{Plan, depths, refused, plan}
use Rattle.planner.specs.Outlook.{outlook, days_left}

-- How many of these plans have a depth above 0 at place j. Past a plan's end it is 0.
unfoldable pub watering : List (List ℕ) → ℕ → ℕ
watering [] j = 0
watering (xs ∷ ps) j = irrigated (get_or xs j 0 ∷ []) + watering ps j

-- As o, but a day on which m valves are used is no turn day: used i valves are taken on day i.
abbrev pub leaving : ℕ → (ℕ → ℕ) → Outlook → Outlook
leaving m used o = record { water = o.water; need = o.need; ready = o.ready; turn = λ i. o.turn i && ltb (used i) m }

-- What planning reads of a block: what its days bring, how many are left, and the depletion at the start of the open day.
pub record Ask : Type 0 where
  pub outlook : Outlook
  pub days : ℕ
  pub depletion : ℕ

-- The depths given: a block that is refused takes no valve.
abbrev pub given : Plan → List ℕ
given (depths xs) = xs
given (refused f) = []

-- A block's plan by itself, and behind the plans ps.
abbrev pub plan_alone : ℕ → Ask → Plan
plan_alone d a = plan a.outlook a.days d a.depletion

abbrev pub plan_behind : ℕ → ℕ → List (List ℕ) → Ask → Plan
plan_behind m d ps a = plan (leaving m (λ i. watering ps (i - d)) a.outlook) a.days d a.depletion

-- The blocks in the order given, each behind ps and the plans before it.
unfoldable pub bank_plans : ℕ → ℕ → List (List ℕ) → List Ask → List Plan
bank_plans m d ps [] = []
bank_plans m d ps (a ∷ rest) = plan_behind m d ps a ∷ bank_plans m d (given (plan_behind m d ps a) ∷ ps) rest

-- ---- of a season and its ledger, by the valves used

-- `used` has the valves taken on each day from the open day on; past its end none are.
abbrev pub outlook_left : Season → ℕ → ℕ → List ℕ → ℕ → Outlook
outlook_left s today waiting used m = leaving m (λ i. get_or used (i - today) 0) (outlook s today waiting)

-- The answer on the turn days left, as `answer` is on all.
unfoldable pub answer_left : Season → ℕ → ℕ → ℕ → List ℕ → ℕ → List ℕ → Planned × List ℕ
answer_left s today D waiting used m l =
    elim (ltb (length l) (days_left s today)) [
      | true ↦ (Refused 15 0, l)
      | false ↦ answer_to s.efficiency l (plan (outlook_left s today waiting used m) (days_left s today) today D)
    ]
