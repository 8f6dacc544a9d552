-- What is proved of the plan's definitions. `make_plan` answers `answer`, so that these speak of the program. `claims`, in
-- proofs/Claims.antt, has a proof of each field.
use Rattle.std.specs.Prelude.{◌≡◌, ◌↔◌, ◌⊎◌, List, [], map, ℕ, ◌+◌, ◌*◌, ◌≤◌, ◌<◌, length, take, drop}
use Rattle.season.specs.declared.Season.{Season}
use Rattle.season.specs.declared.Net.{Net}
use Rattle.season.specs.declared.Gross.{Gross}
use Rattle.season.specs.Sheet.{Valid, DayOf, longest_season}
use Rattle.season.specs.Depths.{net_is, gross_of}
use Rattle.planner.specs.Answer.{Planned, Made, Refused, sum, numbers_of, answer}
use Rattle.planner.specs.Choices.{Outlook, irrigated, NoMore, Holds, Best, FirstLost, NoChoice}
use Rattle.planner.specs.Plan.{depths, refused, plan}
use Rattle.planner.specs.Outlook.{outlook, days_left}
use Rattle.planner.specs.Bank.{watering, Ask, given, plan_alone, bank_plans}

-- What a plan made for a season and its ledger leaves in the buffer, l at first and m in the end, and answers.
pub record MadeRight (s : Season) (today D waiting : ℕ) (l m : List ℕ) (days net gross : ℕ) : Type 0 where
  pub best : Best (outlook s today waiting) (days_left s today) today D (take (days_left s today) m)
  pub beyond : drop (days_left s today) m ≡ drop (days_left s today) l
  pub count : days ≡ irrigated (take (days_left s today) m)
  pub net_total : net ≡ sum (take (days_left s today) m)
  pub gross_total : gross ≡ (gross_of s.efficiency (net_is net)).0

-- The answers that can occur: a refusal is 15 or 16.
abbrev pub Occurs : Planned → Type 0
Occurs (Made days net gross) = Unit {0}
Occurs (Refused number value) = (number ≡ 15) ⊎ (number ≡ 16)

pub record Claims : Type 0 where
  -- A plan is refused exactly when no choice holds.
  pub refused_iff : (o : Outlook) (k d D : ℕ) → ((f : ℕ) × (plan o k d D ≡ refused f)) ↔ NoChoice o k d D
  -- It is refused with the first day that no choice holds.
  pub refused_first : (o : Outlook) (k d D f : ℕ) → plan o k d D ≡ refused f → FirstLost o k d D f
  -- A plan made holds, fills, and up to each day has no more irrigated days than any choice that holds.
  pub made_best : (o : Outlook) (k d D : ℕ) (xs : List ℕ) → plan o k d D ≡ depths xs → Best o k d D xs
  -- Where a choice holds a plan is made.
  pub choice_planned : (o : Outlook) (k d D : ℕ) (ys : List ℕ) → length ys ≡ k → Holds o d D ys → (xs : List ℕ) × (plan o k d D ≡ depths xs) × NoMore xs ys
  -- There is one best choice: the plan is the only list that holds and fills with the fewest irrigated days up to each day.
  pub best_one : (o : Outlook) (k d D : ℕ) (xs ys : List ℕ) → Best o k d D xs → Best o k d D ys → xs ≡ ys
  -- The answer is refusal 15 exactly when the buffer has fewer numbers than days are left: 15 comes before 16.
  pub answer_short_iff : (s : Season) (today D waiting : ℕ) (l : List ℕ) → (answer s today D waiting l ≡ (Refused 15 0, l)) ↔ (length l < days_left s today)
  -- In a buffer that is long enough it is refusal 16 exactly when no choice holds.
  pub answer_refused_iff : (s : Season) (today D waiting : ℕ) (l : List ℕ) → days_left s today ≤ length l
      → ((f : ℕ) × (answer s today D waiting l ≡ (Refused 16 f, l))) ↔ NoChoice (outlook s today waiting) (days_left s today) today D
  -- Refusal 16 carries the first day that no choice holds.
  pub answer_refused_first : (s : Season) (today D waiting f : ℕ) (l m : List ℕ) → answer s today D waiting l ≡ (Refused 16 f, m)
      → FirstLost (outlook s today waiting) (days_left s today) today D f
  -- A refusal leaves the whole buffer as it was.
  pub answer_refused_keeps : (s : Season) (today D waiting number value : ℕ) (l m : List ℕ) → answer s today D waiting l ≡ (Refused number value, m) → m ≡ l
  -- A plan made is the best choice, counted and totalled, and what stands beyond it stays.
  pub answer_made_right : (s : Season) (today D waiting days : ℕ) (net : Net) (gross : Gross) (l m : List ℕ) → answer s today D waiting l ≡ (Made days net gross, m)
      → MadeRight s today D waiting l m days net.0 gross.0
  -- The totals fit a u32: at most the depletion at first and 3,000 a day, and a hundred times that.
  pub totals_fit : (s : Season) (today D waiting days : ℕ) (net : Net) (gross : Gross) (l m : List ℕ) → Valid s → DayOf s today → D ≤ 120000
      → answer s today D waiting l ≡ (Made days net gross, m) → (net.0 ≤ 120000 + 3000 * longest_season) × (gross.0 ≤ 100 * (120000 + 3000 * longest_season))
  -- Blocks on one pump (document 02, T-10): on no day do more than m of them water; and at most m blocks plan each as if alone.
  pub bank_limit : (m d : ℕ) (asks : List Ask) (j : ℕ) → watering (map given (bank_plans m d [] asks)) j ≤ m
  pub bank_alone : (m d : ℕ) (asks : List Ask) → length asks ≤ m → bank_plans m d [] asks ≡ map (plan_alone d) asks
  -- Different answers have different numbers, and the answers given are those that can occur.
  pub numbers_one_to_one : (a b : Planned) → numbers_of a ≡ numbers_of b → a ≡ b
  pub answer_occurs : (s : Season) (today D waiting : ℕ) (l : List ℕ) → Occurs (answer s today D waiting l).0
