-- What is proved of a bank's answer, on bytes. `plan_bank` answers `banked`, so that these speak of the program. `claims`, in proofs/Claims.antt, has a
-- proof of each field.
use Rattle.std.specs.Prelude.{ℕ, zero, suc, ◌-◌, ◌*◌, ◌≤◌, ◌<◌, ◌≡◌, ◌↔◌, ◌⊎◌, cond, List, [], ◌∷◌, map, eqb, length, get_or, take, drop}
use Rattle.verdict.specs.Refusals.{Accepted}
use Rattle.season.specs.declared.Season.{Season}
use Rattle.season.specs.Sheet.{season_days}
use Rattle.season.specs.Depths.{net_is, gross_of}
use Rattle.sheet.specs.Sheets.{sheets_of}
use Rattle.journal.specs.declared.Ledger.{Ledger}
use Rattle.journal.specs.Opening.{Clean, opening}
use Rattle.journal.specs.Entries.{waiting}
use Rattle.planner.specs.Choices.{Outlook, irrigated, Best, FirstLost, NoChoice}
use Rattle.planner.specs.Plan.{Plan}
use Rattle.planner.specs.Outlook.{outlook, days_left}
use Rattle.planner.specs.Answer.{sum}
use Rattle.planner.specs.Bank.{watering, leaving, Ask, bank_plans}
use Rattle.bank.specs.Blocks.{start_of, part_of}
use Rattle.bank.specs.Banks.{Bank, ask_at, plan_at, progress, banked}
use Rattle.bank.specs.Cases.{cases}

-- ---- what stands in the buffers after a bank

-- Block k's five numbers, and the depths that it was given: none where it is refused. A part's numbers are its depths only where the plan is made.
abbrev pub numbers_at : List ℕ → ℕ → List ℕ
numbers_at answers k = take 5 (drop (5 * k) answers)

abbrev pub given_at : (ℕ → Season) → ℕ → List ℕ → List ℕ → List ℕ → ℕ → List ℕ
given_at season d lengths answers depths k = cond (eqb (get_or answers (5 * k) 0) 0) (take (days_left (season k) d) (part_of lengths 2 depths k)) []

-- Of the first k blocks, the latest first.
unfoldable pub given_to : (ℕ → Season) → ℕ → List ℕ → List ℕ → List ℕ → ℕ → List (List ℕ)
given_to season d lengths answers depths zero = []
given_to season d lengths answers depths (suc k) = given_at season d lengths answers depths k ∷ given_to season d lengths answers depths k

-- ---- one block

-- A plan made on outlook o for k days from day d, which starts at D, with efficiency e: what it leaves in its part, l at first and m in the end, and its
-- numbers.
pub record MadeLeft (o : Outlook) (k d D e : ℕ) (l m : List ℕ) (days net gross : ℕ) : Type 0 where
  pub best : Best o k d D (take k m)
  pub beyond : drop k m ≡ drop k l
  pub count : days ≡ irrigated (take k m)
  pub net_total : net ≡ sum (take k m)
  pub gross_total : gross ≡ (gross_of e (net_is net)).0

-- What outlook o, the turn days left, gives a block: refused 16 exactly when no choice on them holds, with the first day that none does, and then its part is
-- as it was; else a plan, which is the best on them.
pub record LeftRight (o : Outlook) (k d D e : ℕ) (l m numbers : List ℕ) : Type 0 where
  pub refused_iff : ((f : ℕ) × (numbers ≡ 16 ∷ f ∷ 0 ∷ 0 ∷ 0 ∷ [])) ↔ NoChoice o k d D
  pub refused_first : (f : ℕ) → numbers ≡ 16 ∷ f ∷ 0 ∷ 0 ∷ 0 ∷ [] → FirstLost o k d D f × (m ≡ l)
  pub answered : ((f : ℕ) × (numbers ≡ 16 ∷ f ∷ 0 ∷ 0 ∷ 0 ∷ [])) ⊎ ((days : ℕ) × (net : ℕ) × (gross : ℕ) × (numbers ≡ 0 ∷ 0 ∷ days ∷ net ∷ gross ∷ []))
  pub given : (days net gross : ℕ) → numbers ≡ 0 ∷ 0 ∷ days ∷ net ∷ gross ∷ [] → MadeLeft o k d D e l m days net gross

-- A block with season s and its journal, behind the plans ps: its journal is clean, day d is open, its part has room, and its answer is right on the turn
-- days that they leave.
pub record BlockRight (s : Season) (area : List ℕ) (limit d : ℕ) (ps : List (List ℕ)) (l m numbers : List ℕ) : Type 0 where
  pub ledger : Ledger
  pub clean : opening s area ≡ Clean ledger
  pub same_day : ledger.day ≡ d
  pub day_open : d ≤ season_days s
  pub room : days_left s d ≤ length l
  pub right : LeftRight (leaving limit (λ i. watering ps (i - d)) (outlook s d (waiting ledger))) (days_left s d) d ledger.depletion s.efficiency l m numbers

-- ---- all of them

-- An accepted bank: the answers and the depths after it.
pub record BankRight (climate : List ℕ) (blocks limit : ℕ) (lengths sheets areas depths answers answers' depths' : List ℕ) : Type 0 where
  -- The open day, which all blocks have.
  pub day : ℕ
  -- Each block is right behind the plans given before it.
  pub each : (k : ℕ) → k < blocks
      → BlockRight (sheets_of climate (part_of lengths 0 sheets k)).season (part_of lengths 1 areas k) limit day
      (given_to (λ i. (sheets_of climate (part_of lengths 0 sheets i)).season) day lengths answers' depths' k)
      (part_of lengths 2 depths k) (part_of lengths 2 depths' k) (numbers_at answers' k)
  -- On no day do more than `limit` blocks water: place j is the j-th day after the open day.
  pub few : (j : ℕ) → watering (given_to (λ i. (sheets_of climate (part_of lengths 0 sheets i)).season) day lengths answers' depths' blocks) j ≤ limit
  -- Behind the last part and the last answer all is as it was.
  pub depths_behind : drop (start_of lengths 2 blocks) depths' ≡ drop (start_of lengths 2 blocks) depths
  pub answers_behind : drop (5 * blocks) answers' ≡ drop (5 * blocks) answers

-- What planning asks and gives for n blocks from the k-th on.
unfoldable pub asks_from : Bank → ℕ → ℕ → List Ask
asks_from b zero k = []
asks_from b (suc n) k = ask_at b k ∷ asks_from b n (suc k)

unfoldable pub plans_from : Bank → List ℕ → List ℕ → List ℕ → ℕ → ℕ → List Plan
plans_from b lengths answers depths zero k = []
plans_from b lengths answers depths (suc n) k = plan_at b (progress b lengths answers depths k).plans k ∷ plans_from b lengths answers depths n (suc k)

pub record Claims : Type 0 where
  -- The array of answers has 200 numbers, which a reference to it does not tell.
  pub bank_right : (climate : List ℕ) (blocks limit : ℕ) (lengths sheets areas depths answers answers' depths' : List ℕ) → length answers ≡ 200
      → banked climate blocks limit lengths sheets areas depths answers ≡ (Accepted, answers', depths')
      → BankRight climate blocks limit lengths sheets areas depths answers answers' depths'
  -- The plans are the planner's `bank_plans`, which is over any outlook.
  pub bank_plans_lem : (b : Bank) (lengths answers depths : List ℕ) (n : ℕ) → bank_plans b.limit b.day [] (asks_from b n 0) ≡ plans_from b lengths answers depths n 0
  -- A bank of four blocks, worked by hand.
  pub cases_hold : map (λ (c : List ℕ × List ℕ). c.0) cases ≡ map (λ (c : List ℕ × List ℕ). c.1) cases
