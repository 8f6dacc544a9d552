-- Demand 3, as document 01 words it, of the calls on bytes.
use Rattle.std.specs.Prelude.{ℕ, ◌≤◌, ◌≡◌, ◌↔◌, ◌⊎◌, List, [], ◌∷◌, length, take}
use Rattle.season.specs.declared.Season.{Season}
use Rattle.season.specs.Sheet.{season_days}
use Rattle.season.specs.Day.{root_on, total_on}
use Rattle.sheet.specs.Sheets.{sheets_of}
use Rattle.journal.specs.declared.Ledger.{Ledger}
use Rattle.journal.specs.Loss.{Parts, losses_of}
use Rattle.journal.specs.Entries.{waiting}
use Rattle.journal.specs.Book.{Step, Book, empty_book, ledger_of, book_after}
use Rattle.journal.specs.History.{Device, blank_area, area_next, area_after}
use Rattle.journal.specs.Claims.{Kept}
use Rattle.planner.specs.Answer.{Planned, numbers_of}
use Rattle.planner.specs.Choices.{NoChoice, FirstLost}
use Rattle.planner.specs.Plan.{depths}
use Rattle.planner.specs.Outlook.{outlook, days_left}
use Rattle.planner.specs.Claims.{MadeRight}
use Rattle.probes.specs.declared.Probe.{Probe}
use Rattle.probes.specs.Contents.{Content, reading_of}
use Rattle.probes.specs.Depletion.{measured}
use Rattle.measuring.specs.Probing.{Depletions}
use Rattle.controller.specs.Roles.{opened_by, recorded_by, loss_by, planned_by, probed_by}
use Rattle.controller.specs.Refusals.{plan_of}

-- The entry calls and open, all with one pair of sheets.
abbrev pub calls : List ℕ → List ℕ → Device
calls climate block = record { records = λ role. recorded_by role climate block; opened = λ role. opened_by role climate block }

-- A plan's answer in document 01's numbers, and what is left in the lent buffer.
abbrev pub numbered : Planned × List ℕ → List ℕ × List ℕ
numbered a = (numbers_of a.0, a.1)

-- A plan's answer a, with the buffer `out` at first, from a ledger with an open day.
pub record PlanKept (s : Season) (l : Ledger) (out : List ℕ) (a : Planned × List ℕ) : Type 0 where
  -- It is refused 16 exactly when no choice of depths on turn days keeps within the ready water,
  pub refused_iff : ((f : ℕ) × (numbered a ≡ (16 ∷ f ∷ [], out))) ↔ NoChoice (outlook s l.day (waiting l)) (days_left s l.day) l.day l.depletion
  -- with the first day that no choice holds.
  pub refused_first : (f : ℕ) → numbered a ≡ (16 ∷ f ∷ [], out) → FirstLost (outlook s l.day (waiting l)) (days_left s l.day) l.day l.depletion f
  -- Else a plan is given: how many days it waters, its net and its gross total.
  pub answered : ((f : ℕ) × (numbered a ≡ (16 ∷ f ∷ [], out)))
      ⊎ ((days : ℕ) × (net : ℕ) × (gross : ℕ) × (m : List ℕ) × (numbered a ≡ (0 ∷ 0 ∷ days ∷ net ∷ gross ∷ [], m)))
  -- A plan given is document 01's depths; it keeps within the ready water, and up to each day no other such choice has fewer irrigated days;
  -- its count, totals and the numbers beyond it are right.
  pub given : (days net gross : ℕ) (m : List ℕ) → numbered a ≡ (0 ∷ 0 ∷ days ∷ net ∷ gross ∷ [], m)
      → (plan_of s l ≡ depths (take (days_left s l.day) m)) × MadeRight s l.day l.depletion (waiting l) out m days net gross

-- Demand 3 of a history on a blank area, with s the sheets' season, k the book after the history, `area` what its stores left, a lent buffer, and the role
-- that opens and plans then.
pub record Met (climate block : List ℕ) (s : Season) (size : ℕ) (steps : List Step) (out area : List ℕ) (k : Book) (role : ℕ) : Type 0 where
  -- Every call answers what the book answers; opening then gives the book's answer for the role, ledger and stores, and never finds damage; and the
  -- ledger equation holds over exactly the accepted entries stored whole.
  pub kept : Kept (calls climate block) s size steps role
  -- Where the journal is clean, a day is open and the buffer is long enough, the plan is right.
  pub plans : k.loose ≡ [] → (ledger_of s k).day ≤ season_days s → days_left s (ledger_of s k).day ≤ length out
      → PlanKept s (ledger_of s k) out (planned_by role climate block area out)
  -- Where the journal is clean, the losses by any Ky are those of the book's ledger, with all days closed too.
  pub losses : (ky : ℕ) → 1 ≤ ky → ky ≤ 200 → k.loose ≡ [] → loss_by role climate block area ky ≡ Parts (losses_of ky (ledger_of s k))
  -- Where the journal is clean, a day is open and the probes have a content, they are answered beside the book's depletion, by the open day's Z and T.
  pub probes : (shallow deep : Probe) (f v : ℕ) → 1 ≤ f → f ≤ 6000 → reading_of shallow deep ≡ Content v → k.loose ≡ [] → (ledger_of s k).day ≤ season_days s
      → probed_by role climate block area shallow deep f ≡ Depletions (ledger_of s k).depletion (measured f v (root_on s (ledger_of s k).day) (total_on s (ledger_of s k).day))

abbrev pub Demand3 : List ℕ → List ℕ → ℕ → List Step → List ℕ → ℕ → Type 0
Demand3 climate block size steps out role =
    let s = (sheets_of climate block).season in
    Met climate block s size steps out (area_after (calls climate block) (blank_area size) steps) (book_after s size empty_book steps) role

-- ---- the journal stays (document 02, T-09)

-- A call that can hand back stores, with sheets of its own. The answers of plan, table, loss, probe and the writers have no place for a store.
pub record Press : Type 0 where
  pub climate : List ℕ
  pub block : List ℕ
  pub step : Step

-- The area after such calls, each with the first so many of its stores done.
unfoldable pub area_pressed : List ℕ → List Press → List ℕ
area_pressed area [] = area
area_pressed area (p ∷ ps) = area_pressed (area_next (calls p.climate p.block) area p.step) ps

-- No call is by role 2 or 3.
abbrev pub OnlyLook : List Press → Type 0
OnlyLook [] = Unit {0}
OnlyLook (p ∷ ps) = ((p.step.role ≡ 2 → ⊥) × (p.step.role ≡ 3 → ⊥)) × OnlyLook ps
