-- A plan on a journal, by what the opening found.
use mathlib.Core.Path.{◌≡◌, refl, sym, ap, ◌∙◌}
use mathlib.Core.List.{List}
use Prim.Native.Nat.{ℕ, ◌≤◌, ◌<◌}
use native.Mathlib.Omega.{arith}
use borrow.Author.Tests.{lt-ltb, le-ltb}
use Rattle.std.specs.Prelude.{Err}
use Rattle.verdict.specs.declared.Refusal.{Refusal}
use Rattle.season.specs.declared.Season.{Season}
use Rattle.season.specs.Sheet.{DayOf, season_days}
use Rattle.season.specs.Day.{AcceptedSeason}
use Rattle.season.proofs.Bounds.{total_le}
use Rattle.journal.specs.declared.Ledger.{Ledger}
use Rattle.journal.specs.declared.Opening.{Opening as Code}
use Rattle.journal.specs.Opening.{Opening, opening, opening_in, clean_of}
use Rattle.journal.specs.Opening as found
use Rattle.journal.specs.Entries.{waiting}
use Rattle.journal.proofs.Answers.{clean_within}
use Rattle.journal.proofs.Found.{unclean_found}
use Rattle.planner.specs.Answer.{Refused, answer, planned_in}
use Rattle.controller.specs.Calls.{planned_on}

module _ (s : Season) (area out : List ℕ) (r : Opening) (is : r ≡ opening s area) where
  pub plan_closed : (l : Ledger) (n : ℕ) → r ≡ found.Clean l → n ≡ season_days s → n < l.day → (Refused 11 0, out) ≡ planned_on s out (opening s area)
  unfolding planned_on
  plan_closed l n c e h = rw (sym is ∙ c, planned_on, lt-ltb (season_days s) l.day (rw (← e) h))

  pub plan_open : (l : Ledger) (n : ℕ) → r ≡ found.Clean l → n ≡ season_days s → l.day ≤ n
      → answer s l.day l.depletion (waiting l) out ≡ planned_on s out (opening s area)
  unfolding planned_on
  plan_open l n c e h = rw (sym is ∙ c, planned_on, le-ltb (season_days s) l.day (rw (← e) h))

  pub plan_torn : (l : Ledger) (place : ℕ) → r ≡ found.Torn l place → (Refused 10 place, out) ≡ planned_on s out (opening s area)
  unfolding planned_on
  plan_torn l place c = rw (sym is ∙ c, planned_on)

  pub plan_refused : (number place : ℕ) → r ≡ found.Refused number place → (Refused number place, out) ≡ planned_on s out (opening s area)
  unfolding planned_on
  plan_refused number place c = rw (sym is ∙ c, planned_on)

  -- What the planner requires of a clean journal's ledger.
  pub ledger_plans : AcceptedSeason s → (l : Ledger) (n : ℕ) → r ≡ found.Clean l → n ≡ season_days s → l.day ≤ n
      → (waiting l ≤ 240000) × DayOf s l.day × (l.depletion ≤ 120000)
  ledger_plans v l n c e h =
      let w = clean_within s area v r l is c in
      (w.waits, record { from = w.from; to = omega arith }, omega (arith, w.depletion, total_le s l.day v.valid.ranges))

-- A journal that is not clean is refused so, 10 where it is torn.
pub plan_unclean : (s : Season) (area out : List ℕ) (o : Code) → opening_in o ≡ opening s area → (why : Refusal) → clean_of o ≡ Err why
    → (planned_in (Err why), out) ≡ planned_on s out (opening s area)
unfolding planned_on
plan_unclean s area out o is why e =
    sym (ap (planned_on s out) (sym is)
    ∙ unclean_found (planned_on s out) (λ number value. (Refused number value, out)) (λ l place. refl) (λ number place. refl) o why e)
