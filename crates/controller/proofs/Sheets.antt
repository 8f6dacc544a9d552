-- A call on two sheets, by what reading them answered.
use mathlib.Core.Path.{◌≡◌, refl, sym, ap}
use mathlib.Core.List.{List}
use Prim.Native.Nat.{ℕ}
use Rattle.season.specs.declared.Season.{Season}
use Rattle.season.specs.declared.Accepted as accepted
use Rattle.season.specs.Day.{AcceptedSeason}
use Rattle.std.specs.Prelude.{Result, Ok, Err}
use Rattle.verdict.specs.declared.Refusal.{Refusal}
use Rattle.verdict.specs.Refusals.{Verdict, Accepted, Refused, number_of}
use Rattle.sheet.specs.Sheets.{Sheet, sheets_of, sheet_in}
use Rattle.sheet.specs.OneSheet.{one_sheet}
use Rattle.sheet.proofs.Accepted.{accepted_season}
use Rattle.sheet.proofs.Claims as sheets
use Rattle.controller.specs.Calls.{by_verdict, on_sheets}
use Rattle.controller.specs.OneSheet.{on_sheet}

module _ {A : Type 0} (refuse : ℕ → ℕ → A) (reply : Season → A) (climate block : List ℕ) where
  -- What holds of every refusal and of every accepted season holds of the call.
  pub on_sheets_lem : (P : A → Type 0) → ((number value : ℕ) → (sheets_of climate block).verdict ≡ Refused number value → P (refuse number value))
      → ((s : Season) → (sheets_of climate block).verdict ≡ Accepted → (sheets_of climate block).season ≡ s → AcceptedSeason s → P (reply s))
      → P (on_sheets refuse reply climate block)
  unfolding on_sheets
  on_sheets_lem P f g = go (sheets_of climate block).verdict refl
    where
      go : (v : Verdict) → (sheets_of climate block).verdict ≡ v → P (by_verdict refuse reply (sheets_of climate block).season v)
      go Accepted e = g (sheets_of climate block).season e refl (accepted_season climate block e)
      go (Refused number value) e = f number value e

  module _ (r : Sheet) (e : r ≡ sheets_of climate block) where
    pub sheets_refused : (number value : ℕ) → r.verdict ≡ Refused number value → on_sheets refuse reply climate block ≡ refuse number value
    unfolding on_sheets
    sheets_refused number value v = rw (← e, v)

    pub sheets_accepted : r.verdict ≡ Accepted → on_sheets refuse reply climate block ≡ reply r.season
    unfolding on_sheets
    sheets_accepted v = rw (← e, v)

  -- By what reading answered.
  module _ (r : Result accepted.Accepted Refusal) (e : sheet_in r ≡ sheets_of climate block) where
    pub reading_refused : (why : Refusal) → r ≡ Err why → on_sheets refuse reply climate block ≡ refuse (number_of why.reason) why.value
    unfolding on_sheets
    reading_refused why is = rw (← e, is)

    pub reading_accepted : (a : accepted.Accepted) → r ≡ Ok a → on_sheets refuse reply climate block ≡ reply a.season
    unfolding on_sheets
    reading_accepted a is = rw (← e, is)

  -- An accepted pair is answered as the one sheet of its numbers was.
  pub as_on_sheet : (sheets_of climate block).verdict ≡ Accepted → on_sheets refuse reply climate block ≡ on_sheet refuse reply (one_sheet climate block)
  unfolding on_sheets
  as_on_sheet v = ap (λ (r : Sheet). by_verdict refuse reply r.season r.verdict) (sym ((sheets.claims).as_one_sheet climate block v))
