-- Document 01, 'Why the controller says no': the first that applies, read downward.
use Rattle.std.specs.Prelude.{ℕ, zero, suc, Bool, cond, List, [], ◌∷◌, Result, Ok, Err}
use Rattle.verdict.specs.declared.Reason.{Reason}
use Rattle.verdict.specs.declared.Reason.TheVariants as reason
use Rattle.verdict.specs.declared.Refusal.{Refusal}

-- Whether a call is accepted. A refusal has its number, and the number returned with it.
pub data Verdict : Type 0 where
  Accepted : Verdict
  Refused : ℕ → ℕ → Verdict

-- The verdict v, or the refusal where v accepts and the test holds.
unfoldable pub or_refused : Verdict → Bool → ℕ → ℕ → Verdict
or_refused Accepted test number value = cond test (Refused number value) Accepted
or_refused (Refused n v) test number value = Refused n v

-- Each line is a test, the refusal's number, and the number returned with it.
abbrev pub first_of : Verdict → List (Bool × ℕ × ℕ) → Verdict
first_of v [] = v
first_of v (r ∷ rs) = first_of (or_refused v r.0 r.1 r.2) rs

-- The numbers of an answer: 0, 0 and what an accepted call answers; or the refusal's number and the number returned with it.
abbrev pub numbers_then : Verdict → List ℕ → List ℕ
numbers_then Accepted ns = 0 ∷ 0 ∷ ns
numbers_then (Refused number value) ns = number ∷ value ∷ []

abbrev pub numbers_of : Verdict → List ℕ
numbers_of v = numbers_then v []

-- The verdict that an answer's numbers begin with: 0 stands for an accepted call.
abbrev pub verdict_of : List ℕ → Verdict
verdict_of [] = Accepted
verdict_of (zero ∷ ns) = Accepted
verdict_of (suc n ∷ []) = Accepted
verdict_of (suc n ∷ value ∷ ns) = Refused (suc n) value

-- ---- the types of the code

-- The number of each reason.
abbrev pub number_of : Reason → ℕ
number_of reason.EndsEarly = 1
number_of reason.BadNumber = 2
number_of reason.BytesFollow = 3
number_of reason.FieldOutside = 4
number_of reason.SeasonTooLong = 5
number_of reason.RootsShrink = 6
number_of reason.OpeningAboveTotal = 7
number_of reason.AreaTooLong = 8
number_of reason.Damaged = 9
number_of reason.Torn = 10
number_of reason.AllDaysClosed = 11
number_of reason.AmountOutside = 12
number_of reason.DayOverfull = 13
number_of reason.AreaFull = 14
number_of reason.BufferShort = 15
number_of reason.NoChoice = 16
number_of reason.YieldFactorOutside = 17
number_of reason.ProbeWrong = 18
number_of reason.NoContent = 19
number_of reason.RoleOutside = 20
number_of reason.RoleLooksOnly = 21
number_of reason.BankWrong = 22
number_of reason.StartsDiffer = 23

-- What a result is: by what its Ok answers, and by a refusal's number and value.
abbrev pub by_result : {A B : Type 0} → (A → B) → (ℕ → ℕ → B) → Result A Refusal → B
by_result accept refuse (Ok x) = accept x
by_result accept refuse (Err r) = refuse (number_of r.reason) r.value

abbrev pub verdict_in : {A : Type 0} → Result A Refusal → Verdict
verdict_in = by_result (λ x. Accepted) Refused

-- What `or_refused` of the code makes of a result.
unfoldable pub refused_by : Result (Unit {0}) Refusal → Bool → Reason → ℕ → Result (Unit {0}) Refusal
refused_by (Ok u) test why value = cond test (Err (record { reason = why; value = value })) (Ok u)
refused_by (Err r) test why value = Err r
