-- What is proved of this crate's definitions. `claims`, in proofs/Claims.antt, has a proof of each field.
use Rattle.std.specs.Prelude.{ℕ, ◌<◌, ◌≡◌, Bool, true, false, List, [], ◌∷◌, ◌++◌, Result}
use Rattle.verdict.specs.Refusals.{Verdict, Accepted, Refused, first_of, numbers_then, numbers_of, verdict_of, or_refused, number_of, verdict_in, refused_by}
use Rattle.verdict.specs.declared.Reason.{Reason}
use Rattle.verdict.specs.declared.Refusal.{Refusal}

-- No line's test holds.
abbrev pub NoneHolds : List (Bool × ℕ × ℕ) → Type 0
NoneHolds [] = Unit
NoneHolds (r ∷ rs) = (r.0 ≡ false) × NoneHolds rs

-- A refusal has a number, and 0 is none: it stands for an accepted call.
abbrev pub Numbered : Verdict → Type 0
Numbered Accepted = Unit
Numbered (Refused number value) = 0 < number

pub record Claims : Type 0 where
  -- The answer is the first line, read downward, whose test holds.
  pub first_that_holds : (before after : List (Bool × ℕ × ℕ)) (number value : ℕ) → NoneHolds before
      → first_of Accepted (before ++ ((true, number, value) ∷ after)) ≡ Refused number value
  -- A call is accepted exactly when no test holds.
  pub accepted_iff : (lines : List (Bool × ℕ × ℕ))
      → (first_of Accepted lines ≡ Accepted → NoneHolds lines) × (NoneHolds lines → first_of Accepted lines ≡ Accepted)
  -- The numbers of an answer tell which answer it is,
  pub numbers_one_to_one : (v w : Verdict) → Numbered v → Numbered w → numbers_of v ≡ numbers_of w → v ≡ w
  -- and whatever numbers follow, its verdict is read off them.
  pub verdict_of_numbers : (v : Verdict) (ns : List ℕ) → Numbered v → verdict_of (numbers_then v ns) ≡ v
  -- Different reasons have different numbers, so that a result is told by what the definitions say of it.
  pub reasons_one_to_one : (a b : Reason) → number_of a ≡ number_of b → a ≡ b
  -- A step of the code's chain of tests is a step of `first_of`.
  pub chain_step : (r : Result (Unit {0}) Refusal) (test : Bool) (why : Reason) (value : ℕ)
      → verdict_in (refused_by r test why value) ≡ or_refused (verdict_in r) test (number_of why) value
