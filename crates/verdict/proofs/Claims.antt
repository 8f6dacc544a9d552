-- The proofs of `specs/Claims.antt`, in its order.
use Prim.Native.Nat.{ℕ, zero, suc}
use mathlib.Core.Path.{◌≡◌, refl, ap₂, ◌∙◌, sym, ap}
use mathlib.Core.Bool.{Bool, true}
use mathlib.Core.List.{List, [], ◌∷◌, ◌++◌}
use native.Mathlib.Omega.{arith}
use Rattle.verdict.specs.Refusals.{Verdict, Accepted, Refused, first_of, numbers_then, numbers_of, verdict_of, number_of}
use Rattle.std.specs.Prelude.{◌-◌, get_or}
use Rattle.verdict.specs.declared.Reason.{Reason}
use Rattle.verdict.specs.declared.Reason.TheVariants as reason
use Rattle.verdict.specs.Claims.{NoneHolds, Numbered, Claims}
use Rattle.verdict.proofs.First.{first_holds, first_fails, accepted_fails, verdict_refused}

first_that_holds : (before after : List (Bool × ℕ × ℕ)) (n v : ℕ) → NoneHolds before
    → first_of Accepted (before ++ ((true, n, v) ∷ after)) ≡ Refused n v
first_that_holds [] after n v h = first_holds true n v after refl
first_that_holds (r ∷ rs) after n v h =
    first_fails r.0 r.1 r.2 (rs ++ ((true, n, v) ∷ after)) h.0 ∙ first_that_holds rs after n v h.1

accepted_none : (lines : List (Bool × ℕ × ℕ)) → first_of Accepted lines ≡ Accepted → NoneHolds lines
accepted_none [] e = tt
accepted_none (r ∷ rs) e =
    let a = accepted_fails r.0 r.1 r.2 rs e in
    (a.0, accepted_none rs a.1)

none_accepted : (lines : List (Bool × ℕ × ℕ)) → NoneHolds lines → first_of Accepted lines ≡ Accepted
none_accepted [] h = refl
none_accepted (r ∷ rs) h = first_fails r.0 r.1 r.2 rs h.0 ∙ none_accepted rs h.1

one_to_one : (v w : Verdict) → Numbered v → Numbered w → numbers_of v ≡ numbers_of w → v ≡ w
one_to_one Accepted Accepted p q e = refl
one_to_one Accepted (Refused n v) p q e = let z : 0 ≡ n = cc in absurd (omega arith)
one_to_one (Refused n v) Accepted p q e = let z : n ≡ 0 = cc in absurd (omega arith)
one_to_one (Refused n v) (Refused m w) p q e = let a : n ≡ m = cc in let b : v ≡ w = cc in ap₂ Refused a b

pub verdict_of_numbers : (v : Verdict) (ns : List ℕ) → Numbered v → verdict_of (numbers_then v ns) ≡ v
verdict_of_numbers Accepted ns p = refl
verdict_of_numbers (Refused zero value) ns p = absurd (omega arith)
verdict_of_numbers (Refused (suc n) value) ns p = refl

-- All reasons, by their numbers less 1.
all : List Reason
all =
    reason.EndsEarly ∷ reason.BadNumber ∷ reason.BytesFollow ∷ reason.FieldOutside ∷ reason.SeasonTooLong ∷ reason.RootsShrink ∷ reason.OpeningAboveTotal ∷ reason.AreaTooLong
    ∷ reason.Damaged ∷ reason.Torn ∷ reason.AllDaysClosed ∷ reason.AmountOutside ∷ reason.DayOverfull ∷ reason.AreaFull ∷ reason.BufferShort ∷ reason.NoChoice
    ∷ reason.YieldFactorOutside ∷ reason.ProbeWrong ∷ reason.NoContent ∷ reason.RoleOutside ∷ reason.RoleLooksOnly ∷ reason.BankWrong ∷ reason.StartsDiffer ∷ []

reason_at : ℕ → Reason
reason_at n = get_or all (n - 1) reason.EndsEarly

reason_back : (r : Reason) → reason_at (number_of r) ≡ r
unfolding reason_at all
reason_back reason.EndsEarly = refl
reason_back reason.BadNumber = refl
reason_back reason.BytesFollow = refl
reason_back reason.FieldOutside = refl
reason_back reason.SeasonTooLong = refl
reason_back reason.RootsShrink = refl
reason_back reason.OpeningAboveTotal = refl
reason_back reason.AreaTooLong = refl
reason_back reason.Damaged = refl
reason_back reason.Torn = refl
reason_back reason.AllDaysClosed = refl
reason_back reason.AmountOutside = refl
reason_back reason.DayOverfull = refl
reason_back reason.AreaFull = refl
reason_back reason.BufferShort = refl
reason_back reason.NoChoice = refl
reason_back reason.YieldFactorOutside = refl
reason_back reason.ProbeWrong = refl
reason_back reason.NoContent = refl
reason_back reason.RoleOutside = refl
reason_back reason.RoleLooksOnly = refl
reason_back reason.BankWrong = refl
reason_back reason.StartsDiffer = refl

reasons : (a b : Reason) → number_of a ≡ number_of b → a ≡ b
reasons a b e = sym (reason_back a) ∙ (ap reason_at e ∙ reason_back b)

pub claims : Claims
claims = record {
  first_that_holds = first_that_holds;
  accepted_iff = λ lines. (accepted_none lines, none_accepted lines);
  numbers_one_to_one = one_to_one;
  verdict_of_numbers = verdict_of_numbers;
  reasons_one_to_one = reasons;
  chain_step = verdict_refused;
}
