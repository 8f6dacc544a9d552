-- Laws of the first refusal that applies.
use mathlib.Core.Path.{◌≡◌, refl, sym, ap, ◌∙◌}
use Prim.Native.Nat.{ℕ}
use mathlib.Core.Bool.{Bool, true, false}
use mathlib.Core.List.{List, [], ◌∷◌, ◌++◌}
use native.Mathlib.Omega.{arith}
use Rattle.verdict.specs.Refusals.{Verdict, Accepted, Refused, or_refused, first_of, number_of, verdict_in, refused_by}
use Rattle.std.specs.Prelude.{Result, Ok, Err, IsErrAnd}
use Rattle.verdict.specs.declared.Reason.{Reason}
use Rattle.verdict.specs.declared.Refusal as code

-- A refusal stays, whatever follows.
pub first_refused_lem : (n v : ℕ) (rs : List (Bool × ℕ × ℕ)) → first_of (Refused n v) rs ≡ Refused n v
unfolding or_refused
first_refused_lem n v [] = refl
first_refused_lem n v (r ∷ rs) = first_refused_lem n v rs

-- Lines behind lines go on from the verdict of the first.
pub first_append : (v : Verdict) (qs rs : List (Bool × ℕ × ℕ)) → first_of v (qs ++ rs) ≡ first_of (first_of v qs) rs
first_append v [] rs = refl
first_append v (q ∷ qs) rs = first_append (or_refused v q.0 q.1 q.2) qs rs

-- A line whose test holds is the answer; one whose test fails leaves it to the next.
pub first_holds : (t : Bool) (n v : ℕ) (rs : List (Bool × ℕ × ℕ)) → t ≡ true → first_of Accepted ((t, n, v) ∷ rs) ≡ Refused n v
unfolding or_refused
first_holds t n v rs e = rw e (first_refused_lem n v rs)

pub first_fails : (t : Bool) (n v : ℕ) (rs : List (Bool × ℕ × ℕ)) → t ≡ false → first_of Accepted ((t, n, v) ∷ rs) ≡ first_of Accepted rs
unfolding or_refused
first_fails t n v rs e = rw e refl

-- A refusal does not accept.
pub refused_accepted : (n v : ℕ) → Refused n v ≡ Accepted → ⊥
refused_accepted n v e = let z : ◌≡◌ {A = ℕ} 0 1 = cc in omega arith

-- Where the answer accepts, no line's test holds.
pub accepted_fails : (t : Bool) (n v : ℕ) (rs : List (Bool × ℕ × ℕ)) → first_of Accepted ((t, n, v) ∷ rs) ≡ Accepted
    → (t ≡ false) × (first_of Accepted rs ≡ Accepted)
accepted_fails true n v rs e = absurd (refused_accepted n v (sym (first_holds true n v rs refl) ∙ e))
accepted_fails false n v rs e = (refl, sym (first_fails false n v rs refl) ∙ e)

-- Where a step accepts, the verdict before it did, and its test fails.
pub or_accepted : (v : Verdict) (t : Bool) (number value : ℕ) → or_refused v t number value ≡ Accepted → (v ≡ Accepted) × (t ≡ false)
unfolding or_refused
or_accepted Accepted true number value e = absurd (refused_accepted number value e)
or_accepted Accepted false number value e = (refl, refl)
or_accepted (Refused n w) t number value e = absurd (refused_accepted n w e)

-- What holds of every line's number and value holds of the refusal that they give.
abbrev pub Refusal : (ℕ → ℕ → Type 0) → Verdict → Type 0
Refusal P Accepted = Unit {0}
Refusal P (Refused number value) = P number value

abbrev pub Lines : (ℕ → ℕ → Type 0) → List (Bool × ℕ × ℕ) → Type 0
Lines P [] = Unit {0}
Lines P (r ∷ rs) = P r.1 r.2 × Lines P rs

or_refusal : (P : ℕ → ℕ → Type 0) (v : Verdict) (test : Bool) (number value : ℕ) → Refusal P v → P number value → Refusal P (or_refused v test number value)
unfolding or_refused
or_refusal P Accepted true number value a h = h
or_refusal P Accepted false number value a h = tt
or_refusal P (Refused n w) test number value a h = a

pub first_refusal : (P : ℕ → ℕ → Type 0) (v : Verdict) (rs : List (Bool × ℕ × ℕ)) → Refusal P v → Lines P rs → Refusal P (first_of v rs)
first_refusal P v [] a h = a
first_refusal P v (r ∷ rs) a h = first_refusal P (or_refused v r.0 r.1 r.2) rs (or_refusal P v r.0 r.1 r.2 a h.0) h.1

-- `or_refused` of the code is the definition's, of what a result says.
pub verdict_refused : (r : Result (Unit {0}) code.Refusal) (test : Bool) (why : Reason) (value : ℕ)
    → verdict_in (refused_by r test why value) ≡ or_refused (verdict_in r) test (number_of why) value
unfolding or_refused refused_by
verdict_refused (Ok u) true why value = refl
verdict_refused (Ok u) false why value = refl
verdict_refused (Err r) test why value = refl

pub said : (r q : Result (Unit {0}) code.Refusal) (test : Bool) (why : Reason) (value : ℕ) → r ≡ refused_by q test why value
    → verdict_in r ≡ or_refused (verdict_in q) test (number_of why) value
said r q test why value e = ap verdict_in e ∙ verdict_refused q test why value

-- What is not refused passed the test.
pub passed : (r : Result (Unit {0}) code.Refusal) (u : Unit {0}) (test : Bool) (why : Reason) (value : ℕ) → r ≡ refused_by (Ok tt) test why value → r ≡ Ok u
    → test ≡ false
passed r u test why value e o = (or_accepted Accepted test (number_of why) value (sym (verdict_refused (Ok tt) test why value) ∙ (sym (ap verdict_in e) ∙ ap verdict_in o))).1

-- What a `?` hands on is the refusal that it got, in the result of the whole.
pub handed_on : {A : Type 0} (r : Result A code.Refusal) (why : code.Refusal) → IsErrAnd r (λ e. e ≡ why) → r ≡ Err why
handed_on (Ok x) why h = absurd h
handed_on (Err e) why h = ap Err h
