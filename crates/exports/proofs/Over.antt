-- An answer by its case: what holds of it, and that its numbers are those that were written.
use Prim.Native.Nat.{ℕ}
use mathlib.Core.Path.{◌≡◌, refl, sym, ap, ap₂, subst, ◌∙◌}
use mathlib.Core.List.{List, [], ◌∷◌, ◌++◌}
use native.Mathlib.Omega.{arith}
use lib.ListN.{length, get_or}
use Rattle.verdict.specs.Refusals.{Verdict}
use Rattle.journal.specs.Calls.{Recorded, Opened}
use Rattle.journal.specs.Opening.{Opening}
use Rattle.probes.specs.declared.Probe.{Probe}
use Rattle.measuring.specs.Probing.{Probed}
use Rattle.controller.specs.Roles.{opened_by, probed_by}
use Rattle.controller.proofs.Claims.{claims}
use Rattle.answers.specs.Over.{written_over}

-- An answer a, which is the call's and of the case b.
module _ {A : Type 0} {a b call : A} (case : a ≡ b) (is : a ≡ call) where
  pub holds_by : (P : A → Type 0) → P call → P b
  holds_by P h = subst P (sym is ∙ case) h

  pub written_by_lem : (numbers : A → List ℕ) (out : List ℕ) {last : List ℕ} → last ≡ written_over (numbers b) out → last ≡ written_over (numbers call) out
  written_by_lem numbers out w = w ∙ ap (λ (x : A). written_over (numbers x) out) (sym case ∙ is)

-- The case of an entry is its verdict's, that of an opening what it found.
pub entry_case : (r : Recorded) {v : Verdict} → r.verdict ≡ v → r ≡ record { verdict = v; stores = r.stores }
entry_case r e = λ i. record { verdict = e i; stores = r.stores }

pub opened_case : (r : Opened) {o : Opening} → r.opening ≡ o → r ≡ record { opening = o; places = r.places; count = r.count }
opened_case r e = λ i. record { opening = e i; places = r.places; count = r.count }

-- The array and the lent buffer, of the answer and the buffer that a call gives.
pub both_by : {A : Type 0} {a b : A} {buffer last : List ℕ} {call : A × List ℕ} (numbers : A → List ℕ) (out : List ℕ) → a ≡ b → ◌≡◌ {A = A × List ℕ} (a, buffer) call
    → last ≡ written_over (numbers b) out → ◌≡◌ {A = List ℕ × List ℕ} (last, buffer) (written_over (numbers call.0) out, call.1)
both_by {A} {a} {b} {buffer} numbers out case is w =
    ap (λ (l : List ℕ). (l, buffer)) (w ∙ ap (λ (x : A). written_over (numbers x) out) (sym case))
    ∙ ap (λ (x : A × List ℕ). (written_over (numbers x.0) out, x.1)) is

-- The same with two lent buffers.
pub three_by : {A : Type 0} {a : A} {one two last : List ℕ} {call : A × List ℕ × List ℕ} (numbers : A → List ℕ) (out : List ℕ) → ◌≡◌ {A = A × List ℕ × List ℕ} (a, one, two) call
    → last ≡ written_over (numbers a) out → ◌≡◌ {A = List ℕ × List ℕ × List ℕ} (last, one, two) (written_over (numbers call.0) out, call.1, call.2)
three_by {A} {a} {one} {two} numbers out is w =
    ap (λ (l : List ℕ). (l, one, two)) w ∙ ap (λ (x : A × List ℕ × List ℕ). (written_over (numbers x.0) out, x.1, x.2)) is

-- An array's numbers, one by one.
pub three_are : (xs : List ℕ) → length xs ≡ 3 → get_or xs 0 0 ∷ get_or xs 1 0 ∷ get_or xs 2 0 ∷ [] ≡ xs
three_are [] h = absurd (omega arith)
three_are (a ∷ []) h = absurd (omega arith)
three_are (a ∷ b ∷ []) h = absurd (omega arith)
three_are (a ∷ b ∷ c ∷ []) h = refl
three_are (a ∷ b ∷ c ∷ d ∷ xs) h = absurd (omega arith)

pub four_are : (xs : List ℕ) → length xs ≡ 4 → get_or xs 0 0 ∷ get_or xs 1 0 ∷ get_or xs 2 0 ∷ get_or xs 3 0 ∷ [] ≡ xs
four_are [] h = absurd (omega arith)
four_are (a ∷ xs) h = ap (λ (ys : List ℕ). a ∷ ys) (three_are xs (omega arith))

-- What was written one by one is, behind other numbers, the count and the places of an opening; and the bytes of an entry.
pub places_over : {r : Opened} {last : List ℕ} (role : ℕ) (climate block area : List ℕ) → r ≡ opened_by role climate block area → (ns out : List ℕ)
    → last ≡ written_over (ns ++ (r.count ∷ get_or r.places 0 0 ∷ get_or r.places 1 0 ∷ get_or r.places 2 0 ∷ [])) out
    → last ≡ written_over (ns ++ (r.count ∷ r.places)) out
places_over {r} role climate block area e ns out w =
    let size : length r.places ≡ 3 = ap (λ (q : Opened). length q.places) e ∙ (claims.opened_occurs role climate block area).placed.size in
    w ∙ ap (λ (ps : List ℕ). written_over (ns ++ (r.count ∷ ps)) out) (three_are r.places size)

pub bytes_over : {last : List ℕ} (ns bytes out : List ℕ) → length bytes ≡ 4
    → last ≡ written_over (ns ++ (get_or bytes 0 0 ∷ get_or bytes 1 0 ∷ get_or bytes 2 0 ∷ get_or bytes 3 0 ∷ [])) out → last ≡ written_over (ns ++ bytes) out
bytes_over ns bytes out size w = w ∙ ap (λ (bs : List ℕ). written_over (ns ++ bs) out) (four_are bytes size)

-- A probe call's answer, of the probes that the kinds say.
pub probes_are : {r : Probed} {p q p' q' : Probe} (role : ℕ) (climate block area : List ℕ) (f : ℕ) → p ≡ p' → q ≡ q'
    → r ≡ probed_by role climate block area p q f → r ≡ probed_by role climate block area p' q' f
probes_are role climate block area f i j w = w ∙ ap₂ (λ (x y : Probe). probed_by role climate block area x y f) i j
