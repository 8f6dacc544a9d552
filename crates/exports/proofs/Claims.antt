-- The claims, in the order of specs/Claims.antt.
use Prim.Native.Nat.{ℕ, ◌-◌, ◌≤◌}
use mathlib.Core.Path.{◌≡◌, refl, sym, ap, subst, ◌∙◌}
use mathlib.Core.List.{List, [], ◌∷◌, ◌++◌}
use native.Mathlib.Omega.{arith}
use borrow.Author.Tests.{ne_eqb}
use lib.Ieee.{Float}
use lib.ListN.{length, drop, take, replicate}
use Rattle.verdict.specs.Refusals.{Verdict, Accepted, Refused, numbers_then, numbers_of}
use Rattle.journal.specs.Opening.{Opening}
use Rattle.journal.specs.Opening as found
use Rattle.journal.specs.declared.Stores.{Stores}
use Rattle.journal.specs.Calls.{Recorded, Opened}
use Rattle.journal.proofs.Numbering.{opening_then}
use Rattle.journal.specs.Loss.{Lost, loss_numbers}
use Rattle.journal.specs.Loss as losing
use Rattle.journal.specs.Claims.{StoresOccur, CountOccurs, OpenedOccurs, Placed}
use Rattle.planner.specs.Answer.{Planned}
use Rattle.planner.specs.Answer as planned
use Rattle.measuring.specs.Probing.{Probed, probed_numbers}
use Rattle.measuring.specs.Probing as probed
use Rattle.probes.specs.declared.Probe.TheVariants.{Silent}
use Rattle.decades.specs.Table.{Tabled}
use Rattle.decades.specs.Table as table
use Rattle.sheet.specs.Writing.{Written}
use Rattle.sheet.specs.Writing as made
use Rattle.season.proofs.Stores.{at_start}
use Rattle.controller.specs.Roles.{opened_by, recorded_by, loss_by, planned_by, probed_by, banked_by, tabled_by, climate_written_by, block_written_by}
use Rattle.controller.proofs.Claims as controller
use Rattle.answers.specs.Over.{out_length, written_over}
use Rattle.exports.specs.Written.{with_ledger, opened_out}
use Rattle.exports.specs.Kinds.{probe_of}
use Rattle.exports.specs.Claims.{Claims}
use Rattle.exports.proofs.Bounds.{opened_small, recorded_small, lost_small, planned_small, probed_small, banked_small, tabled_small, climate_small, block_small}

over_first : (ns out : List ℕ) → length ns ≤ length out → written_over ns out ≡ ns ++ drop (length ns) out
over_first ns out h = at_start ns out h

-- ---- the array has room

opening_length : (o : Opening) (r : Opened) → Placed r → length (found.numbers_of o ++ with_ledger o (r.count ∷ r.places)) ≤ out_length
opening_length (found.Clean l) r h = omega (arith, h.size)
opening_length (found.Torn l place) r h = omega (arith, h.size)
opening_length (found.Refused number value) r h = omega arith

lost_length : (r : Lost) → length (loss_numbers r) ≤ out_length
lost_length (losing.Parts p) = omega arith
lost_length (losing.Refused number value) = omega arith

verdict_length : (v : Verdict) → length (numbers_of v) ≤ out_length
verdict_length Accepted = omega arith
verdict_length (Refused number value) = omega arith

planned_length : (p : Planned) → length (planned.numbers_of p) ≤ out_length
planned_length (planned.Made days net gross) = omega arith
planned_length (planned.Refused number value) = omega arith

probed_length : (r : Probed) → length (probed_numbers r) ≤ out_length
probed_length (probed.Depletions ledger probes) = omega arith
probed_length (probed.Refused number value) = omega arith

tabled_length : (t : Tabled) → length (table.numbers_of t) ≤ out_length
tabled_length (table.Rows count) = omega arith
tabled_length (table.Refused number value) = omega arith

written_length : (w : Written) → length (made.numbers_of w) ≤ out_length
written_length (made.Made count) = omega arith
written_length (made.Refused number value) = omega arith

stores_length : (v : Verdict) (w : Stores) → StoresOccur v w → length (numbers_then v (w.start ∷ w.count ∷ w.bytes)) ≤ out_length
stores_length Accepted w h = omega (arith, h.size)
stores_length (Refused number value) w h = omega arith

-- ---- kinds

kind_silent : (kind : ℕ) (x : Float) → (kind ≡ 1 → ⊥) → (kind ≡ 2 → ⊥) → probe_of kind x ≡ Silent
unfolding probe_of
kind_silent kind x one two = rw (ne_eqb kind 1 one, ne_eqb kind 2 two)

-- ---- one to one

recorded_with_one : (v u : Verdict) (w x : Stores) → StoresOccur v w → StoresOccur u x
    → numbers_then v (w.start ∷ w.count ∷ w.bytes) ≡ numbers_then u (x.start ∷ x.count ∷ x.bytes)
    → ◌≡◌ {A = Recorded} (record { verdict = v; stores = w }) (record { verdict = u; stores = x })
recorded_with_one Accepted Accepted w x a b e =
    let s : w.start ≡ x.start = cc in
    let n : w.count ≡ x.count = cc in
    let t : w.bytes ≡ x.bytes = cc in
    λ i. record { verdict = Accepted; stores = record { bytes = t i; start = s i; count = n i } }
recorded_with_one Accepted (Refused number value) w x a b e = absurd (let z : 0 ≡ number = cc in omega (arith, b.0))
recorded_with_one (Refused number value) Accepted w x a b e = absurd (let z : number ≡ 0 = cc in omega (arith, a.0))
recorded_with_one (Refused n v) (Refused number value) w x a b e =
    let p : n ≡ number = cc in
    let q : v ≡ value = cc in
    let s : w ≡ x = a.1 ∙ sym b.1 in
    λ i. record { verdict = Refused (p i) (q i); stores = s i }

-- A refusal's places are all 0.
none_placed : (ps : List ℕ) (n : ℕ) → n ≡ 0 → ps ≡ take n ps ++ replicate (3 - n) 0 → ps ≡ 0 ∷ 0 ∷ 0 ∷ []
none_placed ps n z h = h ∙ ap (λ (k : ℕ). take k ps ++ replicate (3 - k) 0) z

-- A count and places beside one opening.
places_one : (o : Opening) (ps qs : List ℕ) (m n : ℕ) → CountOccurs o m → CountOccurs o n
    → ps ≡ take m ps ++ replicate (3 - m) 0 → qs ≡ take n qs ++ replicate (3 - n) 0
    → with_ledger o (m ∷ ps) ≡ with_ledger o (n ∷ qs) → (m ≡ n) × (ps ≡ qs)
places_one (found.Clean l) ps qs m n a b f g e = (cc, cc)
places_one (found.Torn l place) ps qs m n a b f g e = (cc, cc)
places_one (found.Refused number value) ps qs m n a b f g e = (a ∙ sym b, none_placed ps m a f ∙ sym (none_placed qs n b g))

opened_one : (q r : Opened) → OpenedOccurs q → OpenedOccurs r → opened_out q ≡ opened_out r → q ≡ r
opened_one q r a b e =
    let o = opening_then q.opening r.opening a.found b.found _ _ e in
    let c : CountOccurs r.opening q.count = subst (λ (p : Opening). CountOccurs p q.count) o.0 a.none in
    let d = ap (λ (p : Opening). with_ledger p (q.count ∷ q.places)) (sym o.0) ∙ o.1 in
    let w = places_one r.opening q.places r.places q.count r.count c b.none a.placed.rest b.placed.rest d in
    λ i. record { opening = o.0 i; places = w.1 i; count = w.0 i }

pub claims : Claims
unfolding probe_of
claims = record {
  over_first = over_first;
  opened_fits = λ role climate block area. let r = opened_by role climate block area in opening_length r.opening r ((controller.claims).opened_occurs role climate block area).placed;
  recorded_fits = λ role climate block area e. let r = recorded_by role climate block area e in stores_length r.verdict r.stores ((controller.claims).recorded_occurs role climate block area e);
  lost_fits = λ role climate block area ky. lost_length (loss_by role climate block area ky);
  planned_fits = λ role climate block area depths. planned_length (planned_by role climate block area depths).0;
  probed_fits = λ role climate block area shallow deep f. probed_length (probed_by role climate block area shallow deep f);
  banked_fits = λ role climate blocks limit lengths sheets areas depths answers. verdict_length (banked_by role climate blocks limit lengths sheets areas depths answers).0;
  tabled_fits = λ role climate block rows. tabled_length (tabled_by role climate block rows).0;
  climate_fits = λ role fields climate. written_length (climate_written_by role fields climate).0;
  block_fits = λ role fields block. written_length (block_written_by role fields block).0;
  opened_small = opened_small;
  recorded_small = recorded_small;
  lost_small = lost_small;
  planned_small = planned_small;
  probed_small = probed_small;
  banked_small = banked_small;
  tabled_small = tabled_small;
  climate_small = climate_small;
  block_small = block_small;
  kind_water = λ x. refl;
  kind_low = λ x. refl;
  kind_silent = kind_silent;
  opened_one_to_one = opened_one;
  recorded_one_to_one = λ q r a b e. recorded_with_one q.verdict r.verdict q.stores r.stores a b e;
}
