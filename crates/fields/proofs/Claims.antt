-- The proofs of `specs/Claims.antt`, in its order.
use Prim.Native.Nat.{ℕ, ◌≤◌, ◌<◌}
use mathlib.Core.Path.{◌≡◌, refl}
use mathlib.Core.List.{List, []}
use native.Mathlib.Omega.{arith}
use lib.ListN.{length, take, drop}
use Rattle.verdict.specs.Refusals.{Accepted, Refused}
use Rattle.verdict.proofs.First.{first_refusal}
use Rattle.fields.specs.Fields.{limits}
use Rattle.fields.specs.Refusals.{field_lines, fields_verdict, climate_lines, block_lines, climate_verdict, block_verdict}
use Rattle.fields.specs.Claims.{Claims}
use Rattle.fields.proofs.Ranges.{field_inside, february_plain, february_leap}
use Rattle.fields.proofs.Lowest.{lowest_end}
use Rattle.fields.proofs.Verdicts.{accepted_sound, lines_alone, verdicts_iff, field_lines_lem, block_lines_lem}

abbrev OfFields : ℕ → ℕ → Type 0
OfFields number value = ((4 ≤ number) × (number ≤ 7)) × (value ≤ 41)

refused_is : (f : List ℕ) (number value : ℕ) → fields_verdict f ≡ Refused number value → OfFields number value
unfolding fields_verdict
refused_is f number value e = rw e at (first_refusal OfFields Accepted (field_lines f) tt (field_lines_lem OfFields (λ n v low high small. ((low, high), small)) [] tt f))

climate_refused_is : (c : List ℕ) (number value : ℕ) → climate_verdict c ≡ Refused number value → (number ≡ 4) × (value ≤ 41)
unfolding climate_verdict
climate_refused_is c number value e =
    rw e at (first_refusal (λ (n v : ℕ). (n ≡ 4) × (v ≤ 41)) Accepted (climate_lines c) tt ((refl, omega (arith, lowest_end 9 (take 24 (drop 9 (limits 28 1))) c)), tt))

block_refused_is : (b : List ℕ) (number value : ℕ) → block_verdict b ≡ Refused number value → OfFields number value
unfolding block_verdict
block_refused_is b number value e =
    rw e at (first_refusal OfFields Accepted (block_lines b) tt (block_lines_lem OfFields (λ n v low high small. ((low, high), small)) [] tt b))

few : (f : List ℕ) → length f ≤ 41 → (k : ℕ) → k < length f → k < 41
few f m k l = omega arith

nine : (b : List ℕ) → 16 ≤ length b → 9 ≤ length b
nine b n = omega arith

forty : (f : List ℕ) → length f ≡ 40 → length f ≤ 40
forty f n = omega arith

least : (f : List ℕ) → length f ≡ 41 → 40 ≤ length f
least f n = omega arith

pub claims : Claims
claims = record {
  accepted_within = λ f n m e k l. let i = field_inside f (accepted_sound f n e).no_field k (few f m k l) l in (i.low, i.high);
  accepted_season = λ f n e. (accepted_sound f n e).season;
  february_plain = λ f n. february_plain f (forty f n);
  february_leap = λ f n e. february_leap f n (accepted_sound f (least f n) e).no_field;
  refused_number = refused_is;
  merged_accepted_iff = verdicts_iff;
  season_lines_alone = λ c b m n. lines_alone c b m (nine b n);
  climate_refused = climate_refused_is;
  block_refused = block_refused_is;
}
