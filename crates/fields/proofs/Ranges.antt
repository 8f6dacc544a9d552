-- Numbers of which none is outside its limits: each is within them, and the season that they make is in its ranges.
use Prim.Native.Nat.{ℕ, zero, suc, ◌+◌, ◌≤◌, ◌<◌}
use mathlib.Core.Path.{◌≡◌, refl, sym, ap, ◌∙◌}
use mathlib.Core.Bool.{Bool, true, false, cond, ◌||◌, true≢false}
use mathlib.Core.List.{List, [], ◌∷◌}
use native.Mathlib.Nat.{le_of_suc-le-suc, not-suc-le-zero}
use native.Mathlib.Omega.{arith}
use borrow.Author.Tests.{ltb-false}
use lib.Dec.{T, ltb, eqb, lit<}
use lib.ListN.{length, get_or, get_or-eq_default}
use Rattle.season.specs.Sheet.{Ranged, Within}
use Rattle.fields.specs.declared.Limit.{Limit}
use Rattle.fields.specs.Fields.{february_of, limits, outside, lowest_outside, season_of}
use Rattle.fields.specs.Refusals.{field_at_fault}
use Rattle.fields.proofs.Lowest.{step_true, step_false}

-- The number x is within the limit l.
pub record Inside (l : Limit) (x : ℕ) : Type 0 where
  pub low : l.0 ≤ x
  pub high : x ≤ l.1

or_false : (a b : Bool) → (a || b) ≡ false → (a ≡ false) × (b ≡ false)
or_false false b e = (refl, e)
or_false true b e = absurd (true≢false e)

pub inside : (l : Limit) (x : ℕ) → outside l x ≡ false → Inside l x
unfolding outside
inside l x e =
    let t = or_false (ltb x l.0) (ltb l.1 x) e in
    record { low = ltb-false x l.0 t.0; high = ltb-false l.1 x t.1 }

pub none_outside : (i : ℕ) (l : Limit) (ls : List Limit) (v : ℕ) (vs : List ℕ) → lowest_outside (suc i) (l ∷ ls) (v ∷ vs) ≡ 0
    → (outside l v ≡ false) × (lowest_outside (suc (i + 1)) ls vs ≡ 0)
none_outside i l ls v vs e = go (outside l v) refl
  where
    go : (t : Bool) → outside l v ≡ t → (outside l v ≡ false) × (lowest_outside (suc (i + 1)) ls vs ≡ 0)
    go true o = absurd (omega (arith, sym (step_true (suc i) l ls v vs o) ∙ e))
    go false o = (o, ap (λ (j : ℕ). lowest_outside j ls vs) (omega arith) ∙ sym (step_false (suc i) l ls v vs o) ∙ e)

-- Where no field is at fault, each is within its limits.
pub all_inside : (i : ℕ) (ls : List Limit) (vs : List ℕ) → lowest_outside (suc i) ls vs ≡ 0
    → (k : ℕ) → k < length ls → k < length vs → Inside (get_or ls k (0, 0)) (get_or vs k 0)
all_inside i [] vs e k p q = absurd (not-suc-le-zero p)
all_inside i (l ∷ ls) [] e k p q = absurd (not-suc-le-zero q)
all_inside i (l ∷ ls) (v ∷ vs) e zero p q = inside l v (none_outside i l ls v vs e).0
all_inside i (l ∷ ls) (v ∷ vs) e (suc k) p q =
    all_inside (i + 1) ls vs (none_outside i l ls v vs e).1 k (le_of_suc-le-suc p) (le_of_suc-le-suc q)

-- A bound on each element of a list holds at every number, since 0 stands past the end.
abbrev Up : ℕ → List ℕ → Type 0
Up b [] = Unit
Up b (x ∷ xs) = (x ≤ b) × Up b xs

up_to : (b : ℕ) (xs : List ℕ) → Up b xs → (k : ℕ) → get_or xs k 0 ≤ b
up_to b [] u k = omega arith
up_to b (x ∷ xs) u zero = u.0
up_to b (x ∷ xs) u (suc k) = up_to b xs u.1 k

-- The limit of the field at place k.
abbrev pub limit_of : List ℕ → ℕ → Limit
limit_of f k = get_or (limits (february_of f) (get_or f 0 0)) k (0, 0)

pub field_inside : (f : List ℕ) → field_at_fault f ≡ 0 → (k : ℕ) → k < 41 → k < length f → Inside (limit_of f k) (get_or f k 0)
field_inside f e = all_inside 0 (limits (february_of f) (get_or f 0 0)) f e

-- February's days are 28 or 29, whatever the numbers.
pub february_within : (f : List ℕ) → Within 28 29 (february_of f)
february_within f = go (eqb (get_or f 40 0) 29)
  where
    go : (b : Bool) → Within 28 29 (cond b 29 28)
    go true = record { low≤ = omega arith; ≤high = omega arith }
    go false = record { low≤ = omega arith; ≤high = omega arith }

-- The limits as the code gets them.
pub limits_are : (f : List ℕ) (february : ℕ) (ls : List Limit) → february ≡ february_of f → ls ≡ limits february (get_or f 0 0) → ls ≡ limits (february_of f) (get_or f 0 0)
limits_are f february ls e l = l ∙ ap (λ (d : ℕ). limits d (get_or f 0 0)) e

-- Forty numbers mean 28.
pub february_plain : (f : List ℕ) → length f ≤ 40 → february_of f ≡ 28
february_plain f n = let z : get_or f 40 0 ≡ 0 = get_or-eq_default f 0 {n = 40} n in rw z

-- Where a forty-first is not at fault it is 29.
pub forty_first : (f : List ℕ) → length f ≡ 41 → field_at_fault f ≡ 0 → get_or f 40 0 ≡ 29
forty_first f n e = let i = field_inside f e 40 (omega arith) (omega arith) in omega (arith, i.low, i.high)

pub february_leap : (f : List ℕ) → length f ≡ 41 → field_at_fault f ≡ 0 → february_of f ≡ 29
february_leap f n e = rw (forty_first f n e)

-- The season of forty numbers or more of which none is at fault.
module _ (f : List ℕ) (n : 40 ≤ length f) (e : field_at_fault f ≡ 0) where
  place : (k : ℕ) → T (ltb k 40) → Inside (limit_of f k) (get_or f k 0)
  place k t = field_inside f e k (omega (arith, below k t)) (omega (arith, below k t))
    where
      below : (k : ℕ) → T (ltb k 40) → k < 40
      below k t = lit< t

  at_most : (k : ℕ) → T (ltb k 40) → get_or f k 0 ≤ (limit_of f k).1
  at_most k t = (place k t).high

  within : (k : ℕ) → T (ltb k 40) → Within (limit_of f k).0 (limit_of f k).1 (get_or f k 0)
  within k t = let i = place k t in record { low≤ = i.low; ≤high = i.high }

  pub season_ranged : Ranged (season_of f)
  season_ranged = record {
    month = within 0 tt;
    first = within 1 tt;
    initial = within 2 tt;
    development = within 3 tt;
    middle = within 4 tt;
    late = within 5 tt;
    kcini = within 6 tt;
    kcmid = within 7 tt;
    kcend = within 8 tt;
    eto = up_to 1500 (season_of f).eto ((at_most 9 tt, (at_most 10 tt, (at_most 11 tt, (at_most 12 tt, (at_most 13 tt, (at_most 14 tt, (at_most 15 tt, (at_most 16 tt, (at_most 17 tt, (at_most 18 tt, (at_most 19 tt, (at_most 20 tt, tt)))))))))))));
    rain = up_to 60000 (season_of f).rain ((at_most 21 tt, (at_most 22 tt, (at_most 23 tt, (at_most 24 tt, (at_most 25 tt, (at_most 26 tt, (at_most 27 tt, (at_most 28 tt, (at_most 29 tt, (at_most 30 tt, (at_most 31 tt, (at_most 32 tt, tt)))))))))))));
    water = within 33 tt;
    sowing = within 34 tt;
    full = within 35 tt;
    fraction = within 36 tt;
    efficiency = within 37 tt;
    opening = at_most 38 tt;
    turns = at_most 39 tt;
    february = february_within f;
  }
