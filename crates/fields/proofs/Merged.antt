-- A climate's numbers and a block's, as the fields in their order.
use Prim.Native.Nat.{ℕ, zero, suc, ◌+◌, ◌≤◌, ◌<◌}
use mathlib.Core.Path.{◌≡◌, refl, sym, ap, ap₂, ◌∙◌}
use mathlib.Core.Bool.{cond}
use mathlib.Core.Logic.{◌↔◌}
use mathlib.Core.List.{List, [], ◌∷◌, ◌++◌, append_assoc}
use native.Mathlib.Omega.{arith}
use borrow.Author.Tests.{lt-ltb, le-ltb}
use lib.Dec.{T, ltb, lit<, eqb}
use lib.ListN.{length, take, drop, get_or, replicate, length-append, length-drop, take-append-drop, get_or-append}
use lib.Seq.{length-take-le, take_all, take_at, drop_at, drop-drop, get_or-take, get_or-drop, get_or-append-add}
use Rattle.season.specs.declared.Season.{Season}
use Rattle.fields.specs.declared.Limit.{Limit}
use Rattle.fields.specs.Fields.{february_of, limits, outside, lowest_outside, season_of, merged, block_field, block_fields}
use Rattle.fields.specs.Refusals.{field_at_fault, earlier, climate_at_fault, block_at_fault}
use Rattle.fields.proofs.Lowest.{lowest_append, lowest_end, earlier_some, both_none, Same, lowest_same}
use Rattle.fields.proofs.Ranges.{february_plain}

-- ---- the numbers that a function gives at 0, 1, .. up to a count

unfoldable pub gives : ℕ → (ℕ → ℕ) → List ℕ
gives zero g = []
gives (suc n) g = g 0 ∷ gives n (λ k. g (suc k))

-- A list's first elements, one by one.
pub gives_take : (n : ℕ) (f : List ℕ) → n ≤ length f → gives n (λ k. get_or f k 0) ≡ take n f
unfolding gives
gives_take zero f h = refl
gives_take (suc n) [] h = absurd (omega arith)
gives_take (suc n) (v ∷ f) h = ap (λ (t : List ℕ). v ∷ t) (gives_take n f (omega arith))

-- ---- the parts

merged_is : (c b : List ℕ) → merged c b ≡ take 9 b ++ (c ++ drop 9 b)
unfolding merged
merged_is c b = append_assoc (take 9 b) c (drop 9 b)

pub length_merged : (c b : List ℕ) → length (merged c b) ≡ length c + length b
length_merged c b =
    omega (
      arith,
      ap length (merged_is c b),
      length-append (take 9 b) (c ++ drop 9 b),
      length-append c (drop 9 b),
      length-append (take 9 b) (drop 9 b),
      ap length (take-append-drop 9 b),
    )

module _ (c b : List ℕ) (n : 9 ≤ length b) (m : length c ≡ 24) where
  front_length : length (take 9 b) ≡ 9
  front_length = length-take-le 9 b n

  pub front_part : take 9 (merged c b) ≡ take 9 b
  front_part = ap (take 9) (merged_is c b) ∙ take_at (take 9 b) (c ++ drop 9 b) 9 front_length

  behind_front : drop 9 (merged c b) ≡ c ++ drop 9 b
  behind_front = ap (drop 9) (merged_is c b) ∙ drop_at (take 9 b) (c ++ drop 9 b) 9 front_length

  pub climate_part_lem : take 24 (drop 9 (merged c b)) ≡ c
  climate_part_lem = ap (take 24) behind_front ∙ take_at c (drop 9 b) 24 m

  pub back_part : drop 33 (merged c b) ≡ drop 9 b
  back_part = sym (drop-drop 24 9 (merged c b)) ∙ ap (drop 24) behind_front ∙ drop_at c (drop 9 b) 24 m

  pub block_part_lem : take 9 (merged c b) ++ drop 33 (merged c b) ≡ b
  block_part_lem = ap₂ (λ (x y : List ℕ). x ++ y) front_part back_part ∙ take-append-drop 9 b

  -- ---- a field by its place

  pub front : (k : ℕ) → T (ltb k 9) → get_or (merged c b) k 0 ≡ get_or b k 0
  front k t = sym (get_or-take 9 (merged c b) k 0 (lit< t)) ∙ ap (λ (l : List ℕ). get_or l k 0) front_part ∙ get_or-take 9 b k 0 (lit< t)

  pub climate : (k : ℕ) → k < 24 → get_or (merged c b) (9 + k) 0 ≡ get_or c k 0
  climate k l =
      sym (get_or-drop 9 (merged c b) k 0) ∙ ap (λ (l : List ℕ). get_or l k 0) behind_front ∙ get_or-append c (drop 9 b) 0 k (omega arith)

  pub back : (k : ℕ) → get_or (merged c b) (33 + k) 0 ≡ get_or b (9 + k) 0
  back k = sym (get_or-drop 33 (merged c b) k 0) ∙ ap (λ (l : List ℕ). get_or l k 0) back_part ∙ get_or-drop 9 b k 0

-- The fields of a list of forty or more are a climate's and a block's.
pub merged_parts : (f : List ℕ) → 40 ≤ length f → merged (take 24 (drop 9 f)) (take 9 f ++ drop 33 f) ≡ f
merged_parts f n =
    let l : length (take 9 f) ≡ 9 = length-take-le 9 f (omega arith) in
    merged_is (take 24 (drop 9 f)) (take 9 f ++ drop 33 f)
    ∙ ap₂ (λ (x y : List ℕ). x ++ (take 24 (drop 9 f) ++ y)) (take_at (take 9 f) (drop 33 f) 9 l) (drop_at (take 9 f) (drop 33 f) 9 l ∙ sym (drop-drop 24 9 f))
    ∙ ap (λ (x : List ℕ). take 9 f ++ x) (take-append-drop 24 (drop 9 f)) ∙ take-append-drop 9 f

-- ---- February's days and the month are the block's

pub february_merged : (c b : List ℕ) → 9 ≤ length b → length c ≡ 24 → february_of (merged c b) ≡ february_of (block_fields b)
february_merged c b n m =
    ap (λ (x : ℕ). cond (eqb x 29) 29 28) (back c b n m 7 ∙ sym (back (replicate 24 0) b n refl 7))

-- Sixteen numbers have no seventeenth; else it decides.
pub february_short : (b : List ℕ) → length b ≤ 16 → february_of (block_fields b) ≡ 28
february_short b n = february_plain (block_fields b) (omega (arith, length_merged (replicate 24 0) b))

pub february_long : (b : List ℕ) → 16 < length b → february_of (block_fields b) ≡ cond (eqb (get_or b 16 0) 29) 29 28
february_long b n = ap (λ (x : ℕ). cond (eqb x 29) 29 28) (back (replicate 24 0) b (omega arith) refl 7)

-- ---- refusal 4

-- The fault of all is the first of three.
module _ (c b : List ℕ) (n : 9 ≤ length b) (m : length c ≡ 24) where
  by_parts : (february month : ℕ) → lowest_outside 1 (limits february month) (merged c b)
      ≡ earlier (lowest_outside 1 (take 9 (limits february month)) (take 9 b)) (earlier (climate_at_fault c) (lowest_outside 34 (drop 33 (limits february month)) (drop 9 b)))
  by_parts february month =
      let ls = limits february month in
      ap (lowest_outside 1 ls) (merged_is c b)
      ∙ lowest_append 0 (take 9 ls) (take 24 (drop 9 ls) ++ drop 33 ls) (take 9 b) (c ++ drop 9 b) (sym (length-take-le 9 b n))
      ∙ ap (earlier (lowest_outside 1 (take 9 ls) (take 9 b))) (lowest_append 9 (take 24 (drop 9 ls)) (drop 33 ls) c (drop 9 b) (sym m))

  pub fault_by_parts : field_at_fault (merged c b)
      ≡ earlier (lowest_outside 1 (take 9 (limits (february_of (block_fields b)) (get_or b 0 0))) (take 9 b))
      (earlier (climate_at_fault c) (lowest_outside 34 (drop 33 (limits (february_of (block_fields b)) (get_or b 0 0))) (drop 9 b)))
  fault_by_parts =
      ap₂ (λ (f x : ℕ). lowest_outside 1 (limits f x) (merged c b)) (february_merged c b n m) (front c b n m 0 tt)
      ∙ by_parts (february_of (block_fields b)) (get_or b 0 0)

-- A block's fault is that of its fields with no climate.
no_climate_lem : climate_at_fault (replicate 24 0) ≡ 0
unfolding lowest_outside outside
no_climate_lem = refl

pub block_alone : (b : List ℕ) → 9 ≤ length b → field_at_fault (block_fields b) ≡ block_at_fault b
block_alone b n = fault_by_parts (replicate 24 0) b n refl ∙ rw no_climate_lem refl

-- By the places of a block's numbers: the one found, or none.
abbrev pub places : ℕ → ℕ → List Limit
places february month = take 9 (limits february month) ++ drop 33 (limits february month)

pub places_are : (b : List ℕ) (february : ℕ) (ls : List Limit) → february ≡ february_of (block_fields b) → ls ≡ places february (get_or b 0 0)
    → ls ≡ places (february_of (block_fields b)) (get_or b 0 0)
places_are b february ls e l = l ∙ ap (λ (d : ℕ). places d (get_or b 0 0)) e

module _ (february month : ℕ) (b : List ℕ) (n : 9 ≤ length b) where
  abbrev near : ℕ
  near = lowest_outside 1 (take 9 (limits february month)) (take 9 b)

  abbrev far : ℕ → ℕ
  far i = lowest_outside i (drop 33 (limits february month)) (drop 9 b)

  by_place : lowest_outside 1 (places february month) b ≡ earlier near (far 10)
  by_place =
      ap (lowest_outside 1 (places february month)) (sym (take-append-drop 9 b))
      ∙ lowest_append 0 (take 9 (limits february month)) (drop 33 (limits february month)) (take 9 b) (drop 9 b) (sym (length-take-le 9 b n))

  near_few : near ≤ 9
  near_few = lowest_end 0 (take 9 (limits february month)) (take 9 b)

  pub found_at : (k : ℕ) → lowest_outside 1 (places february month) b ≡ k + 1 → earlier near (far 34) ≡ block_field k
  found_at k e = go near (sym by_place ∙ e) near_few (lowest_same 10 34 (drop 33 (limits february month)) (drop 9 b))
    where
      go : (f : ℕ) → earlier f (far 10) ≡ k + 1 → f ≤ 9 → Same 10 34 (far 10) (far 34) → earlier f (far 34) ≡ block_field k
      go zero q l (Same.none x y) = absurd (omega (arith, sym x ∙ q))
      go zero q l (Same.some j x y) = y ∙ rw (le-ltb k 9 (omega (arith, sym x ∙ q))) (omega (arith, sym x ∙ q))
      go (suc f) q l s =
          let h : suc f ≡ k + 1 = sym (earlier_some (suc f) (far 10) (omega arith)) ∙ q in
          earlier_some (suc f) (far 34) (omega arith) ∙ rw (lt-ltb k 9 (omega arith)) h

  pub found_none : lowest_outside 1 (places february month) b ≡ 0 → earlier near (far 34) ≡ 0
  found_none e =
      let z = both_none near (far 10) (sym by_place ∙ e) in
      rw z.0 (go (lowest_same 10 34 (drop 33 (limits february month)) (drop 9 b)))
    where
      go : Same 10 34 (far 10) (far 34) → far 34 ≡ 0
      go (Same.none x y) = y
      go (Same.some j x y) = absurd (omega (arith, sym x ∙ (both_none near (far 10) (sym by_place ∙ e)).1))

  -- And back: no field at fault, none at a place.
  pub none_found : earlier near (far 34) ≡ 0 → lowest_outside 1 (places february month) b ≡ 0
  none_found e =
      let z = both_none near (far 34) e in
      by_place ∙ ap (λ (i : ℕ). earlier i (far 10)) z.0 ∙ go (lowest_same 34 10 (drop 33 (limits february month)) (drop 9 b)) z.1
    where
      go : Same 34 10 (far 34) (far 10) → far 34 ≡ 0 → far 10 ≡ 0
      go (Same.none x y) z = y
      go (Same.some j x y) z = absurd (omega (arith, sym x ∙ z))

-- It is one of forty-one.
pub block_fault_few : (february month : ℕ) (b : List ℕ)
    → earlier (lowest_outside 1 (take 9 (limits february month)) (take 9 b)) (lowest_outside 34 (drop 33 (limits february month)) (drop 9 b)) ≤ 41
block_fault_few february month b = go (lowest_outside 1 (take 9 (limits february month)) (take 9 b)) (lowest_end 0 (take 9 (limits february month)) (take 9 b))
  where
    go : (f : ℕ) → f ≤ 9 → earlier f (lowest_outside 34 (drop 33 (limits february month)) (drop 9 b)) ≤ 41
    go zero l = lowest_end 33 (drop 33 (limits february month)) (drop 9 b)
    go (suc f) l = omega (arith, earlier_some (suc f) (lowest_outside 34 (drop 33 (limits february month)) (drop 9 b)) (omega arith))

-- No field is at fault exactly where none of the climate's is, and none of the block's.
pub no_fault_iff : (c b : List ℕ) → 9 ≤ length b → length c ≡ 24 → (field_at_fault (merged c b) ≡ 0) ↔ ((climate_at_fault c ≡ 0) × (block_at_fault b ≡ 0))
no_fault_iff c b n m =
    let ls = limits (february_of (block_fields b)) (get_or b 0 0) in
    let near = lowest_outside 1 (take 9 ls) (take 9 b) in
    let far = lowest_outside 34 (drop 33 ls) (drop 9 b) in
    let e : field_at_fault (merged c b) ≡ earlier near (earlier (climate_at_fault c) far) = fault_by_parts c b n m in (
      λ z.
          let x = both_none near (earlier (climate_at_fault c) far) (sym e ∙ z) in
          let y = both_none (climate_at_fault c) far x.1 in
          (y.0, ap (λ (i : ℕ). earlier i far) x.0 ∙ y.1),
      λ z.
          let x = both_none near far z.1 in
          e ∙ ap₂ (λ (i j : ℕ). earlier i (earlier j far)) x.0 z.0 ∙ x.1,
    )

-- ---- the season

-- A season by a climate's two dozens and a block's numbers.
abbrev pub season_by : List ℕ → List ℕ → List ℕ → Season
season_by eto rain b = record {
  month = get_or b 0 0;
  first = get_or b 1 0;
  initial = get_or b 2 0;
  development = get_or b 3 0;
  middle = get_or b 4 0;
  late = get_or b 5 0;
  kcini = get_or b 6 0;
  kcmid = get_or b 7 0;
  kcend = get_or b 8 0;
  eto = eto;
  rain = rain;
  water = get_or b 9 0;
  sowing = get_or b 10 0;
  full = get_or b 11 0;
  fraction = get_or b 12 0;
  efficiency = get_or b 13 0;
  opening = get_or b 14 0;
  turns = get_or b 15 0;
  february = february_of (block_fields b);
}

-- Twelve numbers of a climate, from a place on.
gives_same : (n : ℕ) (f g : ℕ → ℕ) → ((k : ℕ) → k < n → f k ≡ g k) → gives n f ≡ gives n g
unfolding gives
gives_same zero f g h = refl
gives_same (suc n) f g h = ap₂ (λ (x : ℕ) (xs : List ℕ). x ∷ xs) (h 0 (omega arith)) (gives_same n (λ k. f (suc k)) (λ k. g (suc k)) (λ k l. h (suc k) (omega arith)))

pub season_merged : (eto rain b : List ℕ) → length eto ≡ 12 → length rain ≡ 12 → 9 ≤ length b → season_of (merged (eto ++ rain) b) ≡ season_by eto rain b
unfolding gives
season_merged eto rain b e r n =
    let c = eto ++ rain in
    let m : length c ≡ 24 = omega (arith, length-append eto rain) in
    let months : (at : ℕ) (l : List ℕ) → ((k : ℕ) → k < 12 → get_or (merged c b) (at + k) 0 ≡ get_or l k 0) → length l ≡ 12 → gives 12 (λ k. get_or (merged c b) (at + k) 0) ≡ l
    = λ at l h q. gives_same 12 _ _ h ∙ gives_take 12 l (omega arith) ∙ take_all 12 l (omega arith) in
    let early = months 9 eto (λ k l. climate c b n m k (omega arith) ∙ get_or-append eto rain 0 k (omega arith)) e in
    let later = months 21 rain (λ k l. let q : 21 + k ≡ 9 + (12 + k) = omega arith in
    ap (λ (j : ℕ). get_or (merged c b) j 0) q ∙ climate c b n m (12 + k) (omega arith) ∙ ap (λ (j : ℕ). get_or (eto ++ rain) (j + k) 0) (sym e) ∙ get_or-append-add eto rain k 0) r in
    λ i. record {
      month = front c b n m 0 tt i;
      first = front c b n m 1 tt i;
      initial = front c b n m 2 tt i;
      development = front c b n m 3 tt i;
      middle = front c b n m 4 tt i;
      late = front c b n m 5 tt i;
      kcini = front c b n m 6 tt i;
      kcmid = front c b n m 7 tt i;
      kcend = front c b n m 8 tt i;
      eto = early i;
      rain = later i;
      water = back c b n m 0 i;
      sowing = back c b n m 1 i;
      full = back c b n m 2 i;
      fraction = back c b n m 3 i;
      efficiency = back c b n m 4 i;
      opening = back c b n m 5 i;
      turns = back c b n m 6 i;
      february = february_merged c b n m i;
    }

-- The same of a climate's numbers in one list.
pub season_of_both : (c b : List ℕ) → length c ≡ 24 → 9 ≤ length b → season_of (merged c b) ≡ season_by (take 12 c) (drop 12 c) b
season_of_both c b m n =
    ap (λ (l : List ℕ). season_of (merged l b)) (sym (take-append-drop 12 c))
    ∙ season_merged (take 12 c) (drop 12 c) b (length-take-le 12 c (omega arith)) (omega (arith, length-drop 12 c)) n
