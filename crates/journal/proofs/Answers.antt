-- What the calls answer, by what the opening found.
use Rattle.season.specs.Day.{AcceptedSeason}
use Prim.Native.Nat.{◌+◌, ◌-◌, ◌<◌, ◌≤◌, min, suc, ℕ}
use mathlib.Core.Path.{◌∙◌, ◌≡◌, ap, ap₂, refl, sym}
use mathlib.Core.List.{List, [], ◌++◌, ◌∷◌, map}
use mathlib.Core.Bool.{Bool, ◌||◌, false, true, true≢false}
use native.Mathlib.Omega.{arith}
use lib.ListN.{drop, get_or, length, length-append, length-drop, set, take}
use lib.Seq.{drop-cons}
use lib.Dec.{leb, ltb}
use borrow.Author.Tests.{eq-eqb, le-leb, leb-true, lt-leb, ltb-false, ne_eqb}
use Rattle.verdict.specs.Refusals.{Verdict, Accepted, first_of}
use Rattle.verdict.proofs.First.{accepted_fails}
use Rattle.leb128.proofs.Parts.{tail_part}
use Rattle.season.specs.declared.Season.{Season}
use Rattle.season.specs.Sheet.{season_days}
use Rattle.season.specs.Loss.{ky_outside}
use Rattle.journal.specs.declared.Entry.{Entry}
use Rattle.journal.specs.declared.Ledger.{Ledger}
use Rattle.journal.specs.Opening.{Opening, Clean, Torn, behind, is_blank, opening, replayed, torn_at, trim}
use Rattle.journal.specs.declared.Stores.{Stores}
use Rattle.journal.specs.Calls.{Recorded, Opened, recorded_with, opened, opened_on, opened_with, no_stores, recorded, recorded_on, wipe, wipe_places, wipes_in, stores_of}
use Rattle.journal.specs.Entries.{refusal}
use Rattle.journal.specs.Loss.{loss_refusals}
use Rattle.journal.specs.Carried.{Bounded}
use Rattle.journal.proofs.Beginnings.{torn_few}
use Rattle.journal.proofs.Cases.{number, test}
use Rattle.journal.proofs.Literal.{trim_is}
use Rattle.journal.proofs.Sums.{replayed_place, replayed_rest, replayed_within}
use Rattle.journal.proofs.Trims.{drop_trim, trim_le}
use Rattle.journal.proofs.Writing.{length_wipe_places, unwiped_le, unwiped_some, wipe_places_append, wipe_places_blank, wipe_places_other, wipe_places_replicate}
use Rattle.verdict.specs.Refusals as verdict
use Rattle.journal.specs.Opening as found

module _ (s : Season) (area : List ℕ) where
  pub opens_large : 8192 < length area → found.Refused 8 0 ≡ opening s area
  unfolding opening
  opens_large h = rw (lt-leb (length area) 8192 h, opening)

  -- the ledger of the walk, and the journal's tail behind it
  pub opens_small : length area ≤ 8192 → (l : Ledger) → l ≡ (replayed s area).ledger → (days : ℕ) → days ≡ season_days s
      → (o : Opening) → o ≡ behind days (length area) l (take (length area - l.place) (drop l.place area)) → o ≡ opening s area
  unfolding opening
  opens_small h l q days d o e =
      e ∙ ap (behind days (length area) l) (tail_part l.place area) ∙ rw (q, d, ← replayed_rest s area, le-leb (length area) 8192 h, opening)

-- ---- what an opening tells of the area

found_clean : (days size : ℕ) (l k : Ledger) (s : List ℕ) → behind days size l s ≡ Clean k → l ≡ k
unfolding behind
found_clean days size l k s h =
    test (is_blank s) (λ i. let h' = rw (i, behind) at h in cc)
    (λ i. test (torn_at days size l (trim s)) (λ j. absurd (let h' = rw (i, behind, j) at h in let z : ◌≡◌ {A = ℕ} 0 1 = cc in omega arith))
    (λ j. absurd (let h' = rw (i, behind, j) at h in let z : ◌≡◌ {A = ℕ} 0 1 = cc in omega arith)))

found_torn : (days size : ℕ) (l k : Ledger) (p : ℕ) (s : List ℕ) → behind days size l s ≡ Torn k p
    → (l.place ≡ p) × (torn_at days size l (trim s) ≡ true) × (l ≡ k) × (is_blank s ≡ false)
unfolding behind
found_torn days size l k p s h =
    test (is_blank s) (λ i. absurd (let h' = rw (i, behind) at h in let z : ◌≡◌ {A = ℕ} 0 1 = cc in omega arith))
    (λ i. test (torn_at days size l (trim s)) (λ j. (let h' = rw (i, behind, j) at h in cc, j, let h' = rw (i, behind, j) at h in cc, i))
    (λ j. absurd (let h' = rw (i, behind, j) at h in let z : ◌≡◌ {A = ℕ} 0 1 = cc in omega arith)))

module _ (s : Season) (area : List ℕ) (v : AcceptedSeason s) where
  -- a clean opening's ledger is in its ranges
  pub clean_within : (o : Opening) (l : Ledger) → o ≡ opening s area → o ≡ Clean l → Bounded s l
  unfolding opening
  clean_within o l q e =
      let h = sym q ∙ e in
      test (leb (length area) 8192)
      (λ i. let c = found_clean _ _ _ l _ (rw (i, opening) at h) in rw (← c) (replayed_within s area v (leb-true (length area) 8192 i)))
      (λ i. absurd (let h' = rw (i, opening) at h in let z : ◌≡◌ {A = ℕ} 0 1 = cc in omega arith))

  -- and so is a torn one's
  pub torn_within : (o : Opening) (l : Ledger) (p : ℕ) → o ≡ opening s area → o ≡ Torn l p → Bounded s l
  unfolding opening
  torn_within o l p q e =
      let h = sym q ∙ e in
      test (leb (length area) 8192)
      (λ i. let c = found_torn _ _ _ l p _ (rw (i, opening) at h) in rw (← c.2) (replayed_within s area v (leb-true (length area) 8192 i)))
      (λ i. absurd (let h' = rw (i, opening) at h in let z : ◌≡◌ {A = ℕ} 0 1 = cc in omega arith))

  -- a torn opening's place is in the area, and one to three bytes stand there before the FFs
  pub record TornHere (p : ℕ) : Type 0 where
    pub few : length area ≤ 8192
    pub inside : p ≤ length area
    pub short : length (trim (drop p area)) ≤ 3
    pub some : is_blank (drop p area) ≡ false

  pub torn_here : (o : Opening) (l : Ledger) (p : ℕ) → o ≡ opening s area → o ≡ Torn l p → TornHere p
  unfolding opening
  torn_here o l p q e =
      let h = sym q ∙ e in
      test (leb (length area) 8192)
      (λ i. let c = found_torn _ _ _ l p _ (rw (i, opening) at h) in
      rw (← c.0) (record {
        few = leb-true (length area) 8192 i;
        inside = replayed_place s area;
        short = rw (← replayed_rest s area) (torn_few (season_days s) (length area) (replayed s area).ledger (trim (replayed s area).rest) v.valid.year c.1);
        some = rw (← replayed_rest s area) c.3;
      }))
      (λ i. absurd (let h' = rw (i, opening) at h in let z : ◌≡◌ {A = ℕ} 0 1 = cc in omega arith))

-- ---- rain, irrigation and close

module _ (s : Season) (area : List ℕ) (e : Entry) {o : Opening} (is : o ≡ opening s area) where
  on_opening : recorded s area e ≡ recorded_on (season_days s) (length area) e o
  unfolding recorded
  on_opening = ap (recorded_on (season_days s) (length area) e) (sym is)

  module _ {l : Ledger} (clean : o ≡ Clean l) {days : ℕ} (n : days ≡ season_days s) {d : Verdict} (is-refusal : d ≡ refusal days (length area) l e) where
    on_clean : recorded s area e ≡ recorded_with d (stores_of l e)
    unfolding recorded_on
    on_clean = on_opening ∙ rw (clean, ← n, ← is-refusal)

    pub records : d ≡ Accepted → {w : Stores} → w ≡ stores_of l e → record { verdict = Accepted; stores = w } ≡ recorded s area e
    unfolding recorded_with
    records h q = sym (on_clean ∙ rw (h, ← q))

    pub declines : {number value : ℕ} → d ≡ verdict.Refused number value → {r : Recorded} → r ≡ recorded_with (verdict.Refused number value) no_stores → r ≡ recorded s area e
    unfolding recorded_with
    declines h q = q ∙ sym (on_clean ∙ rw h)

  pub declines_torn : {l : Ledger} {p : ℕ} → o ≡ Torn l p → {r : Recorded} → r ≡ recorded_with (verdict.Refused 10 p) no_stores → r ≡ recorded s area e
  unfolding recorded_on
  declines_torn h q = q ∙ sym (on_opening ∙ rw h)

  pub declines_damaged : {number p : ℕ} → o ≡ found.Refused number p → {r : Recorded} → r ≡ recorded_with (verdict.Refused number p) no_stores → r ≡ recorded s area e
  unfolding recorded_on
  declines_damaged h q = q ∙ sym (on_opening ∙ rw h)

-- ---- open

module _ (s : Season) (area : List ℕ) where
  pub opened_opening : (opened s area).opening ≡ opening s area
  unfolding opened opened_on
  opened_opening = go (opening s area)
    where
      go : (o : Opening) → (opened_on area o).opening ≡ o
      go (Clean l) = refl
      go (Torn l p) = refl
      go (found.Refused number p) = refl

  module _ {o : Opening} (is : o ≡ opening s area) where
    opened_on_lem : opened s area ≡ opened_on area o
    unfolding opened
    opened_on_lem = ap (opened_on area) (sym is)

    pub opened_clean : {l : Ledger} → o ≡ Clean l → opened s area ≡ opened_with o []
    unfolding opened_on
    opened_clean h = opened_on_lem ∙ rw h

    pub opened_torn : {l : Ledger} {p : ℕ} → o ≡ Torn l p → opened s area ≡ opened_with (Torn l p) (wipe_places p (drop p area))
    unfolding opened_on
    opened_torn h = opened_on_lem ∙ rw h

    -- with the part of the area that is handed on
    pub opens_torn : {l : Ledger} {p : ℕ} → o ≡ Torn l p → {r : Opened} → r ≡ opened_with (Torn l p) (wipe_places p (take (length area - p) (drop p area))) → r ≡ opened s area
    opens_torn {l} {p} h q = q ∙ ap (λ (t : List ℕ). opened_with (Torn l p) (wipe_places p t)) (tail_part p area) ∙ sym (opened_torn h)

    pub opened_refused : {number p : ℕ} → o ≡ found.Refused number p → opened s area ≡ opened_with o []
    unfolding opened_on
    opened_refused h = opened_on_lem ∙ rw h

-- the places found so far, of the last i of the first n bytes, behind which all are FF
pub record Wiped (tail : List ℕ) (place n : ℕ) (places : List ℕ) (count i : ℕ) : Type 0 where
  pub within : i ≤ n
  pub inside : n ≤ length tail
  pub few : n ≤ 3
  pub area : place + length tail ≤ 8192
  pub fewer : count ≤ i
  pub counted : count ≡ length (wipe_places (place + (n - i)) (drop (n - i) tail))
  pub stored : places ≡ take 3 (wipe_places (place + (n - i)) (drop (n - i) tail) ++ (0 ∷ 0 ∷ 0 ∷ []))

behind_trim : (p n : ℕ) (s : List ℕ) → length (trim s) ≤ n → wipe_places p (drop n s) ≡ []
behind_trim p n s h = let r = drop_trim s n h in ap (wipe_places p) r.1 ∙ wipe_places_replicate p r.0

pub wiped_none : (tail : List ℕ) (place n : ℕ) → n ≡ min (length tail) 3 → length (trim tail) ≤ 3 → place + length tail ≤ 8192
    → Wiped tail place n (0 ∷ 0 ∷ 0 ∷ []) 0 0
wiped_none tail place n e short area =
    let b : wipe_places (place + (n - 0)) (drop (n - 0) tail) ≡ [] = behind_trim (place + (n - 0)) (n - 0) tail (omega (arith, trim_le tail)) in
    record { within = omega arith; inside = omega arith; few = omega arith; area = area; fewer = omega arith; counted = rw b; stored = rw b }

stored_next : (ps : List ℕ) (n p : ℕ) → n ≡ length ps → n < 3 → set (take 3 (ps ++ (0 ∷ 0 ∷ 0 ∷ []))) n p ≡ take 3 ((ps ++ (p ∷ [])) ++ (0 ∷ 0 ∷ 0 ∷ []))
stored_next [] n p e h = rw e
stored_next (a ∷ []) n p e h = rw e
stored_next (a ∷ b ∷ []) n p e h = rw e
stored_next (a ∷ b ∷ c ∷ ps) n p e h = absurd (omega arith)

module _ {tail : List ℕ} {place n : ℕ} {places : List ℕ} {count i : ℕ} (w : Wiped tail place n places count i) (left : i < n) where
  pub wiped_inside : n - (i + 1) < length tail
  wiped_inside = omega (arith, w.inside)

  abbrev seen : List ℕ
  seen = wipe_places (place + (n - i)) (drop (n - i) tail)

  wiped_step : wipe_places (place + (n - (i + 1))) (drop (n - (i + 1)) tail) ≡ wipe_places (place + (n - (i + 1))) (get_or tail (n - (i + 1)) 0 ∷ drop (n - i) tail)
  wiped_step =
      let z : suc (n - (i + 1)) ≡ n - i = omega arith in
      ap (wipe_places (place + (n - (i + 1)))) (drop-cons tail (n - (i + 1)) 0 wiped_inside ∙ ap (λ (k : ℕ). get_or tail (n - (i + 1)) 0 ∷ drop k tail) z)

  next_place : wipe_places (suc (place + (n - (i + 1)))) (drop (n - i) tail) ≡ seen
  next_place = let z : suc (place + (n - (i + 1))) ≡ place + (n - i) = omega arith in ap (λ (p : ℕ). wipe_places p (drop (n - i) tail)) z

  pub wiped_blank : get_or tail (n - (i + 1)) 0 ≡ 255 → Wiped tail place n places count (i + 1)
  wiped_blank e =
      let q : wipe_places (place + (n - (i + 1))) (drop (n - (i + 1)) tail) ≡ seen = wiped_step ∙ wipe_places_blank _ _ _ (eq-eqb _ _ e) ∙ next_place in
      record { within = omega arith; inside = w.inside; few = w.few; area = w.area; fewer = omega (arith, w.fewer); counted = w.counted ∙ ap length (sym q); stored = w.stored ∙ ap (λ (ps : List ℕ). take 3 (ps ++ (0 ∷ 0 ∷ 0 ∷ []))) (sym q) }

  pub wiped_other : (get_or tail (n - (i + 1)) 0 ≡ 255 → ⊥) → Wiped tail place n (set places count (place + (n - (i + 1)))) (count + 1) (i + 1)
  wiped_other e =
      let p = place + (n - (i + 1)) in
      let q : wipe_places p (drop (n - (i + 1)) tail) ≡ seen ++ (p ∷ []) = wiped_step ∙ wipe_places_other _ _ _ (ne_eqb _ _ e) ∙ ap (λ (x : List ℕ). x ++ (p ∷ [])) next_place in
      record {
        within = omega arith;
        inside = w.inside;
        few = w.few;
        area = w.area;
        fewer = omega (arith, w.fewer);
        counted = rw (q, length-append) (omega (arith, w.counted));
        stored = rw q (ap (λ (x : List ℕ). set x count p) w.stored ∙ stored_next seen count p w.counted (omega (arith, w.fewer, w.few)));
      }

pub wiped_all_done : {tail : List ℕ} {place n : ℕ} {places : List ℕ} {count i : ℕ} (o : Opening) → Wiped tail place n places count i → n ≤ i
    → record { opening = o; places = places; count = count } ≡ opened_with o (wipe_places place tail)
wiped_all_done {tail} {place} {n} {places} {count} {i} o w h =
    let z : n - i ≡ 0 = omega (arith, w.within) in
    let y : place + (n - i) ≡ place = omega arith in
    let q : wipe_places (place + (n - i)) (drop (n - i) tail) ≡ wipe_places place tail = ap₂ (λ (p k : ℕ). wipe_places p (drop k tail)) y z in
    rw (w.counted, w.stored, q)

-- what a torn journal's tail has
pub torn_tail : (s : Season) (area : List ℕ) (v : AcceptedSeason s) (p : ℕ) → TornHere s area v p
    → (length (trim (take (length area - p) (drop p area))) ≤ 3) × (p + length (take (length area - p) (drop p area)) ≤ 8192)
torn_tail s area v p t = rw (tail_part p area) (t.short, rw length-drop (omega (arith, t.few, t.inside)))

take_placed : (ps : List ℕ) → length ps ≤ 3 → take (length ps) (take 3 (ps ++ (0 ∷ 0 ∷ 0 ∷ []))) ≡ ps
take_placed [] h = refl
take_placed (a ∷ []) h = refl
take_placed (a ∷ b ∷ []) h = refl
take_placed (a ∷ b ∷ c ∷ []) h = refl
take_placed (a ∷ b ∷ c ∷ d ∷ ps) h = absurd (omega arith)

pub few_wipe_places : (p : ℕ) (s : List ℕ) → length (trim s) ≤ 3 → length (wipe_places p s) ≤ 3
few_wipe_places p s h =
    let r = trim_is s in
    let e : wipe_places p s ≡ wipe_places p (trim s) = ap (wipe_places p) r.1 ∙ wipe_places_append p (trim s) r.0 in
    rw e (omega (arith, length_wipe_places p (trim s), unwiped_le (trim s)))

pub wipes_opened : (o : Opening) (ps : List ℕ) → length ps ≤ 3 → wipes_in (opened_with o ps) ≡ map wipe ps
unfolding wipes_in
wipes_opened o ps h = ap (map wipe) (take_placed ps h)

-- a torn opening's stores are FF at each place of a byte that is not FF, of which there are one to three
pub torn_stores : (s : Season) → AcceptedSeason s → (area : List ℕ) (l : Ledger) (place : ℕ) → opening s area ≡ Torn l place
    → (wipes_in (opened s area) ≡ map wipe (wipe_places place (drop place area))) × (1 ≤ (opened s area).count)
torn_stores s v area l place e =
    let ps = wipe_places place (drop place area) in
    let t = torn_here s area v (opening s area) l place refl e in
    rw (opened_torn s area refl e)
    (wipes_opened (Torn l place) ps (few_wipe_places place (drop place area) t.short), omega (arith, length_wipe_places place (drop place area), unwiped_some (drop place area) t.some))

-- ---- loss

or_false : (t u : Bool) → t || u ≡ false → u ≡ false
or_false true u h = absurd (true≢false h)
or_false false u h = h

-- a factor that refusal 17 lets pass
pub ky_most : (ky : ℕ) (torn : Bool) (place : ℕ) → first_of Accepted (loss_refusals ky torn place) ≡ Accepted → ky ≤ 200
ky_most ky torn place e =
    ltb-false 200 ky (or_false (ltb ky 1) (ltb 200 ky) (accepted_fails (ky_outside ky) 17 0 ((torn, 10, place) ∷ []) e).0)
