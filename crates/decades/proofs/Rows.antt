-- The walk over the days: the row that is open, the rows that are closed, and the buffer that holds these.
use mathlib.Core.Path.{◌≡◌, refl, sym, ◌∙◌, ap, subst}
use mathlib.Core.Bool.{Bool, true, false}
use mathlib.Core.List.{List, [], ◌∷◌, ◌++◌}
use Prim.Native.Nat.{ℕ, zero, suc, ◌+◌, ◌-◌, ◌*◌, ◌<◌, ◌≤◌}
use native.Mathlib.Nat.{le_refl, le_trans, add_assoc}
use native.Mathlib.Numerals.{add-one}
use native.Mathlib.Decide.{le_ind}
use native.Mathlib.Omega.{arith}
use lib.ListN.{length, drop, length-append, length-drop}
use lib.Seq.{sets, sets-eq, take_at, drop-append-add, drop-drop}
use borrow.Author.Tests.{lt-ltb, le-ltb}
use Rattle.season.specs.declared.Season.{Season}
use Rattle.season.specs.declared.SeasonDay.{SeasonDay}
use Rattle.season.specs.Calendar.{month_after}
use Rattle.season.specs.Sheet.{Valid, DayOf, season_days, longest_season}
use Rattle.season.specs.Rules.{rain_to}
use Rattle.season.specs.Day.{crop_need, rain_on}
use Rattle.season.specs.Carried.{needs_after, day_of, OnDay}
use Rattle.season.proofs.Whole.{by_order}
use Rattle.season.proofs.Bounds.{need_le}
use Rattle.season.proofs.Days.{OnInMonth, number_is, on_day, day_proper, rain_grows, next_inside, next_month}
use Rattle.season.proofs.Along.{along, along_on}
use Rattle.decades.specs.declared.Row.{Row}
use Rattle.decades.specs.Table.{decade_of, day_row, same_decade, joined, with_day, rows_to, row_count, six, flat, table}
use Rattle.decades.specs.OpenRow.{row_of, days_alike}
use Rattle.decades.proofs.Year.{decade_stays, both_same, same_both}
use Rattle.decades.proofs.Count.{rows_at_most}

-- ---- the rows of the definition

-- A day that joins the latest row, one that begins a row, and the first.
same_row : (s : Season) (i : ℕ) (q : Row) (qs : List Row) (r : Row) → rows_to s i ≡ q ∷ qs → day_row s (i + 1) ≡ r
    → same_decade q.month q.decade r.month r.decade ≡ true → rows_to s (i + 1) ≡ joined q r ∷ qs
unfolding rows_to with_day
same_row s i q qs r e d t = rw (add-one, e, ← (ap (day_row s) (add-one i)), d) (rw t)

new_row : (s : Season) (i : ℕ) (q : Row) (qs : List Row) (r : Row) → rows_to s i ≡ q ∷ qs → day_row s (i + 1) ≡ r
    → same_decade q.month q.decade r.month r.decade ≡ false → rows_to s (i + 1) ≡ r ∷ q ∷ qs
unfolding rows_to with_day
new_row s i q qs r e d t = rw (add-one, e, ← (ap (day_row s) (add-one i)), d) (rw t)

first_row : (s : Season) (i : ℕ) (r : Row) → i ≡ 1 → day_row s i ≡ r → rows_to s i ≡ r ∷ []
unfolding rows_to with_day
first_row s i r e d = ap (rows_to s) e ∙ ap (λ (q : Row). q ∷ []) (ap (day_row s) (sym e) ∙ d)

-- Rows do not go away.
with_more : (qs : List Row) (r : Row) → length qs ≤ length (with_day qs r)
unfolding with_day
with_more [] r = omega arith
with_more (q ∷ qs) r = go (same_decade q.month q.decade r.month r.decade) refl
  where
    go : (t : Bool) → same_decade q.month q.decade r.month r.decade ≡ t → length (q ∷ qs) ≤ length (with_day (q ∷ qs) r)
    go true e = rw e (omega arith)
    go false e = rw e (omega arith)

rows_more : (s : Season) (i j : ℕ) → i ≤ j → length (rows_to s i) ≤ length (rows_to s j)
unfolding rows_to
rows_more s i = le_ind (λ (j : ℕ). length (rows_to s i) ≤ length (rows_to s j)) (le_refl _)
    (λ m h ih. le_trans ih (with_more (rows_to s m) (day_row s (suc m))))

pub length_flat : (e : ℕ) (rs : List Row) → length (flat e rs) ≡ length rs * 6
unfolding flat six
length_flat e [] = refl
length_flat e (r ∷ rs) = simp length-append (omega (arith, length_flat e rs))

-- One row more in the buffer.
put_more : (e : ℕ) (rs : List Row) (r : Row) (l : List ℕ) → length rs * 6 + 6 ≤ length l
    → sets (flat e rs ++ drop (length rs * 6) l) (length rs * 6) (six e r) ≡ flat e (r ∷ rs) ++ drop (length rs * 6 + 6) l
unfolding flat six
put_more e rs r l h =
    let F = flat e rs in
    let k = length rs * 6 in
    let n : length F ≡ k = length_flat e rs in
    let room : k + 6 ≤ length (F ++ drop k l) = simp (length-append, length-drop) (omega arith) in
    sets-eq (six e r) (F ++ drop k l) k room
    ∙ ap (λ (x : List ℕ). x ++ six e r ++ drop (k + 6) (F ++ drop k l)) (take_at F (drop k l) k n)
    ∙ ap (λ (x : List ℕ). F ++ six e r ++ x)
    (ap (λ (x : ℕ). drop (x + 6) (F ++ drop k l)) (sym n) ∙ drop-append-add F (drop k l) 6 ∙ drop-drop 6 k l)

-- ---- a day of the season

pub first_day : {s : Season} → Valid s → DayOf s 1
first_day v = record { from = omega arith; to = omega (arith, v.ranges.initial.low≤) }

-- A row of one day.
day_row_lem : {s : Season} {t : SeasonDay} → OnDay s t → day_row s t.number ≡ row_of t (crop_need s t.number) (rain_to t.effective (t.day - 1) t.length)
unfolding day_row day_of rain_on
day_row_lem {s} {t} o =
    sym (ap (λ (d : SeasonDay). row_of d (crop_need s t.number) (rain_to d.effective (d.day - 1) d.length)) o.is)

other_month : (m : ℕ) → m ≤ 12 → m ≡ month_after m → ⊥
other_month m h e =
    by_order m 12
    (λ l. let n : month_after m ≡ 1 = rw (le-ltb m 12 l) in omega arith)
    (λ l. let n : month_after m ≡ m + 1 = rw (lt-ltb m 12 l) in omega arith)

-- Where the month stays, its numbers do.
month_on : {s : Season} {t u : SeasonDay} → Valid s → OnDay s t → u ≡ day_of s (t.number + 1) → t.month ≡ u.month → OnInMonth t u
month_on {s} {t} {u} v o e m =
    by_order t.day t.length
    (λ h. absurd (other_month t.month (day_proper v o).month_high (m ∙ ap (λ (d : SeasonDay). d.month) (e ∙ sym (next_month v o h)))))
    (λ h. rw e (next_inside v o h))

-- ---- the walk

-- The rows before the latest.
abbrev rest : List Row → List Row
rest [] = []
rest (q ∷ qs) = qs

-- On day t: `need` and `before` give the open row, and the closed rows take `at` numbers.
pub record Rows (s : Season) (n : ℕ) (t : SeasonDay) (at need before : ℕ) : Type 0 where
  pub valid : Valid s
  pub on : OnDay s t
  pub season : n ≡ season_days s
  pub is : rows_to s t.number ≡ row_of t need before ∷ rest (rows_to s t.number)
  pub count : at ≡ length (rest (rows_to s t.number)) * 6
  pub least : before ≤ rain_to t.effective t.day t.length
  pub small : need ≤ t.number * 3000

rain_back : {t u : SeasonDay} → OnInMonth t u → rain_to u.effective (u.day - 1) u.length ≡ rain_to t.effective t.day t.length
rain_back {t} {u} o =
    let d : u.day - 1 ≡ t.day = omega (arith, o.day) in
    rw (d, o.length, o.effective)

rains : {a b c d : ℕ} → b ≤ a → c ≤ d → c ≡ a → (a - b) + (d - c) ≡ d - b
rains p q e = omega arith

pub rows_start : {s : Season} {n need before : ℕ} {t : SeasonDay} → Valid s → n ≡ season_days s → t ≡ day_of s 1 → need ≡ crop_need s t.number
    → before ≡ rain_to t.effective (t.day - 1) t.length → Rows s n t 0 need before
rows_start {s} {n} {need} {before} {t} v e d nd b =
    let o = on_day s t 1 (first_day v) d in
    let one : t.number ≡ 1 = number_is s t 1 d in
    let f : rows_to s t.number ≡ row_of t need before ∷ [] = rw (nd, b) (first_row s t.number _ one (day_row_lem o)) in
    record {
      valid = v;
      on = o;
      season = e;
      is = f ∙ ap (λ (qs : List Row). row_of t need before ∷ rest qs) (sym f);
      count = ap (λ (qs : List Row). length (rest qs) * 6) (sym f);
      least = rw b (rain_grows v o);
      small = omega (arith, need_le s t.number v o.of);
    }

module _ {s : Season} {n at need before : ℕ} {t : SeasonDay} (w : Rows s n t at need before) where
  -- The day after, where there is one.
  pub next_on : {u : SeasonDay} → t.number < n → u ≡ day_of s (t.number + 1) → OnDay s u
  next_on {u} h e = on_day s u (t.number + 1) (record { from = omega arith; to = omega (arith, w.season) }) e

  pub rows_many : (length (rows_to s t.number) * 6 ≡ at + 6) × (at + 6 ≤ row_count s * 6) × (at + 6 ≤ 174)
  rows_many =
      let c = ap length w.is in
      let m = rows_more s t.number (season_days s) w.on.of.to in
      let r = rows_at_most s w.valid in
      (omega (arith, w.count, c), omega (arith, w.count, c, m), omega (arith, w.count, c, m, r))

  pub need_small : need ≤ 3000 * longest_season
  need_small = omega (arith, w.small, w.on.of.to, w.valid.year)

  module _ {more : ℕ} {u : SeasonDay} (h : t.number < n) (e : u ≡ day_of s (t.number + 1)) (m : more ≡ crop_need s u.number) where
    next_number : u.number ≡ t.number + 1
    next_number = number_is s u (t.number + 1) e

    pub more_at_most : more ≤ 3000
    more_at_most = rw m (need_le s u.number w.valid (next_on h e).of)

    -- The day by itself.
    alone : day_row s (t.number + 1) ≡ row_of u more (rain_to u.effective (u.day - 1) u.length)
    alone = rw (← next_number, m) (day_row_lem (next_on h e))

    -- The rows that are closed after it.
    rest_same : same_decade t.month (decade_of t.day) u.month (decade_of u.day) ≡ true → rest (rows_to s t.number) ≡ rest (rows_to s u.number)
    rest_same q = sym (ap rest (ap (rows_to s) next_number ∙ same_row s t.number _ _ _ w.is alone q))

    rest_new : same_decade t.month (decade_of t.day) u.month (decade_of u.day) ≡ false → row_of t need before ∷ rest (rows_to s t.number) ≡ rest (rows_to s u.number)
    rest_new q = sym (ap rest (ap (rows_to s) next_number ∙ new_row s t.number _ _ _ w.is alone q))

    -- The day joins the open row.
    pub rows_same : same_decade t.month (decade_of t.day) u.month (decade_of u.day) ≡ true → Rows s n u at (need + more) before
    rows_same q =
        let f = same_row s t.number _ _ _ w.is alone q in
        let same = both_same _ _ _ _ q in
        let on = month_on w.valid w.on e same.0 in
        let up = rain_grows w.valid (next_on h e) in
        let back : rain_to u.effective (u.day - 1) u.length ≡ rain_to t.effective t.day t.length = rain_back on in
        let sum : (rain_to t.effective t.day t.length - before) + (rain_to u.effective u.day u.length - rain_to u.effective (u.day - 1) u.length) ≡ rain_to u.effective u.day u.length - before = rains w.least up back in
        let g : joined (row_of t need before) (row_of u more (rain_to u.effective (u.day - 1) u.length)) ≡ row_of u (need + more) before = (λ i. record { month = same.0 i; decade = same.1 i; need = need + more; rain = sum i }) in
        let k : rows_to s u.number ≡ row_of u (need + more) before ∷ rest (rows_to s t.number) = ap (rows_to s) next_number ∙ f ∙ ap (λ (r : Row). r ∷ rest (rows_to s t.number)) g in
        record {
          valid = w.valid;
          on = next_on h e;
          season = w.season;
          is = k ∙ ap (λ (qs : List Row). row_of u (need + more) before ∷ rest qs) (sym k);
          count = w.count ∙ ap (λ (qs : List Row). length (rest qs) * 6) (sym k);
          least = omega (arith, w.least, up, back);
          small = omega (arith, w.small, more_at_most, next_number);
        }

    -- The day begins a row.
    pub rows_new : {b : ℕ} → same_decade t.month (decade_of t.day) u.month (decade_of u.day) ≡ false
        → b ≡ rain_to u.effective (u.day - 1) u.length → Rows s n u (at + 6) more b
    rows_new {b} q r =
        let f : rows_to s u.number ≡ row_of u more b ∷ row_of t need before ∷ rest (rows_to s t.number) = ap (rows_to s) next_number ∙ rw r (new_row s t.number _ _ _ w.is alone q) in
        record {
          valid = w.valid;
          on = next_on h e;
          season = w.season;
          is = f ∙ ap (λ (qs : List Row). row_of u more b ∷ rest qs) (sym f);
          count = omega (arith, w.count, ap (λ (qs : List Row). length (rest qs) * 6) f);
          least = rw r (rain_grows w.valid (next_on h e));
          small = omega (arith, more_at_most, next_number);
        }

  -- At the season's end the open row is the last.
  rows_all : n ≤ t.number → rows_to s (season_days s) ≡ row_of t need before ∷ rest (rows_to s t.number)
  rows_all h = let e : season_days s ≡ t.number = omega (arith, w.season, w.on.of.to) in rw e w.is

  rows_end : n ≤ t.number → at + 6 ≡ row_count s * 6
  rows_end h = let e : season_days s ≡ t.number = omega (arith, w.season, w.on.of.to) in rw e (sym rows_many.0)

-- The walk with the buffer: l₀ is what came in, and l holds the closed rows and what stood beyond.
pub record Filling (s : Season) (n : ℕ) (t : SeasonDay) (at need before : ℕ) (l₀ l : List ℕ) : Type 0 where
  pub rows : Rows s n t at need before
  pub space : row_count s * 6 ≤ length l₀
  pub buffer : l ≡ flat s.efficiency (rest (rows_to s t.number)) ++ drop at l₀

pub filling_start : {s : Season} {n need before : ℕ} {t : SeasonDay} {l : List ℕ} → Valid s → n ≡ season_days s → t ≡ day_of s 1
    → need ≡ crop_need s t.number → before ≡ rain_to t.effective (t.day - 1) t.length → row_count s * 6 ≤ length l
    → Filling s n t 0 need before l l
unfolding flat
filling_start {s} {n} {need} {before} {t} {l} v e d nd b h =
    let w = rows_start v e d nd b in
    record {
      rows = w;
      space = h;
      buffer = ap (λ (qs : List Row). flat s.efficiency qs ++ drop 0 l) (none (rest (rows_to s t.number)) w.count);
    }
  where
    none : (qs : List Row) → 0 ≡ length qs * 6 → [] ≡ qs
    none [] z = refl
    none (q ∷ qs) z = absurd (omega arith)

module _ {s : Season} {n at need before : ℕ} {t : SeasonDay} {l₀ l : List ℕ} (f : Filling s n t at need before l₀ l) where
  fits₀ : at + 6 ≤ length l₀
  fits₀ = omega (arith, f.space, (rows_many f.rows).1)

  pub filling_length : length l ≡ length l₀
  filling_length = rw f.buffer (simp (length-append, length-drop, length_flat) (omega (arith, fits₀, f.rows.count)))

  -- What row_of and put_row require.
  pub filling_rain : Valid s × (OnDay s t × (before ≤ rain_to t.effective t.day t.length))
  filling_rain = (f.rows.valid, (f.rows.on, f.rows.least))

  pub filling_room : {r : Row} → r ≡ row_of t need before
      → (at + 6 ≤ length l) × ((1 ≤ s.efficiency) × (s.efficiency ≤ 100) × (r.need ≤ 40000000))
  filling_room e =
      let v = f.rows.valid.ranges.efficiency in
      (omega (arith, fits₀, filling_length), (v.low≤, v.≤high, rw e (omega (arith, need_small f.rows))))

  -- The open row is put.
  put : {r : Row} {l' : List ℕ} → r ≡ row_of t need before → l' ≡ sets l at (six s.efficiency r)
      → l' ≡ flat s.efficiency (row_of t need before ∷ rest (rows_to s t.number)) ++ drop (at + 6) l₀
  put e g =
      g ∙ rw (e, f.buffer, f.rows.count) (put_more s.efficiency (rest (rows_to s t.number)) (row_of t need before) l₀ (omega (arith, fits₀, f.rows.count)))

  module _ {more : ℕ} {u : SeasonDay} (h : t.number < n) (e : u ≡ day_of s (t.number + 1)) (m : more ≡ crop_need s u.number) where
    pub filling_same : same_decade t.month (decade_of t.day) u.month (decade_of u.day) ≡ true → Filling s n u at (need + more) before l₀ l
    filling_same q = record { rows = rows_same f.rows h e m q; space = f.space; buffer = f.buffer ∙ ap (λ (qs : List Row). flat s.efficiency qs ++ drop at l₀) (rest_same f.rows h e m q) }

    pub filling_new : {b : ℕ} {r : Row} {l' : List ℕ} → same_decade t.month (decade_of t.day) u.month (decade_of u.day) ≡ false
        → b ≡ rain_to u.effective (u.day - 1) u.length → r ≡ row_of t need before → l' ≡ sets l at (six s.efficiency r)
        → Filling s n u (at + 6) more b l₀ l'
    filling_new {b} q x y g =
        record {
          rows = rows_new f.rows h e m q x;
          space = f.space;
          buffer = put y g ∙ ap (λ (qs : List Row). flat s.efficiency qs ++ drop (at + 6) l₀) (rest_new f.rows h e m q);
        }

  -- The season's end: the last row is put.
  pub filling_end : {r : Row} {l' : List ℕ} → n ≤ t.number → r ≡ row_of t need before → l' ≡ sets l at (six s.efficiency r)
      → l' ≡ table s ++ drop (row_count s * 6) l₀
  filling_end h y g = put y g ∙ rw (rows_end f.rows h, rows_all f.rows h)

module _ {s : Season} {n at need before : ℕ} {t : SeasonDay} {l₀ l : List ℕ} (f : Filling s n t at need before l₀ l) where
  -- The k days after t join the open row, one by one.
  filling_days : (k : ℕ) → k ≤ days_alike t → Filling s n (day_of s (t.number + k)) at (need + needs_after s t.number k) before l₀ l
  unfolding needs_after
  filling_days zero h =
      let d : t ≡ day_of s (t.number + 0) = f.rows.on.is ∙ ap (day_of s) (omega arith) in
      let x : need ≡ need + 0 = omega arith in
      subst (λ (y : ℕ). Filling s n (day_of s (t.number + 0)) at y before l₀ l) x (subst (λ (u : SeasonDay). Filling s n u at need before l₀ l) d f)
  filling_days (suc k) h =
      let v = f.rows.valid in
      let o = f.rows.on in
      let a = along v o k (omega arith) in
      let b = along v o (suc k) (omega arith) in
      let c = along_on v o (suc k) (omega arith) in
      let d : day_of s (t.number + suc k) ≡ day_of s ((day_of s (t.number + k)).number + 1) = ap (day_of s) (omega (arith, a.number)) in
      let on : decade_of (day_of s (t.number + k)).day ≡ decade_of (day_of s (t.number + suc k)).day = rw (a.day, b.day) (decade_stays t.day k (omega arith) ∙ sym (decade_stays t.day (suc k) (omega arith))) in
      let g = filling_same (filling_days k (omega arith)) (omega (arith, a.number, b.number, f.rows.season, c.of.to)) d (ap (crop_need s) (sym b.number)) (same_both _ _ _ _ (a.month ∙ sym b.month) on) in
      subst (λ (y : ℕ). Filling s n (day_of s (t.number + suc k)) at y before l₀ l) (add_assoc need (needs_after s t.number k) (crop_need s (t.number + suc k))) g

  -- All the days after t that are of its month, stage and decade.
  pub filling_along : {days more : ℕ} {u : SeasonDay} → days ≡ days_alike t → more ≡ needs_after s t.number days → u ≡ day_of s (t.number + days)
      → Filling s n u at (need + more) before l₀ l
  filling_along {days} e m d = rw (m, d) (filling_days days (omega (arith, e)))
