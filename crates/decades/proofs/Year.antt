-- The days of the year and its decades: how they go on from day to day.
use mathlib.Core.Path.{◌≡◌, refl, sym, ◌∙◌, ap}
use mathlib.Core.Bool.{Bool, true, false, cond, true≢false}
use mathlib.Core.List.{List, [], ◌∷◌}
use mathlib.Core.Logic.{◌⊎◌, inl, inr}
use Prim.Native.Nat.{ℕ, zero, suc, ◌+◌, ◌-◌, ◌*◌, ◌≤◌, ◌<◌}
use native.Mathlib.Omega.{arith}
use lib.Dec.{T, leb, eqb, leb→le, eqb→eq}
use lib.ListN.{get_or}
use borrow.Author.Tests.{le-leb, lt-leb, lt-ltb, eq-eqb, ne_eqb, eqb-true}
use Rattle.season.specs.declared.Date.{Date}
use Rattle.season.specs.Sheet.{Within}
use Rattle.season.specs.Calendar.{lengths, month_days, date_is, next_day, Proper}
use Rattle.season.proofs.Each.{both, both_left, both_right}
use Rattle.season.proofs.Whole.{by_order}
use Rattle.season.proofs.Calendar.{by_february, days_low, days_high, next_in_lem, next_over}
use Rattle.decades.specs.Table.{decade_of, same_decade}
use Rattle.decades.specs.OpenRow.{decade_end}

-- A test that antt computes at each number below n.
abbrev up_to : (ℕ → Bool) → ℕ → Bool
up_to f zero = true
up_to f (suc n) = both (f n) (up_to f n)

below : (f : ℕ → Bool) (n : ℕ) → T (up_to f n) → (k : ℕ) → k < n → T (f k)
below f zero t k h = absurd (omega arith)
below f (suc n) t k h =
    by_order k n
    (λ p. let e : n ≡ k = omega arith in rw e at (both_left (f n) (up_to f n) t))
    (λ p. below f n (both_right (f n) (up_to f n) t) k p)

-- The days of the year before each month, and of the whole year, where February has these days.
abbrev pub starts : ℕ → List ℕ
starts f = 0 ∷ 31 ∷ (31 + f) ∷ (62 + f) ∷ (92 + f) ∷ (123 + f) ∷ (153 + f) ∷ (184 + f) ∷ (215 + f) ∷ (245 + f) ∷ (276 + f) ∷ (306 + f) ∷ []

abbrev pub year_days : ℕ → ℕ
year_days f = 337 + f

abbrev pub offset : ℕ → ℕ → ℕ
offset f m = get_or (starts f) (m - 1) 0

-- The day of the year from 0, and the decade of the year, the first being 4.
abbrev pub year_day : ℕ → Date → ℕ
year_day f t = offset f t.month + t.day - 1

abbrev pub year_decade : Date → ℕ
year_decade t = 3 * t.month + decade_of t.day

first_decade : (d : ℕ) → d ≤ 10 → decade_of d ≡ 1
first_decade d h = rw (le-leb d 10 h)

second_decade : (d : ℕ) → 10 < d → d ≤ 20 → decade_of d ≡ 2
second_decade d h l = rw (lt-leb d 10 h, le-leb d 20 l)

third_decade : (d : ℕ) → 20 < d → decade_of d ≡ 3
third_decade d h = let l : 10 < d = omega arith in rw (lt-leb d 10 l, lt-leb d 20 h)

pub decade_within : (d : ℕ) → (1 ≤ decade_of d) × (decade_of d ≤ 3)
decade_within d =
    by_order 10 d (λ h. omega (arith, first_decade d h)) (λ h. by_order 20 d (λ l. omega (arith, second_decade d h l)) (λ l. omega (arith, third_decade d l)))

decade_up : (d e : ℕ) → d ≤ e → decade_of d ≤ decade_of e
decade_up d e h =
    by_order 10 d (λ p. omega (arith, first_decade d p, decade_within e))
    (λ p. by_order 20 d
    (λ q. by_order 20 e (λ r. omega (arith, second_decade d p q, second_decade e (omega arith) r)) (λ r. omega (arith, second_decade d p q, third_decade e r)))
    (λ q. omega (arith, third_decade d q, third_decade e (omega arith))))

decade_next : (d : ℕ) → (decade_of (d + 1) ≡ decade_of d) ⊎ (decade_of (d + 1) ≡ decade_of d + 1)
decade_next d =
    by_order 10 (d + 1) (λ p. inl (first_decade (d + 1) p ∙ sym (first_decade d (omega arith))))
    (λ p. by_order 10 d (λ q. inr (second_decade (d + 1) p (omega arith) ∙ sym (ap (λ (k : ℕ). k + 1) (first_decade d q))))
    (λ q. by_order 20 (d + 1) (λ r. inl (second_decade (d + 1) p r ∙ sym (second_decade d q (omega arith))))
    (λ r. by_order 20 d (λ s. inr (third_decade (d + 1) r ∙ sym (ap (λ (k : ℕ). k + 1) (second_decade d q s))))
    (λ s. inl (third_decade (d + 1) r ∙ sym (third_decade d s))))))

-- Up to its end a decade stays.
pub decade_stays : (d k : ℕ) → k ≤ decade_end d - d → decade_of (d + k) ≡ decade_of d
decade_stays d k h =
    by_order 10 d
    (λ p. let e : decade_end d ≡ 10 = rw (le-leb d 10 p) in first_decade (d + k) (omega arith) ∙ sym (first_decade d p))
    (λ p. by_order 20 d
    (λ q. let e : decade_end d ≡ 20 = rw (lt-leb d 10 p, le-leb d 20 q) in second_decade (d + k) (omega arith) (omega arith) ∙ sym (second_decade d p q))
    (λ q. third_decade (d + k) (omega arith) ∙ sym (third_decade d q)))

-- The same month and decade.
pub both_same : (month decade m d : ℕ) → same_decade month decade m d ≡ true → (month ≡ m) × (decade ≡ d)
both_same month decade m d e = go (eqb month m) refl
  where
    go : (b : Bool) → eqb month m ≡ b → (month ≡ m) × (decade ≡ d)
    go true h = (eqb-true _ _ h, eqb-true _ _ (rw h at e))
    go false h = absurd (true≢false (sym (rw h at e)))

pub same_both : (month decade m d : ℕ) → month ≡ m → decade ≡ d → same_decade month decade m d ≡ true
same_both month decade m d e f = rw (eq-eqb month m e, eq-eqb decade d f)

-- 1 where the second day is of another decade of the calendar than the first, and else 0.
abbrev pub same_dates : Date → Date → Bool
same_dates a b = same_decade a.month (decade_of a.day) b.month (decade_of b.day)

abbrev pub fresh : Date → Date → ℕ
fresh a b = cond (same_dates a b) 0 1

fresh_in : (m d e : ℕ) → (decade_of e ≡ decade_of d) ⊎ (decade_of e ≡ decade_of d + 1) → decade_of e ≡ decade_of d + fresh (date_is m d) (date_is m e)
fresh_in m d e (inl h) = rw (eq-eqb m m refl, eq-eqb (decade_of d) (decade_of e) (sym h)) (omega arith)
fresh_in m d e (inr h) = rw (eq-eqb m m refl, ne_eqb (decade_of d) (decade_of e) (λ z. omega arith)) h

fresh_over : (m d n e : ℕ) → (m ≡ n → ⊥) → fresh (date_is m d) (date_is n e) ≡ 1
fresh_over m d n e h = rw (ne_eqb m n h)

-- From one day to the next: a day on in the year, or from its last to its first.
unfoldable pub Next : ℕ → Date → Date → Type 0
Next f t u = ((year_day f u ≡ year_day f t + 1) × (year_decade u ≡ year_decade t + fresh t u))
    ⊎ ((year_day f t + 1 ≡ year_days f) × (year_day f u ≡ 0) × (year_decade u + 36 ≡ year_decade t + fresh t u))

module _ {february : ℕ} (range : Within 28 29 february) where
  -- A test of each of the first n months, which antt computes at 28 and at 29.
  each : (f : ℕ → ℕ → Bool) (n : ℕ) → T (up_to (f 28) n) → T (up_to (f 29) n) → (k : ℕ) → k < n → T (f february k)
  each f n p q = below (f february) n (by_february (λ (days : ℕ). T (up_to (f days) n)) p q february range)

  offset_next : (k : ℕ) → k < 11 → get_or (starts february) (k + 1) 0 ≡ get_or (starts february) k 0 + get_or (lengths february) k 0
  offset_next k h = eqb→eq _ _ (each (λ f j. eqb (get_or (starts f) (j + 1) 0) (get_or (starts f) j 0 + get_or (lengths f) j 0)) 11 tt tt k h)

  -- A month that begins before another ends before it begins.
  offset_order : (j k : ℕ) → j < k → k < 12 → get_or (starts february) j 0 + get_or (lengths february) j 0 ≤ get_or (starts february) k 0
  offset_order j k h l =
      leb→le _ _ (below (λ i. leb (get_or (starts february) i 0 + get_or (lengths february) i 0) (get_or (starts february) k 0)) k
      (each (λ f n. up_to (λ i. leb (get_or (starts f) i 0 + get_or (lengths f) i 0) (get_or (starts f) n 0)) n) 12 tt tt k l) j h)

  -- A later day of the year is of no earlier decade.
  pub year_order : (a b : Date) → Proper february a → Proper february b → year_day february a ≤ year_day february b → year_decade a ≤ year_decade b
  year_order a b p q h =
      by_order a.month b.month
      (λ l. by_order b.month a.month
      (λ m. let e : a.month ≡ b.month = omega arith in
      let o : offset february a.month ≡ offset february b.month = ap (offset february) e in
      omega (arith, decade_up a.day b.day (omega (arith, p.day_low, q.day_low))))
      (λ m. absurd (omega (arith, offset_order (b.month - 1) (a.month - 1) (omega (arith, p.month_low, q.month_low)) (omega (arith, p.month_high)), q.day_high, p.day_low, q.day_low))))
      (λ l. omega (arith, decade_within a.day, decade_within b.day))

  next_inside : (m d : ℕ) → 1 ≤ d → d < month_days february m → Next february (date_is m d) (next_day february (date_is m d))
  unfolding Next
  next_inside m d h l =
      rw (next_in_lem february m d l) (inl (omega arith, omega (arith, fresh_in m d (d + 1) (decade_next d))))

  next_year : Next february (date_is 12 31) (date_is 1 1)
  unfolding Next
  next_year = inr (omega arith, refl, refl)

  next_month : (m d : ℕ) → 1 ≤ m → m < 12 → d ≡ month_days february m → Next february (date_is m d) (date_is (m + 1) 1)
  unfolding Next
  next_month m d p l e =
      let long : 20 < d = omega (arith, days_low range m p (omega arith)) in
      let k : m + 1 - 1 ≡ m - 1 + 1 = omega arith in
      let o : offset february (m + 1) ≡ offset february m + month_days february m = ap (λ (j : ℕ). get_or (starts february) j 0) k ∙ offset_next (m - 1) (omega arith) in
      let f : fresh (date_is m d) (date_is (m + 1) 1) ≡ 1 = fresh_over m d (m + 1) 1 (λ z. omega arith) in
      inl (omega arith, omega (arith, third_decade d long))

  pub next : (t : Date) → Proper february t → Next february t (next_day february t)
  next t p =
      by_order t.day (month_days february t.month)
      (λ h. let e : t.day ≡ month_days february t.month = omega (arith, p.day_high) in
      by_order t.month 12
      (λ l. let m : t.month ≡ 12 = omega (arith, p.month_high) in
      let d : t.day ≡ 31 = e ∙ ap (month_days february) m in
      let w : t ≡ date_is 12 31 = (λ i. record { month = m i; day = d i }) in
      rw w (rw (next_over february 12 31 (omega arith)) next_year))
      (λ l. rw (next_over february t.month t.day h) (rw (lt-ltb t.month 12 l) (next_month t.month t.day p.month_low l e))))
      (λ h. next_inside t.month t.day p.day_low h)

  pub year_within : (t : Date) → Proper february t → year_day february t < year_days february
  year_within t p =
      let l : offset february t.month + month_days february t.month ≤ year_days february = leb→le _ _ (each (λ f k. leb (get_or (starts f) k 0 + get_or (lengths f) k 0) (year_days f)) 12 tt tt (t.month - 1) (omega (arith, p.month_low, p.month_high))) in
      omega (arith, p.day_low, p.day_high)

  -- Dates are in the order of 32 × month + day.
  pub year_before : (a b : Date) → Proper february a → Proper february b → 32 * a.month + a.day < 32 * b.month + b.day → year_day february a < year_day february b
  year_before a b p q h =
      by_order b.month a.month
      (λ l. by_order a.month b.month
      (λ m. let e : a.month ≡ b.month = omega arith in
      let o : offset february a.month ≡ offset february b.month = ap (offset february) e in
      omega (arith, p.day_low))
      (λ m. omega (arith, offset_order (a.month - 1) (b.month - 1) (omega (arith, p.month_low)) (omega (arith, q.month_high)), p.day_high, p.day_low, q.day_low)))
      (λ l. absurd (omega (arith, days_high range b.month q.month_low q.month_high, q.day_high, p.day_low)))

  pub year_after : (a b : Date) → Proper february a → Proper february b → 32 * a.month + a.day ≤ 32 * b.month + b.day → year_day february a ≤ year_day february b
  year_after a b p q h =
      by_order (32 * a.month + a.day) (32 * b.month + b.day)
      (λ l. let m : a.month ≡ b.month = omega (arith, days_high range a.month p.month_low p.month_high, p.day_high, p.day_low, days_high range b.month q.month_low q.month_high, q.day_high, q.day_low) in
      let o : offset february a.month ≡ offset february b.month = ap (offset february) m in
      omega arith)
      (λ l. omega (arith, year_before a b p q l))

  -- A decade has ten days, give or take: the day of the year by the decades before it.
  month_slope : (k : ℕ) → k < 12 → (30 * k + february ≤ get_or (starts february) k 0 + 29) × (get_or (starts february) k 0 + 24 ≤ 30 * k + february)
  month_slope k h = (
    leb→le _ _ (each (λ f j. leb (30 * j + f) (get_or (starts f) j 0 + 29)) 12 tt tt k h),
    leb→le _ _ (each (λ f j. leb (get_or (starts f) j 0 + 24) (30 * j + f)) 12 tt tt k h),
  )

  pub year_slope : (t : Date) → Proper february t → (10 * year_decade t + february ≤ year_day february t + 69) × (year_day february t + 54 ≤ 10 * year_decade t + february)
  year_slope t p =
      let m = month_slope (t.month - 1) (omega (arith, p.month_low, p.month_high)) in
      let high = days_high range t.month p.month_low p.month_high in
      by_order 10 t.day
      (λ h. omega (arith, first_decade t.day h, p.month_low, p.day_low))
      (λ h. by_order 20 t.day
      (λ l. omega (arith, second_decade t.day h l, p.month_low))
      (λ l. omega (arith, third_decade t.day l, p.month_low, p.day_high)))
