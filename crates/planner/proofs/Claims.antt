-- The proofs of `specs/Claims.antt`, in its order.
use mathlib.Core.Path.{◌≡◌, refl, sym, ◌∙◌, ap}
use mathlib.Core.Logic.{◌↔◌, ◌⊎◌, inl, inr}
use mathlib.Core.Bool.{Bool, true, false}
use mathlib.Core.List.{List, [], ◌∷◌, ◌++◌}
use Prim.Native.Nat.{ℕ, zero, suc, ◌+◌, ◌-◌, ◌*◌, ◌/◌, ◌≤◌, ◌<◌}
use native.Mathlib.Omega.{arith}
use native.Mathlib.Nat.{div-lt_iff_lt-mul}
use lib.Dec.{ltb}
use lib.ListN.{length, take, drop}
use lib.Seq.{take_at, drop_at}
use borrow.Author.Tests.{ltb-true, lt-ltb, le-ltb}
use Rattle.season.specs.declared.Season.{Season}
use Rattle.season.specs.Sheet.{Valid, DayOf, longest_season}
use Rattle.season.specs.declared.Net.{Net}
use Rattle.season.specs.declared.Gross.{Gross}
use Rattle.planner.specs.Answer.{Planned, Made, Refused, numbers_of, answer_to, answer}
use Rattle.planner.specs.Choices.{Outlook, planned_day, Holds, irrigated, Fills, NoMore, Best, FirstLost, NoChoice}
use Rattle.planner.specs.Plan.{Plan, depths, refused, plan}
use Rattle.planner.specs.Outlook.{outlook, days_left}
use Rattle.planner.specs.Claims.{MadeRight, Occurs, Claims}
use Rattle.planner.proofs.Days.{Right}
use Rattle.planner.proofs.Walks.{walks_right}
use Rattle.planner.proofs.Bounds.{plan_made, net_at_most}
use Rattle.planner.proofs.Bank.{bank_limit, bank_alone}

plan_refused : (o : Outlook) (k d D f : ℕ) → plan o k d D ≡ refused f → FirstLost o k d D f
plan_refused o k d D f e = rw e at (walks_right o k d D)

choice_planned : (o : Outlook) (k d D : ℕ) (ys : List ℕ) → length ys ≡ k → Holds o d D ys → (xs : List ℕ) × (plan o k d D ≡ depths xs) × NoMore xs ys
choice_planned o k d D ys l h = go (plan o k d D) (walks_right o k d D) refl
  where
    go : (p : Plan) → Right o k d D p → plan o k d D ≡ p → (xs : List ℕ) × (plan o k d D ≡ depths xs) × NoMore xs ys
    go (depths xs) b e = (xs, e, b.fewest ys l h)
    go (refused f) b e = absurd (b.1 ys (omega arith) h)

refused_iff : (o : Outlook) (k d D : ℕ) → ((f : ℕ) × (plan o k d D ≡ refused f)) ↔ NoChoice o k d D
refused_iff o k d D = (λ r. none (plan_refused o k d D r.0 r.1), go (plan o k d D) (walks_right o k d D))
  where
    none : {f : ℕ} → FirstLost o k d D f → NoChoice o k d D
    none b ys l h = b.1 ys (omega arith) h

    go : (p : Plan) → Right o k d D p → NoChoice o k d D → (f : ℕ) × (p ≡ refused f)
    go (depths xs) b none = absurd (none xs b.size b.holds)
    go (refused f) b none = (f, refl)

-- Choices with the same irrigated days, each filled with the smallest depth, are one.
same_days : (o : Outlook) (d D : ℕ) (xs ys : List ℕ) → length xs ≡ length ys → Fills o d D xs → Fills o d D ys
    → ((j : ℕ) → irrigated (take j xs) ≡ irrigated (take j ys)) → xs ≡ ys
unfolding Fills irrigated
same_days o d D [] [] l p q c = refl
same_days o d D [] (y ∷ ys) l p q c = absurd (omega arith)
same_days o d D (x ∷ xs) [] l p q c = absurd (omega arith)
same_days o d D (zero ∷ xs) (zero ∷ ys) l p q c = ap (λ zs. 0 ∷ zs) (same_days o (suc d) (planned_day o d D 0) xs ys (omega arith) p.1 q.1 (λ j. c (suc j)))
same_days o d D (zero ∷ xs) (suc y ∷ ys) l p q c = absurd (omega (arith, c 1))
same_days o d D (suc x ∷ xs) (zero ∷ ys) l p q c = absurd (omega (arith, c 1))
same_days o d D (suc x ∷ xs) (suc y ∷ ys) l p q c =
    let same : suc y ≡ suc x = q.0 (omega arith) ∙ sym (p.0 (omega arith)) in
    rw same (ap (λ zs. suc x ∷ zs) (same_days o (suc d) (planned_day o d D (suc x)) xs ys (omega arith) p.1 (rw same at q.1) (λ j. omega (arith, c (suc j)))))

best_one : (o : Outlook) (k d D : ℕ) (xs ys : List ℕ) → Best o k d D xs → Best o k d D ys → xs ≡ ys
best_one o k d D xs ys a b =
    same_days o d D xs ys (omega arith) a.fills b.fills
    (λ j. omega (arith, a.fewest ys b.size b.holds j, b.fewest xs a.size a.holds j))

-- what is said of refusal 15, and of 16
at_15 : {P Q : Type 0} (n : ℕ) → ((n ≡ 15) × P) ⊎ ((n ≡ 16) × Q) → n ≡ 15 → P
at_15 n (inl h) e = h.1
at_15 n (inr h) e = absurd (omega (arith, h.0))

at_16 : {P Q : Type 0} (n : ℕ) → ((n ≡ 15) × P) ⊎ ((n ≡ 16) × Q) → n ≡ 16 → Q
at_16 n (inl h) e = absurd (omega (arith, h.0))
at_16 n (inr h) e = h.1

module _ (s : Season) (today D waiting : ℕ) (l : List ℕ) where
  -- the plan for this season and ledger
  abbrev made : Plan
  made = plan (outlook s today waiting) (days_left s today) today D

  -- what an answer says
  abbrev Says : Planned → List ℕ → Type 0
  Says (Made days net gross) m = MadeRight s today D waiting l m days net.0 gross.0
  Says (Refused number f) m =
      (m ≡ l) × (((number ≡ 15) × (length l < days_left s today)) ⊎ ((number ≡ 16) × FirstLost (outlook s today waiting) (days_left s today) today D f))

  says_to : (p : Plan) → Right (outlook s today waiting) (days_left s today) today D p → Says (answer_to s.efficiency l p).0 (answer_to s.efficiency l p).1
  unfolding answer_to
  says_to (refused f) b = (refl, inr (refl, b))
  says_to (depths xs) b =
      let first : take (days_left s today) (xs ++ drop (length xs) l) ≡ xs = take_at xs (drop (length xs) l) (days_left s today) b.size in
      record {
        best = rw first b;
        beyond = drop_at xs (drop (length xs) l) (days_left s today) b.size ∙ ap (λ n. drop n l) b.size;
        count = rw first;
        net_total = rw first;
        gross_total = refl;
      }

  says : Says (answer s today D waiting l).0 (answer s today D waiting l).1
  unfolding answer
  says = go (ltb (length l) (days_left s today)) refl
    where
      either : Bool → Planned × List ℕ
      either b = elim b [ true ↦ (Refused 15 0, l) | false ↦ answer_to s.efficiency l made ]

      go : (b : Bool) → ltb (length l) (days_left s today) ≡ b → Says (either b).0 (either b).1
      go true e = (refl, inl (refl, ltb-true (length l) (days_left s today) e))
      go false e = says_to made (walks_right (outlook s today waiting) (days_left s today) today D)

  answer_short_iff : (answer s today D waiting l ≡ (Refused 15 0, l)) ↔ (length l < days_left s today)
  unfolding answer
  answer_short_iff = (λ e. at_15 15 (rw e at says).1 refl, λ h. rw (lt-ltb (length l) (days_left s today) h, answer))

  answer_refused_first : (f : ℕ) (m : List ℕ) → answer s today D waiting l ≡ (Refused 16 f, m) → FirstLost (outlook s today waiting) (days_left s today) today D f
  answer_refused_first f m e = at_16 16 (rw e at says).1 refl

  answer_refused_keeps : (number value : ℕ) (m : List ℕ) → answer s today D waiting l ≡ (Refused number value, m) → m ≡ l
  answer_refused_keeps number value m e = (rw e at says).0

  answer_made_right : (days : ℕ) (net : Net) (gross : Gross) (m : List ℕ) → answer s today D waiting l ≡ (Made days net gross, m)
      → MadeRight s today D waiting l m days net.0 gross.0
  answer_made_right days net gross m e = rw e at says

  answer_refused_iff : days_left s today ≤ length l
      → ((f : ℕ) × (answer s today D waiting l ≡ (Refused 16 f, l))) ↔ NoChoice (outlook s today waiting) (days_left s today) today D
  unfolding answer answer_to
  answer_refused_iff h = (
    λ r ys n p. let b = answer_refused_first r.0 l r.1 in b.1 ys (omega (arith, b.0)) p,
    λ none. let r = (refused_iff (outlook s today waiting) (days_left s today) today D).1 none in (r.0, rw (le-ltb (length l) (days_left s today) h, answer) (rw r.1)),
  )

  answer_occurs : Occurs (answer s today D waiting l).0
  answer_occurs = go (answer s today D waiting l).0 (answer s today D waiting l).1 says
    where
      go : (a : Planned) (m : List ℕ) → Says a m → Occurs a
      go (Made days net gross) m h = tt
      go (Refused number f) m h = elim h.1 [ inl p ↦ inl p.0 | inr p ↦ inr p.0 ]

  totals_fit : (days : ℕ) (net : Net) (gross : Gross) (m : List ℕ) → Valid s → DayOf s today → D ≤ 120000
      → answer s today D waiting l ≡ (Made days net gross, m) → (net.0 ≤ 120000 + 3000 * longest_season) × (gross.0 ≤ 100 * (120000 + 3000 * longest_season))
  totals_fit days net gross m v d h e =
      let r = answer_made_right days net gross m e in
      let n : net.0 ≤ 120000 + 3000 * longest_season = rw r.net_total (omega (arith, net_at_most s (outlook s today waiting) today D (take (days_left s today) m) v d.from refl r.best)) in
      let g : (net.0 * 100 + (s.efficiency - 1)) / s.efficiency < 100 * (120000 + 3000 * longest_season) + 1
      = (div-lt_iff_lt-mul {k = s.efficiency} (omega (arith, v.ranges.efficiency.low≤))).1 (omega (arith, v.ranges.efficiency.low≤)) in
      (n, rw r.gross_total (omega arith))

numbers_one_to_one : (a b : Planned) → numbers_of a ≡ numbers_of b → a ≡ b
numbers_one_to_one (Made a b c) (Made d e f) h =
    let x : a ≡ d = cc in
    let y : b.0 ≡ e.0 = cc in
    let z : c.0 ≡ f.0 = cc in
    λ i. Made (x i) (record { 0 = y i }) (record { 0 = z i })
numbers_one_to_one (Made a b c) (Refused m v) h = let z : ◌≡◌ {A = ℕ} 0 1 = cc in absurd (omega arith)
numbers_one_to_one (Refused n u) (Made d e f) h = let z : ◌≡◌ {A = ℕ} 0 1 = cc in absurd (omega arith)
numbers_one_to_one (Refused n u) (Refused m v) h =
    let x : n ≡ m = cc in
    let y : u ≡ v = cc in
    rw (x, y)

pub claims : Claims
claims = record {
  refused_iff = refused_iff;
  refused_first = plan_refused;
  made_best = plan_made;
  choice_planned = choice_planned;
  best_one = best_one;
  answer_short_iff = answer_short_iff;
  answer_refused_iff = answer_refused_iff;
  answer_refused_first = λ s today D waiting f l m. answer_refused_first s today D waiting l f m;
  answer_refused_keeps = λ s today D waiting number value l m. answer_refused_keeps s today D waiting l number value m;
  answer_made_right = λ s today D waiting days net gross l m. answer_made_right s today D waiting l days net gross m;
  totals_fit = λ s today D waiting days net gross l m. totals_fit s today D waiting l days net gross m;
  bank_limit = bank_limit;
  bank_alone = bank_alone;
  numbers_one_to_one = numbers_one_to_one;
  answer_occurs = answer_occurs;
}
