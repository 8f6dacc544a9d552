-- The plan, day by day: `draft` recurses over the days, and what it answers is the best choice, or the first day that no choice holds.
-- proofs/Walks.antt shows that the planner of specs/Plan.antt, walk by walk, makes the same plan.
use Prim.Native.Nat.{ℕ, suc, zero, ◌+◌, ◌-◌, ◌≤◌, ◌<◌}
use mathlib.Core.Path.{◌≡◌, refl, sym, ◌∙◌}
use mathlib.Core.Bool.{Bool, true, false, true≢false}
use mathlib.Core.List.{List, [], ◌∷◌}
use native.Mathlib.Omega.{arith}
use lib.Dec.{leb}
use lib.ListN.{length, take}
use borrow.Author.Tests.{leb-true, leb-false}
use Rattle.planner.specs.Choices.{Outlook, planned_day, Holds, irrigated, Fills, Best, NoneHolds, Reached, FirstLost}
use Rattle.planner.specs.Plan.{Plan, depths, refused, after}

-- The plan from a day on, or `unwatered f`: with no watering f is the first failing day, and there is no turn day from that day to f.
pub data Draft : Type 0 where
  planned : Plan → Draft
  unwatered : ℕ → Draft

-- no turn day since the last watering: the failing day is refused
unfoldable pub settled : Draft → Plan
settled (planned p) = p
settled (unwatered f) = refused f

-- depth x put before a draft
unfoldable pub before : ℕ → Draft → Draft
before x (planned p) = planned (after x p)
before x (unwatered f) = unwatered f

-- Day d, which starts at D, with depth x, and then the days after it as `rest` plans them from its end. It may be the failing day.
unfoldable pub with_depth : Outlook → ℕ → ℕ → (ℕ → Draft) → ℕ → Draft
with_depth o d D rest x =
    elim (leb (planned_day o d D x) (o.ready d)) [
      | true ↦ before x (rest (planned_day o d D x))
      | false ↦ unwatered d
    ]

-- The walk failed on day f and has come back to day d, with no turn day after it up to f. If d is a turn day it is the latest one:
-- it is watered with the smallest depth that brings max(0, D - w) to zero; if that is 0, f is refused.
unfoldable pub back_at : Outlook → ℕ → ℕ → (ℕ → Draft) → Draft → Draft
back_at o d D rest (planned p) = planned p
back_at o d D rest (unwatered f) =
    elim (o.turn d) [
      | true ↦ planned (elim (D - o.water d) [ zero ↦ refused f | suc x ↦ settled (with_depth o d D rest (suc x)) ])
      | false ↦ unwatered f
    ]

-- k days from day d, which starts at D: without watering day d first, and where that comes back unwatered, with it
unfoldable pub draft : Outlook → ℕ → ℕ → ℕ → Draft
draft o zero d D = planned (depths [])
draft o (suc k) d D = back_at o d D (draft o k (suc d)) (with_depth o d D (draft o k (suc d)) 0)

abbrev pub drafted : Outlook → ℕ → ℕ → ℕ → Plan
drafted o k d D = settled (draft o k d D)

-- what a plan for k days from day d, which starts at D, says
abbrev pub Right : Outlook → ℕ → ℕ → ℕ → Plan → Type 0
Right o k d D (depths xs) = Best o k d D xs
Right o k d D (refused f) = FirstLost o k d D f

-- What a draft says. For the induction: a choice that had one watering more may start lower, and what is refused is lost from any start.

-- up to each day xs has at most l irrigated days more than ys
abbrev Lead : ℕ → List ℕ → List ℕ → Type 0
Lead l xs ys = (j : ℕ) → irrigated (take j xs) ≤ irrigated (take j ys) + l

record Made (o : Outlook) (k d D : ℕ) (xs : List ℕ) : Type 0 where
  size : length xs ≡ k
  holds : Holds o d D xs
  fills : Fills o d D xs
  fewest : (ys : List ℕ) → length ys ≡ k → Holds o d D ys → Lead 0 xs ys
  ahead : (E : ℕ) (ys : List ℕ) → length ys ≡ k → Holds o d E ys → Lead 1 xs ys

abbrev Good : Outlook → ℕ → ℕ → ℕ → Draft → Type 0
Good o k d D (planned (depths xs)) = Made o k d D xs
Good o k d D (planned (refused f)) = Reached o k d D f × ((E : ℕ) → NoneHolds o d E f)
Good o k d D (unwatered f) = FirstLost o k d D f

-- what a draft with depth x on day d, before k days, says; an unwatered one, only that no choice that begins with x holds
abbrev Begun : Outlook → ℕ → ℕ → ℕ → ℕ → Draft → Type 0
Begun o k d D x (planned (depths xs)) = (zs : List ℕ) × (xs ≡ x ∷ zs) × (planned_day o d D x ≤ o.ready d) × Made o k (suc d) (planned_day o d D x) zs
Begun o k d D x (planned (refused f)) = Good o (suc k) d D (planned (refused f))
Begun o k d D x (unwatered f) = Reached o (suc k) d D f × ((ys : List ℕ) → f < length (x ∷ ys) + d → Holds o d D (x ∷ ys) → ⊥)

irrigated_cons : (x : ℕ) (xs : List ℕ) → irrigated (x ∷ xs) ≡ irrigated (x ∷ []) + irrigated xs
unfolding irrigated
irrigated_cons zero xs = omega arith
irrigated_cons (suc x) xs = omega arith

lead_nil : (l : ℕ) (ys : List ℕ) → Lead l [] ys
unfolding irrigated
lead_nil l ys zero = omega arith
lead_nil l ys (suc j) = omega arith

lead_cons : (l m x y : ℕ) (xs ys : List ℕ) → irrigated (x ∷ []) + l ≤ irrigated (y ∷ []) + m → Lead l xs ys → Lead m (x ∷ xs) (y ∷ ys)
unfolding irrigated
lead_cons l m x y xs ys h b zero = omega arith
lead_cons l m x y xs ys h b (suc j) = omega (arith, b j, irrigated_cons x (take j xs), irrigated_cons y (take j ys))

module _ (o : Outlook) where
  -- a choice that holds also holds from a lower start
  holds_lower : (d D E : ℕ) (ys : List ℕ) → E ≤ D → Holds o d D ys → Holds o d E ys
  unfolding Holds
  holds_lower d D E [] h p = tt
  holds_lower d D E (y ∷ ys) h p = (p.0, omega (arith, p.1), holds_lower (suc d) (planned_day o d D y) (planned_day o d E y) ys (omega arith) p.2)

  -- after a depth that fills the soil the depletion is the least that any choice has
  holds_full : (d D x E y : ℕ) (ys : List ℕ) → D ≤ o.water d + x → (0 < x → o.turn d ≡ true) → Holds o d E (y ∷ ys) → Holds o d D (x ∷ ys)
  unfolding Holds
  holds_full d D x E y ys full t p = (t, omega arith, holds_lower (suc d) (planned_day o d E y) (planned_day o d D x) ys (omega arith) p.2)

  module _ (k d D : ℕ) where
    reached_next : (x f : ℕ) → (0 < x → o.turn d ≡ true) → planned_day o d D x ≤ o.ready d → Reached o k (suc d) (planned_day o d D x) f → Reached o (suc k) d D f
    unfolding Holds
    reached_next x f t h r =
        record {
          from = omega arith;
          to = omega arith;
          held = (x ∷ r.held.0, omega arith, (t, h, r.held.2));
        }

    begun_before : (x : ℕ) → (0 < x → o.turn d ≡ true) → planned_day o d D x ≤ o.ready d
        → (r : Draft) → Good o k (suc d) (planned_day o d D x) r → Begun o k d D x (before x r)
    unfolding before Holds
    begun_before x t h (planned (depths xs)) g = (xs, refl, h, g)
    begun_before x t h (planned (refused f)) g = (reached_next x f t h g.0, lost)
      where
        lost : (E : ℕ) → NoneHolds o d E f
        lost E [] l p = omega arith
        lost E (y ∷ ys) l p = g.1 (planned_day o d E y) ys (omega arith) p.2
    begun_before x t h (unwatered f) g = (reached_next x f t h g.0, λ ys l p. g.1 ys (omega arith) p.2)

    begun : (rest : ℕ → Draft) → ((E : ℕ) → Good o k (suc d) E (rest E))
        → (x : ℕ) → (0 < x → o.turn d ≡ true) → Begun o k d D x (with_depth o d D rest x)
    unfolding with_depth Holds
    begun rest good x t = go (leb end (o.ready d)) refl
      where
        end : ℕ
        end = planned_day o d D x

        go : (b : Bool) → leb end (o.ready d) ≡ b → Begun o k d D x (elim b [ true ↦ before x (rest end) | false ↦ unwatered d ])
        go true e = begun_before x t (leb-true end (o.ready d) e) (rest end) (good end)
        go false e = (record { from = omega arith; to = omega arith; held = ([], omega arith, tt) }, λ ys l p. omega (arith, p.1, leb-false end (o.ready d) e))

    -- day d is not watered: a choice that waters it may start the next day lower, but has had one watering more
    made_unwatered : (zs : List ℕ) → planned_day o d D 0 ≤ o.ready d → Made o k (suc d) (planned_day o d D 0) zs → Made o (suc k) d D (0 ∷ zs)
    unfolding Holds Fills irrigated
    made_unwatered zs h m =
        record {
          size = omega arith;
          holds = (λ t. absurd (omega arith), h, m.holds);
          fills = (λ t. absurd (omega arith), m.fills);
          fewest = fewest;
          ahead = ahead;
        }
      where
        fewest : (ys : List ℕ) → length ys ≡ suc k → Holds o d D ys → Lead 0 (0 ∷ zs) ys
        fewest [] l p = absurd (omega arith)
        fewest (zero ∷ ys) l p = lead_cons 0 0 0 0 zs ys (omega arith) (m.fewest ys (omega arith) p.2)
        fewest (suc y ∷ ys) l p = lead_cons 1 0 0 (suc y) zs ys (omega arith) (m.ahead (planned_day o d D (suc y)) ys (omega arith) p.2)

        ahead : (E : ℕ) (ys : List ℕ) → length ys ≡ suc k → Holds o d E ys → Lead 1 (0 ∷ zs) ys
        ahead E [] l p = absurd (omega arith)
        ahead E (y ∷ ys) l p = lead_cons 1 1 0 y zs ys (omega arith) (m.ahead (planned_day o d E y) ys (omega arith) p.2)

    -- day d is watered to full, and no choice that does not water it holds
    made_watered : (x : ℕ) (zs : List ℕ) → D - o.water d ≡ suc x → o.turn d ≡ true → planned_day o d D (suc x) ≤ o.ready d
        → ((ys : List ℕ) → length ys ≡ k → Holds o d D (0 ∷ ys) → ⊥)
        → Made o k (suc d) (planned_day o d D (suc x)) zs → Made o (suc k) d D (suc x ∷ zs)
    unfolding Holds Fills irrigated
    made_watered x zs full t h lost m =
        record {
          size = omega arith;
          holds = (λ _. t, h, m.holds);
          fills = (λ _. sym full, m.fills);
          fewest = fewest;
          ahead = ahead;
        }
      where
        after : (E y : ℕ) (ys : List ℕ) → length (y ∷ ys) ≡ suc k → Holds o d E (y ∷ ys) → Lead 0 zs ys
        after E y ys l p = m.fewest ys (omega arith) (holds_full d D (suc x) E y ys (omega arith) (λ _. t) p).2

        fewest : (ys : List ℕ) → length ys ≡ suc k → Holds o d D ys → Lead 0 (suc x ∷ zs) ys
        fewest [] l p = absurd (omega arith)
        fewest (zero ∷ ys) l p = absurd (lost ys (omega arith) p)
        fewest (suc y ∷ ys) l p = lead_cons 0 0 (suc x) (suc y) zs ys (omega arith) (after D (suc y) ys l p)

        ahead : (E : ℕ) (ys : List ℕ) → length ys ≡ suc k → Holds o d E ys → Lead 1 (suc x ∷ zs) ys
        ahead E [] l p = absurd (omega arith)
        ahead E (y ∷ ys) l p = lead_cons 0 1 (suc x) y zs ys (omega arith) (after E y ys l p)

    -- depth x fills the soil on day d, and no choice that begins with it holds through f: none does, from any start
    lost_full : (x f : ℕ) → D ≤ o.water d + x → (0 < x → o.turn d ≡ true) → Begun o k d D x (unwatered f) → Good o (suc k) d D (planned (refused f))
    lost_full x f full t g = (g.0, lost)
      where
        lost : (E : ℕ) → NoneHolds o d E f
        lost E [] l p = omega arith
        lost E (y ∷ ys) l p = g.1 ys (omega arith) (holds_full d D x E y ys full t p)

    good_watered : (x : ℕ) → D - o.water d ≡ suc x → o.turn d ≡ true → ((ys : List ℕ) → length ys ≡ k → Holds o d D (0 ∷ ys) → ⊥)
        → (r : Draft) → Begun o k d D (suc x) r → Good o (suc k) d D (planned (settled r))
    unfolding settled
    good_watered x full t lost (planned (depths xs)) g = rw g.1 (made_watered x g.0 full t g.2 lost g.3)
    good_watered x full t lost (planned (refused f)) g = g
    good_watered x full t lost (unwatered f) g = lost_full (suc x) f (omega arith) (λ _. t) g

    good_back : (rest : ℕ → Draft) → ((E : ℕ) → Good o k (suc d) E (rest E)) → (r : Draft) → Begun o k d D 0 r → Good o (suc k) d D (back_at o d D rest r)
    unfolding back_at Holds
    good_back rest good (planned (depths xs)) g = rw g.1 (made_unwatered g.0 g.2 g.3)
    good_back rest good (planned (refused f)) g = g
    good_back rest good (unwatered f) g = go (o.turn d) refl
      where
        fill : ℕ → Plan
        fill = elim [ zero ↦ refused f | suc x ↦ settled (with_depth o d D rest (suc x)) ]

        filled : (x : ℕ) → D - o.water d ≡ x → o.turn d ≡ true → Good o (suc k) d D (planned (fill x))
        filled zero e t = lost_full 0 f (omega arith) (λ _. t) g
        filled (suc x) e t = good_watered x e t (λ ys l p. g.1 ys (omega arith) p) (with_depth o d D rest (suc x)) (begun rest good (suc x) (λ _. t))

        no_turn : o.turn d ≡ false → NoneHolds o d D f
        no_turn t [] l p = omega arith
        no_turn t (zero ∷ ys) l p = g.1 ys l p
        no_turn t (suc y ∷ ys) l p = true≢false (sym (p.0 (omega arith)) ∙ t)

        go : (b : Bool) → o.turn d ≡ b → Good o (suc k) d D (elim b [ true ↦ planned (fill (D - o.water d)) | false ↦ unwatered f ])
        go true t = filled (D - o.water d) refl t
        go false t = (g.0, no_turn t)

    good_day : (rest : ℕ → Draft) → ((E : ℕ) → Good o k (suc d) E (rest E)) → Good o (suc k) d D (back_at o d D rest (with_depth o d D rest 0))
    good_day rest good = good_back rest good (with_depth o d D rest 0) (begun rest good 0 (λ t. absurd (omega arith)))

  good : (k d D : ℕ) → Good o k d D (draft o k d D)
  unfolding draft Holds Fills
  good zero d D = record { size = refl; holds = tt; fills = tt; fewest = λ ys l p. lead_nil 0 ys; ahead = λ E ys l p. lead_nil 1 ys }
  good (suc k) d D = good_day k d D (draft o k (suc d)) (good k (suc d))

  -- a plan that is made is the best choice, and one that is refused names the first day that no choice holds
  pub draft_right : (k d D : ℕ) → Right o k d D (drafted o k d D)
  unfolding settled
  draft_right k d D = go (draft o k d D) (good k d D)
    where
      go : (r : Draft) → Good o k d D r → Right o k d D (settled r)
      go (planned (depths xs)) g =
          record { size = g.size; holds = g.holds; fills = g.fills; fewest = λ ys l p j. omega (arith, g.fewest ys l p j) }
      go (planned (refused f)) g = (g.0, g.1 D)
      go (unwatered f) g = g
