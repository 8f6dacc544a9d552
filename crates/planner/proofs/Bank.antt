-- A block waters only on a day that is left to it, so that no day is taken by more than m; where no day fills up, each block plans alone.
use Prim.Native.Nat.{ℕ, suc, zero, ◌+◌, ◌-◌, ◌≤◌, ◌<◌}
use mathlib.Core.Path.{◌≡◌, refl, sym, ap, ap₂}
use mathlib.Core.Bool.{Bool, true, false, ◌&&◌, true≢false}
use mathlib.Core.List.{List, [], ◌∷◌, map}
use native.Mathlib.Omega.{arith}
use lib.Dec.{ltb}
use lib.ListN.{length, get_or}
use borrow.Author.Tests.{ltb-true, lt-ltb}
use Rattle.planner.specs.Choices.{Outlook, planned_day, Holds, irrigated}
use Rattle.planner.specs.Plan.{Plan, depths, refused, plan}
use Rattle.planner.specs.Bank.{watering, leaving, Ask, given, plan_alone, plan_behind, bank_plans}
use Rattle.planner.proofs.Bounds.{plan_made}

pub holds_turn : (o : Outlook) (d D : ℕ) (xs : List ℕ) (j : ℕ) → Holds o d D xs → 0 < get_or xs j 0 → o.turn (d + j) ≡ true
unfolding Holds
holds_turn o d D [] j h l = absurd (omega arith)
holds_turn o d D (x ∷ xs) zero h l = let z : d + 0 ≡ d = omega arith in rw z (h.0 l)
holds_turn o d D (x ∷ xs) (suc j) h l = let z : d + suc j ≡ suc d + j = omega arith in rw z (holds_turn o (suc d) (planned_day o d D x) xs j h.2 l)

and_left : (a b : Bool) → b ≡ true → (a && b) ≡ a
and_left true b e = e
and_left false b e = refl

and_right : (a b : Bool) → (a && b) ≡ true → b ≡ true
and_right true b e = e
and_right false b e = absurd (true≢false (sym e))

pub leaving_none : (m : ℕ) (used : ℕ → ℕ) (o : Outlook) → ((i : ℕ) → used i < m) → leaving m used o ≡ o
leaving_none m used o h =
    λ j. record { water = o.water; need = o.need; ready = o.ready; turn = λ i. and_left (o.turn i) (ltb (used i) m) (lt-ltb (used i) m (h i)) j }

-- a day that counts is one of its plan
irrigated_one : (x : ℕ) → irrigated (x ∷ []) ≤ 1
unfolding irrigated
irrigated_one zero = omega arith
irrigated_one (suc x) = omega arith

pub watering_at_most : (ps : List (List ℕ)) (j : ℕ) → watering ps j ≤ length ps
unfolding watering
watering_at_most [] j = omega arith
watering_at_most (xs ∷ ps) j = omega (arith, irrigated_one (get_or xs j 0), watering_at_most ps j)

module _ (m d : ℕ) where
  -- a block behind ps that waters on a day takes a valve that is free
  valve_free : (ps : List (List ℕ)) (a : Ask) (j : ℕ) → 0 < get_or (given (plan_behind m d ps a)) j 0 → watering ps j < m
  valve_free ps a j l = go (plan_behind m d ps a) refl l
    where
      left : Outlook
      left = leaving m (λ i. watering ps (i - d)) a.outlook

      go : (p : Plan) → plan_behind m d ps a ≡ p → 0 < get_or (given p) j 0 → watering ps j < m
      go (depths xs) e l =
          let t = holds_turn left d a.depletion xs j (plan_made left a.days d a.depletion xs e).holds l in
          let z : d + j - d ≡ j = omega arith in
          let u : ltb (watering ps (d + j - d)) m ≡ true = and_right (a.outlook.turn (d + j)) (ltb (watering ps (d + j - d)) m) t in
          ltb-true (watering ps j) m (rw z at u)
      go (refused f) e l = absurd (omega arith)

  pub valve_taken : (ps : List (List ℕ)) (a : Ask) (j : ℕ) → watering ps j ≤ m → irrigated (get_or (given (plan_behind m d ps a)) j 0 ∷ []) + watering ps j ≤ m
  unfolding irrigated
  valve_taken ps a j h = go (get_or (given (plan_behind m d ps a)) j 0) refl
    where
      go : (x : ℕ) → get_or (given (plan_behind m d ps a)) j 0 ≡ x → irrigated (x ∷ []) + watering ps j ≤ m
      go zero e = omega arith
      go (suc x) e = omega (arith, valve_free ps a j (omega (arith, e)))

  -- the plans before and behind take at most m
  bank_behind : (ps : List (List ℕ)) (asks : List Ask) (j : ℕ) → watering ps j ≤ m → watering (map given (bank_plans m d ps asks)) j + watering ps j ≤ m
  unfolding watering bank_plans
  bank_behind ps [] j h = omega arith
  bank_behind ps (a ∷ rest) j h =
      omega (arith, bank_behind (given (plan_behind m d ps a) ∷ ps) rest j (valve_taken ps a j h))

  pub bank_limit : (asks : List Ask) (j : ℕ) → watering (map given (bank_plans m d [] asks)) j ≤ m
  unfolding watering
  bank_limit asks j = omega (arith, bank_behind [] asks j (omega arith))

  alone_behind : (ps : List (List ℕ)) (asks : List Ask) → length asks + length ps ≤ m → bank_plans m d ps asks ≡ map (plan_alone d) asks
  unfolding bank_plans
  alone_behind ps [] h = refl
  alone_behind ps (a ∷ rest) h =
      let same = leaving_none m (λ i. watering ps (i - d)) a.outlook (λ i. omega (arith, watering_at_most ps (i - d))) in
      let one : plan_behind m d ps a ≡ plan_alone d a = ap (λ o. plan o a.days d a.depletion) same in
      ap₂ (λ p ps. p ∷ ps) one (alone_behind (given (plan_behind m d ps a) ∷ ps) rest (omega arith))

  pub bank_alone : (asks : List Ask) → length asks ≤ m → bank_plans m d [] asks ≡ map (plan_alone d) asks
  bank_alone asks h = alone_behind [] asks (omega arith)
