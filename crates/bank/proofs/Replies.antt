-- One block: its plan by the counts of valves used, its answer and its part of the depths.
use Prim.Native.Nat.{ℕ, ◌≤◌}
use mathlib.Core.Path.{◌≡◌, refl, ap, ◌∙◌}
use mathlib.Core.List.{List}
use native.Mathlib.Omega.{arith}
use lib.ListN.{length, take, drop, length-append, length-drop}
use lib.Seq.{take_at}
use borrow.Author.Tests.{le-ltb}
use Rattle.season.specs.declared.Season.{Season}
use Rattle.season.specs.Sheet.{Valid, DayOf, longest_season}
use Rattle.planner.specs.Answer.{Planned, Made, Refused, answer_to}
use Rattle.planner.specs.Choices.{Outlook}
use Rattle.planner.specs.Plan.{Plan, depths, refused, plan}
use Rattle.planner.specs.Outlook.{days_left}
use Rattle.planner.specs.Bank.{given, outlook_left, answer_left}
use Rattle.planner.proofs.Claims as plans
use Rattle.bank.specs.Banks.{add_used}
use Rattle.bank.specs.Carried.{plan_left, days_taken, SmallDay}

-- Where the part is long enough the answer is the plan's.
left_enough : (s : Season) (today D waiting : ℕ) (used : List ℕ) (limit : ℕ) (l : List ℕ) {x : Planned × List ℕ} → days_left s today ≤ length l
    → x ≡ answer_left s today D waiting used limit l → x ≡ answer_to s.efficiency l (plan_left s today D waiting used limit)
unfolding answer_left
left_enough s today D waiting used limit l h e = e ∙ rw (le-ltb (length l) (days_left s today) h, answer_left)

-- What a plan gives has a depth for each of its days, or none.
pub given_size : (o : Outlook) (k d D : ℕ) → length (given (plan o k d D)) ≤ k
given_size o k d D = go (plan o k d D) refl
  where
    go : (p : Plan) → plan o k d D ≡ p → length (given p) ≤ k
    go (depths xs) e = omega (arith, ((plans.claims).made_best o k d D xs e).size)
    go (refused f) e = omega arith

module _ (e : ℕ) (l : List ℕ) {m : List ℕ} {r : Planned} where
  -- The days taken are those of the plan given.
  taken_gives : (p : Plan) (k : ℕ) → (r, m) ≡ answer_to e l p → ((xs : List ℕ) → p ≡ depths xs → length xs ≡ k) → take (days_taken r k) m ≡ given p
  unfolding answer_to
  taken_gives (depths xs) k q s = ap (λ (x : Planned × List ℕ). take (days_taken x.0 k) x.1) q ∙ take_at xs (drop (length xs) l) k (s xs refl)
  taken_gives (refused f) k q s = ap (λ (x : Planned × List ℕ). take (days_taken x.0 k) x.1) q

  plan_gives : (o : Outlook) (k d D : ℕ) → (r, m) ≡ answer_to e l (plan o k d D) → take (days_taken r k) m ≡ given (plan o k d D)
  plan_gives o k d D q = taken_gives (plan o k d D) k q (λ xs i. ((plans.claims).made_best o k d D xs i).size)

  -- The part keeps its length.
  reply_length : (p : Plan) → ((xs : List ℕ) → p ≡ depths xs → length xs ≤ length l) → (r, m) ≡ answer_to e l p → length m ≡ length l
  unfolding answer_to
  reply_length (depths xs) h q =
      ap (λ (x : Planned × List ℕ). length x.1) q ∙ length-append xs (drop (length xs) l) ∙ omega (arith, length-drop (length xs) l, h xs refl)
  reply_length (refused f) h q = ap (λ (x : Planned × List ℕ). length x.1) q

  pub plan-length : (o : Outlook) (k d D : ℕ) → k ≤ length l → (r, m) ≡ answer_to e l (plan o k d D) → length m ≡ length l
  plan-length o k d D h = reply_length (plan o k d D) (λ xs i. omega (arith, ((plans.claims).made_best o k d D xs i).size))

  -- A refusal's day is one of the season.
  small_day : (p : Plan) → ((f : ℕ) → p ≡ refused f → f ≤ longest_season) → (r, m) ≡ answer_to e l p → SmallDay r
  unfolding answer_to
  small_day (depths xs) h q = let z : r ≡ _ = ap (λ (x : Planned × List ℕ). x.0) q in rw z tt
  small_day (refused f) h q = let z : r ≡ Refused 16 f = ap (λ (x : Planned × List ℕ). x.0) q in rw z (h f refl)

  pub plan_day : (s : Season) (o : Outlook) (today D : ℕ) → Valid s → DayOf s today → (r, m) ≡ answer_to e l (plan o (days_left s today) today D) → SmallDay r
  plan_day s o today D v d =
      small_day (plan o (days_left s today) today D) (λ f i. omega (arith, ((plans.claims).refused_first o (days_left s today) today D f i).0.to, v.year, d.to, d.from))

-- At most the days left.
taken_at_most : (r : Planned) (days : ℕ) → days_taken r days ≤ days
taken_at_most (Made d net gross) days = omega arith
taken_at_most (Refused number value) days = omega arith

-- A block's answer on the turn days left, in a part that is long enough.
module _ (s : Season) (today D waiting : ℕ) (seen : List ℕ) (limit : ℕ) (l : List ℕ) (room : days_left s today ≤ length l) {r : Planned} {m : List ℕ}
    (is : (r, m) ≡ answer_left s today D waiting seen limit l) where
  abbrev p : Plan
  p = plan_left s today D waiting seen limit

  answered : (r, m) ≡ answer_to s.efficiency l p
  answered = left_enough s today D waiting seen limit l room is

  left_length : length m ≡ length l
  left_length = plan-length s.efficiency l (outlook_left s today waiting seen limit) (days_left s today) today D room answered

  pub left_few : {days count : ℕ} → Valid s → DayOf s today → days ≡ days_left s today → count ≡ days_taken r days → (count ≤ length m) × (count ≤ longest_season)
  left_few {days} v d e i =
      let n = taken_at_most r days in
      (omega (arith, left_length), omega (arith, v.year, d.from))

  -- Only a plan that is made is counted.
  pub left_counted : (used : List ℕ) {days count : ℕ} {next : List ℕ} → days ≡ days_left s today → count ≡ days_taken r days → next ≡ add_used used (take count m)
      → ((r, m) ≡ answer_to s.efficiency l p) × (next ≡ add_used used (given p))
  left_counted used e i n =
      (answered, n ∙ ap (add_used used) (rw (i, e) (plan_gives s.efficiency l (outlook_left s today waiting seen limit) (days_left s today) today D answered)))
