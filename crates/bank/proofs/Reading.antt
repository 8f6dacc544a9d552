-- What a bank left is read back from the buffers: each block's numbers, its part, and the plan that it was given.
use Prim.Native.Nat.{ℕ, zero, suc, ◌+◌, ◌-◌, ◌*◌, ◌≤◌, ◌<◌}
use mathlib.Core.Path.{◌≡◌, refl, sym, ap, ap₂, ◌∙◌}
use mathlib.Core.Logic.{inl, inr}
use mathlib.Core.Bool.{cond}
use mathlib.Core.List.{List, [], ◌∷◌, ◌++◌}
use native.Mathlib.Omega.{arith}
use lib.Dec.{eqb}
use lib.ListN.{length, get_or, take, drop}
use lib.Seq.{length-sets, take_at, drop_at, get_or-drop, get_or-take}
use Rattle.season.specs.Depths.{net_is, gross_of}
use Rattle.season.proofs.Whole.{by_order}
use Rattle.planner.specs.Answer.{Planned, Made, Refused, sum, answer_to}
use Rattle.planner.specs.Choices.{Outlook, irrigated}
use Rattle.planner.specs.Plan.{Plan, depths, refused, plan}
use Rattle.planner.specs.Outlook.{outlook, days_left}
use Rattle.planner.specs.Bank.{watering, leaving, given, bank_plans}
use Rattle.planner.proofs.Bank.{valve_taken}
use Rattle.planner.proofs.Claims as planning
use Rattle.bank.specs.Blocks.{length_of, start_of, part_of}
use Rattle.bank.specs.Banks.{Bank, ask_at, plan_at, reply_at, five, progress}
use Rattle.bank.specs.Carried.{AllReady}
use Rattle.bank.specs.Claims.{numbers_at, given_at, given_to, LeftRight, asks_from, plans_from}
use Rattle.bank.proofs.Parts.{part_within}
use Rattle.bank.proofs.Places.{drop_sets, part_sets, part_sets_before}
use Rattle.bank.proofs.Progressing.{up_to, depths_length, reply_size}

-- ---- one block's answer

module _ (o : Outlook) (k d D e : ℕ) (l : List ℕ) where
  left_right : LeftRight o k d D e l (answer_to e l (plan o k d D)).1 (five (answer_to e l (plan o k d D)).0)
  unfolding answer_to
  left_right = go (plan o k d D) refl
    where
      go : (p : Plan) → plan o k d D ≡ p → LeftRight o k d D e l (answer_to e l p).1 (five (answer_to e l p).0)
      go (depths xs) q =
          let b = (planning.claims).made_best o k d D xs q in
          let first : take k (xs ++ drop (length xs) l) ≡ xs = take_at xs (drop (length xs) l) k b.size in
          record {
            refused_iff = (
              λ r. absurd (let z : ◌≡◌ {A = ℕ} 0 16 = cc in omega arith),
              λ none. absurd (none xs b.size b.holds),
            );
            refused_first = λ f r. absurd (let z : ◌≡◌ {A = ℕ} 0 16 = cc in omega arith);
            answered = inr (_, _, _, refl);
            given = λ days net gross r.
                let x : irrigated xs ≡ days = cc in
                let y : sum xs ≡ net = cc in
                record {
                  best = rw first b;
                  beyond = drop_at xs (drop (length xs) l) k b.size ∙ ap (λ n. drop n l) b.size;
                  count = rw first (sym x);
                  net_total = rw first (sym y);
                  gross_total = let z : (gross_of e (net_is (sum xs))).0 ≡ gross = cc in sym (rw y at z);
                };
          }
      go (refused f) q =
          record {
            refused_iff = (λ r. ((planning.claims).refused_iff o k d D).0 (f, q), λ none. (f, refl));
            refused_first = λ g r. let x : f ≡ g = cc in (rw (sym x) ((planning.claims).refused_first o k d D f q), refl);
            answered = inl (f, refl);
            given = λ days net gross r. absurd (let z : ◌≡◌ {A = ℕ} 16 0 = cc in omega arith);
          }

  -- The depths given, by the first number.
  given_read : {numbers m : List ℕ} → numbers ≡ five (answer_to e l (plan o k d D)).0 → m ≡ (answer_to e l (plan o k d D)).1
      → cond (eqb (get_or numbers 0 0) 0) (take k m) [] ≡ given (plan o k d D)
  unfolding answer_to
  given_read {numbers} {m} x y = rw (x, y) (go (plan o k d D) refl)
    where
      go : (p : Plan) → plan o k d D ≡ p → cond (eqb (get_or (five (answer_to e l p).0) 0 0) 0) (take k (answer_to e l p).1) [] ≡ given p
      go (depths xs) q = take_at xs (drop (length xs) l) k ((planning.claims).made_best o k d D xs q).size
      go (refused f) q = refl

-- ---- all of them

five_size : (p : Planned) → length (five p) ≡ 5
five_size (Made days net gross) = refl
five_size (Refused number value) = refl

module _ (b : Bank) (lengths answers lent : List ℕ) where
  -- Block k's reply.
  abbrev reply : ℕ → Planned × List ℕ
  reply k = reply_at b (up_to b lengths answers lent k).plans k (part_of lengths 2 lent k)

  answers_length : (n : ℕ) → length (up_to b lengths answers lent n).answers ≡ length answers
  unfolding progress
  answers_length zero = refl
  answers_length (suc n) = length-sets (up_to b lengths answers lent n).answers (5 * n) (five (reply n).0) ∙ answers_length n

  answers_at : (k n : ℕ) → k < n → 5 * n ≤ length answers → numbers_at (up_to b lengths answers lent n).answers k ≡ five (reply k).0
  unfolding progress
  answers_at k zero h l = absurd (omega arith)
  answers_at k (suc n) h l =
      let room : 5 * n + length (five (reply n).0) ≤ length (up_to b lengths answers lent n).answers = omega (arith, five_size (reply n).0, answers_length n) in
      by_order k n
      (λ i. let z : k ≡ n = omega arith in rw z (part_sets (five (reply n).0) (up_to b lengths answers lent n).answers (5 * n) 5 room (five_size (reply n).0)))
      (λ i. part_sets_before 5 (5 * k) (five (reply n).0) (up_to b lengths answers lent n).answers (5 * n) (omega arith) ∙ answers_at k n i (omega arith))

  pub answers_behind : (n i : ℕ) → 5 * n ≤ i → drop i (up_to b lengths answers lent n).answers ≡ drop i answers
  unfolding progress
  answers_behind zero i h = refl
  answers_behind (suc n) i h =
      drop_sets (five (reply n).0) (up_to b lengths answers lent n).answers (5 * n) i (omega (arith, five_size (reply n).0)) ∙ answers_behind n i (omega arith)

  -- No more than the limit are given to any day.
  plans_few : (n j : ℕ) → watering (up_to b lengths answers lent n).plans j ≤ b.limit
  unfolding progress watering
  plans_few zero j = omega arith
  plans_few (suc n) j = valve_taken b.limit b.day (up_to b lengths answers lent n).plans (ask_at b n) j (plans_few n j)

  plans_are : (n k : ℕ) → bank_plans b.limit b.day (up_to b lengths answers lent k).plans (asks_from b n k) ≡ plans_from b lengths answers lent n k
  unfolding progress bank_plans asks_from plans_from
  plans_are zero k = refl
  plans_are (suc n) k = ap (λ (ps : List Plan). plan_at b (up_to b lengths answers lent k).plans k ∷ ps) (plans_are n (suc k))

  pub bank_plans_lem : (n : ℕ) → bank_plans b.limit b.day [] (asks_from b n 0) ≡ plans_from b lengths answers lent n 0
  unfolding progress
  bank_plans_lem n = plans_are n 0

  module _ (n : ℕ) (room : start_of lengths 2 n ≤ length lent) (ready : AllReady b lengths n) (size : 5 * n ≤ length answers) where
    depths_at : (k m : ℕ) → k < m → m ≤ n → part_of lengths 2 (up_to b lengths answers lent m).depths k ≡ (reply k).1
    unfolding progress
    depths_at k zero h i = absurd (omega arith)
    depths_at k (suc m) h i =
        let e = reply_size b lengths answers lent n room ready m (omega arith) in
        let inside : start_of lengths 2 m + length (reply m).1 ≤ length (up_to b lengths answers lent m).depths =
        omega (arith, e, depths_length b lengths answers lent m, part_within lengths 2 {k = m} {n = n} (omega arith) room) in
        by_order k m
        (λ j. let z : k ≡ m = omega arith in rw z (part_sets (reply m).1 (up_to b lengths answers lent m).depths (start_of lengths 2 m) (length_of lengths 2 m) inside e))
        (λ j. part_sets_before (length_of lengths 2 k) (start_of lengths 2 k) (reply m).1 (up_to b lengths answers lent m).depths (start_of lengths 2 m) (part_within lengths 2 {k = k} {n = m} j (omega arith))
        ∙ depths_at k m j (omega arith))

    pub part_right : (k : ℕ) → k < n → part_of lengths 2 (up_to b lengths answers lent n).depths k ≡ (reply k).1
    part_right k h = depths_at k n h (omega arith)

    pub numbers_right : (k : ℕ) → k < n → numbers_at (up_to b lengths answers lent n).answers k ≡ five (reply k).0
    numbers_right k h = answers_at k n h size

    given_is : (k : ℕ) → k < n
        → given_at b.season b.day lengths (up_to b lengths answers lent n).answers (up_to b lengths answers lent n).depths k ≡ given (plan_at b (up_to b lengths answers lent k).plans k)
    given_is k h =
        let as' = (up_to b lengths answers lent n).answers in
        let z : 5 * k + 0 ≡ 5 * k = omega arith in
        let first : get_or (numbers_at as' k) 0 0 ≡ get_or as' (5 * k) 0 = get_or-take 5 (drop (5 * k) as') 0 0 (omega arith) ∙ get_or-drop (5 * k) as' 0 0 ∙ ap (λ i. get_or as' i 0) z in
        rw (← first) (given_read _ _ _ _ (b.season k).efficiency (part_of lengths 2 lent k) (numbers_right k h) (part_right k h))

    given_to_lem : (k : ℕ) → k ≤ n
        → given_to b.season b.day lengths (up_to b lengths answers lent n).answers (up_to b lengths answers lent n).depths k ≡ (up_to b lengths answers lent k).plans
    unfolding progress given_to
    given_to_lem zero h = refl
    given_to_lem (suc k) h = ap₂ (λ (p : List ℕ) (ps : List (List ℕ)). p ∷ ps) (given_is k (omega arith)) (given_to_lem k (omega arith))

    pub few_water : (j : ℕ) → watering (given_to b.season b.day lengths (up_to b lengths answers lent n).answers (up_to b lengths answers lent n).depths n) j ≤ b.limit
    few_water j = rw (given_to_lem n (omega arith)) (plans_few n j)

    -- Each block's answer, behind the plans that the buffers tell.
    pub reply_right : (k : ℕ) → k < n
        → LeftRight
        (leaving b.limit (λ i. watering (given_to b.season b.day lengths (up_to b lengths answers lent n).answers (up_to b lengths answers lent n).depths k) (i - b.day)) (outlook (b.season k) b.day (b.waiting k)))
        (days_left (b.season k) b.day) b.day (b.depletion k) (b.season k).efficiency (part_of lengths 2 lent k)
        (part_of lengths 2 (up_to b lengths answers lent n).depths k) (numbers_at (up_to b lengths answers lent n).answers k)
    reply_right k h =
        rw (given_to_lem k (omega arith), part_right k h, numbers_right k h) (left_right _ _ _ _ (b.season k).efficiency (part_of lengths 2 lent k))
