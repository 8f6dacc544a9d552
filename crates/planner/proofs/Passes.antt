-- One pass makes the plan. Beside the draft of the days left goes a second one, with the latest turn day filled: where the first comes back
-- unwatered, the second is what is planned.
use mathlib.Core.Path.{◌≡◌, refl, sym, ◌∙◌, ap}
use mathlib.Core.Bool.{Bool, true, false}
use mathlib.Core.List.{List, [], ◌∷◌, ◌++◌}
use Prim.Native.Nat.{ℕ, zero, suc, ◌+◌, ◌-◌, ◌≤◌, ◌<◌}
use native.Mathlib.Omega.{arith}
use lib.ListN.{length, set, replicate, length-append, length-set}
use lib.Seq.{append_snoc, set-append_left, set_at}
use borrow.Author.Tests.{le-leb, lt-leb}
use Rattle.planner.specs.declared.Track.{Track}
use Rattle.planner.specs.Choices.{Outlook, planned_day}
use Rattle.planner.specs.Plan.{Plan, depths, refused, after, plan}
use Rattle.planner.specs.Outlook.{outlook_on}
use Rattle.planner.specs.Carried.{track_from, pass_day}
use Rattle.planner.proofs.Days.{Draft, planned, unwatered, settled, before, back_at, draft}
use Rattle.planner.proofs.Walks.{settled_before, ends_at, with_depth_ends, by_walks_lem}

-- Depths xs before a plan.
unfoldable pub onto : List ℕ → Plan → Plan
onto xs (depths ys) = depths (xs ++ ys)
onto xs (refused f) = refused f

onto_nil : (p : Plan) → onto [] p ≡ p
unfolding onto
onto_nil (depths ys) = refl
onto_nil (refused f) = refl

onto_after : (xs : List ℕ) (x : ℕ) (p : Plan) → onto xs (after x p) ≡ onto (xs ++ x ∷ []) p
unfolding onto
onto_after xs x (depths ys) = ap depths (sym (append_snoc xs x ys))
onto_after xs x (refused f) = refl

-- The plan where xs are the depths so far and r is the draft of the days left; ys and s are both with the latest turn day filled.
unfoldable pub resumed : List ℕ → List ℕ → Draft → Draft → Plan
resumed xs ys (planned p) s = onto xs p
resumed xs ys (unwatered f) s = onto ys (settled s)

-- nothing is to be filled
resumed_one : (xs ys : List ℕ) (r : Draft) → resumed xs ys r r ≡ onto xs (settled r)
unfolding resumed settled onto
resumed_one xs ys (planned p) = refl
resumed_one xs ys (unwatered f) = refl

resumed_before : (xs ys : List ℕ) (r s : Draft) → resumed xs ys (before 0 r) (before 0 s) ≡ resumed (xs ++ 0 ∷ []) (ys ++ 0 ∷ []) r s
unfolding resumed before
resumed_before xs ys (planned p) s = onto_after xs 0 p
resumed_before xs ys (unwatered f) s = rw settled_before (onto_after ys 0 (settled s))

module _ (o : Outlook) (k d : ℕ) where
  -- the days after d
  abbrev rest : ℕ → Draft
  rest = draft o k (suc d)

  draft_ends : (D : ℕ) → draft o (suc k) d D ≡ back_at o d D rest (before 0 (ends_at o d rest (planned_day o d D 0)))
  unfolding draft
  draft_ends D = ap (back_at o d D rest) (with_depth_ends o d D rest 0)

  draft_no_turn : (D : ℕ) → o.turn d ≡ false → draft o (suc k) d D ≡ before 0 (ends_at o d rest (planned_day o d D 0))
  unfolding back_at
  draft_no_turn D t = draft_ends D ∙ go (before 0 (ends_at o d rest (planned_day o d D 0)))
    where
      go : (r : Draft) → back_at o d D rest r ≡ r
      go (planned p) = refl
      go (unwatered f) = rw (t, back_at)

  resumed_no_turn : (xs ys : List ℕ) (D F : ℕ) → o.turn d ≡ false
      → resumed xs ys (draft o (suc k) d D) (draft o (suc k) d F)
      ≡ resumed (xs ++ 0 ∷ []) (ys ++ 0 ∷ []) (ends_at o d rest (planned_day o d D 0)) (ends_at o d rest (planned_day o d F 0))
  resumed_no_turn xs ys D F t = rw (draft_no_turn D t, draft_no_turn F t) (resumed_before xs ys (ends_at o d rest (planned_day o d D 0)) (ends_at o d rest (planned_day o d F 0)))

  -- the walk comes back to turn day d: nothing is left to fill, or the depth fills it and it ends at its need
  back_empty : (D f : ℕ) → o.turn d ≡ true → D - o.water d ≡ 0 → back_at o d D rest (unwatered f) ≡ planned (refused f)
  unfolding back_at
  back_empty D f t e = rw (t, e, back_at)

  back_fills : (D f x : ℕ) → o.turn d ≡ true → D - o.water d ≡ suc x → back_at o d D rest (unwatered f) ≡ planned (after (suc x) (settled (ends_at o d rest (o.need d))))
  unfolding back_at
  back_fills D f x t e =
      let end : planned_day o d D (suc x) ≡ o.need d = omega arith in
      rw (t, e, back_at, with_depth_ends, end) (ap planned (settled_before (suc x) (ends_at o d rest (o.need d))))

  -- day d is the latest turn day
  resumed_turn : (xs ys : List ℕ) (D : ℕ) (s : Draft) → o.turn d ≡ true
      → resumed xs ys (draft o (suc k) d D) s
      ≡ resumed (xs ++ 0 ∷ []) (xs ++ (D - o.water d) ∷ []) (ends_at o d rest (planned_day o d D 0)) (ends_at o d rest (o.need d))
  unfolding back_at resumed before settled onto
  resumed_turn xs ys D s t = rw draft_ends (go (ends_at o d rest (planned_day o d D 0)) refl)
    where
      fill : (f x : ℕ) → ends_at o d rest (planned_day o d D 0) ≡ unwatered f → D - o.water d ≡ x
          → resumed xs ys (back_at o d D rest (unwatered f)) s ≡ onto (xs ++ x ∷ []) (settled (ends_at o d rest (o.need d)))
      fill f zero e i =
          let end : planned_day o d D 0 ≡ o.need d = omega arith in
          rw (back_empty D f t i, ← end, e)
      fill f (suc x) e i = rw (back_fills D f x t i) (onto_after xs (suc x) (settled (ends_at o d rest (o.need d))))

      go : (r : Draft) → ends_at o d rest (planned_day o d D 0) ≡ r
          → resumed xs ys (back_at o d D rest (before 0 r)) s ≡ resumed (xs ++ 0 ∷ []) (xs ++ (D - o.water d) ∷ []) r (ends_at o d rest (o.need d))
      go (planned p) e = onto_after xs 0 p
      go (unwatered f) e = fill f (D - o.water d) e refl

-- Depths ys are xs with the latest turn day filled, which is before d.
abbrev pub Pending : ℕ → ℕ → Track → List ℕ → List ℕ → Type 0
Pending today d k xs ys = (today ≤ k.turn) × (k.turn < d) × (ys ≡ set xs (k.turn - today) k.depth)

-- The pass has come to day d, with `left` days from it on, which `rest` plans from what d starts at; p is the whole plan, and l the depths
-- drawn in.
pub record Passing (today left d : ℕ) (rest : ℕ → Draft) (p : Plan) (k : Track) (l : List ℕ) : Type 0 where
  -- the depths of the days before d, and those with the latest turn day filled
  pub drawn : List ℕ
  pub other : List ℕ
  pub is : l ≡ drawn ++ replicate left 0
  pub size : length drawn + today ≡ d
  pub low : k.filled ≤ k.depletion
  pub fills : k.filled < k.depletion → Pending today d k drawn other
  pub same : resumed drawn other (rest k.depletion) (rest k.filled) ≡ p

pub passing_start : {l : List ℕ} (o : Outlook) (k d D : ℕ) → l ≡ replicate k 0
    → Passing d k d (draft o k d) (plan o k d D) (track_from d D) l
passing_start o k d D e =
    record {
      drawn = [];
      other = [];
      is = e;
      size = omega arith;
      low = omega arith;
      fills = λ h. absurd (omega arith);
      same = resumed_one [] [] (draft o k d D) ∙ onto_nil _ ∙ sym (by_walks_lem o k d D);
    }

-- What the track says of day d, once it is passed.
module _ {n : Track} (o : Outlook) (d : ℕ) (k : Track) (e : n ≡ pass_day k (outlook_on o d) d) where
  track_ends : n.depletion ≡ planned_day o d k.depletion 0
  unfolding pass_day
  track_ends = omega (arith, ap (λ t. t.depletion) e)

  track_turn : o.turn d ≡ true → (n.filled ≡ o.need d) × (n.turn ≡ d) × (n.depth ≡ k.depletion - o.water d)
  unfolding pass_day
  track_turn t =
      let f : n.filled ≡ 0 + o.need d = rw t at (ap (λ t. t.filled) e) in
      (omega arith, rw t at (ap (λ t. t.turn) e), rw t at (ap (λ t. t.depth) e))

  track_no_turn : o.turn d ≡ false → (n.filled ≡ planned_day o d k.filled 0) × (n.turn ≡ k.turn) × (n.depth ≡ k.depth)
  unfolding pass_day
  track_no_turn t =
      let f : n.filled ≡ k.filled - o.water d + o.need d = rw t at (ap (λ t. t.filled) e) in
      (omega arith, rw t at (ap (λ t. t.turn) e), rw t at (ap (λ t. t.depth) e))

-- Day d is passed with no watering, and ends as the track says: it may be the failing day.
module _ {today d : ℕ} {p : Plan} {k n : Track} {l : List ℕ} (o : Outlook) (left : ℕ) (w : Passing today (suc left) d (draft o (suc left) d) p k l)
    (e : n ≡ pass_day k (outlook_on o d) d) where
  -- the days after d, where it ends at E
  abbrev ended : ℕ → Draft
  ended E = ends_at o d (draft o left (suc d)) E

  passed : (ys : List ℕ) → n.filled ≤ n.depletion → (n.filled < n.depletion → Pending today (suc d) n (w.drawn ++ 0 ∷ []) ys)
      → resumed (w.drawn ++ 0 ∷ []) ys (ended n.depletion) (ended n.filled) ≡ p → Passing today left (suc d) (ends_at o d (draft o left (suc d))) p n l
  passed ys h f q =
      record {
        drawn = w.drawn ++ 0 ∷ [];
        other = ys;
        is = w.is ∙ sym (append_snoc w.drawn 0 (replicate left 0));
        size = omega (arith, length-append w.drawn (0 ∷ []), w.size);
        low = h;
        fills = f;
        same = q;
      }

  pub passing_day : Passing today left (suc d) (ends_at o d (draft o left (suc d))) p n l
  passing_day = go (o.turn d) refl
    where
      xs : List ℕ
      xs = w.drawn

      D : ℕ
      D = k.depletion

      go : (b : Bool) → o.turn d ≡ b → Passing today left (suc d) (ends_at o d (draft o left (suc d))) p n l
      go true t =
          let q = track_turn o d k e t in
          let size = w.size in
          passed (xs ++ (D - o.water d) ∷ []) (omega (arith, q.0, track_ends o d k e))
          (λ h. (omega (arith, q.1), omega (arith, q.1), rw (q.1, q.2) (sym (set_at xs 0 [] (D - o.water d) (d - today) (omega arith)))))
          (rw (track_ends o d k e, q.0) (sym (resumed_turn o left d xs w.other D (draft o (suc left) d k.filled) t) ∙ w.same))
      go false t =
          let q = track_no_turn o d k e t in
          let ends = track_ends o d k e in
          let size = w.size in
          passed (w.other ++ 0 ∷ []) (omega (arith, w.low, q.0))
          (λ h.
          let f = w.fills (omega (arith, q.0)) in
          (omega (arith, f.0, q.1), omega (arith, f.1, q.1), rw (q.1, q.2, f.2) (sym (set-append_left xs (0 ∷ []) (k.turn - today) k.depth (omega (arith, f.0, f.1))))))
          (rw (ends, q.0) (sym (resumed_no_turn o left d xs w.other D k.filled t) ∙ w.same))

ends_held : (o : Outlook) (d E : ℕ) (rest : ℕ → Draft) → E ≤ o.ready d → ends_at o d rest E ≡ rest E
unfolding ends_at
ends_held o d E rest h = rw (le-leb E (o.ready d) h, ends_at)

ends_unwatered : (o : Outlook) (d E : ℕ) (rest : ℕ → Draft) → o.ready d < E → ends_at o d rest E ≡ unwatered d
unfolding ends_at
ends_unwatered o d E rest h = rw (lt-leb E (o.ready d) h, ends_at)

-- The turn day is filled, and has been all along.
abbrev pub filled_now : Track → Track
filled_now k = record { depletion = k.filled; filled = k.filled; turn = k.turn; depth = k.depth }

-- Day i has ended: it holds, it holds with the latest turn day filled, or no choice holds it.
module _ {today left d : ℕ} {p : Plan} {k : Track} {l : List ℕ} (o : Outlook) (i : ℕ) (rest : ℕ → Draft) (w : Passing today left d (ends_at o i rest) p k l) where
  pub passing_holds : k.depletion ≤ o.ready i → Passing today left d rest p k l
  passing_holds h =
      record {
        drawn = w.drawn;
        other = w.other;
        is = w.is;
        size = w.size;
        low = w.low;
        fills = w.fills;
        same = rw (ends_held o i k.depletion rest h, ends_held o i k.filled rest (omega (arith, w.low))) at w.same;
      }

  pub passing_lost : o.ready i < k.filled → refused i ≡ p
  unfolding resumed settled onto
  passing_lost h = rw (ends_unwatered o i k.depletion rest (omega (arith, w.low)), ends_unwatered o i k.filled rest h) at w.same

  module _ (h : o.ready i < k.depletion) (g : k.filled ≤ o.ready i) where
    pub passing_turn : Pending today d k w.drawn w.other
    passing_turn = w.fills (omega arith)

    pub passing_fills : Passing today left d rest p (filled_now k) (set l (k.turn - today) k.depth)
    unfolding resumed
    passing_fills =
        let f = passing_turn in
        let inside : k.turn - today < length w.drawn = omega (arith, f.0, f.1, w.size) in
        record {
          drawn = w.other;
          other = w.other;
          is = rw (w.is, f.2) (set-append_left w.drawn (replicate left 0) (k.turn - today) k.depth inside);
          size = rw (f.2, length-set) w.size;
          low = omega arith;
          fills = λ q. absurd (omega arith);
          same = rw resumed_one (rw (ends_unwatered o i k.depletion rest h, ends_held o i k.filled rest g) at w.same);
        }

pub passing_end : {today d : ℕ} {p : Plan} {k : Track} {l : List ℕ} (o : Outlook) → Passing today 0 d (draft o 0 d) p k l → depths l ≡ p
unfolding draft resumed onto
passing_end o w = ap depths w.is ∙ w.same
