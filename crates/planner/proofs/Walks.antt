-- The planner of specs/Plan.antt, walk by walk, makes the plan of proofs/Days.antt.
use Prim.Native.Nat.{ℕ, suc, zero, ◌+◌, ◌-◌, ◌≤◌, ◌<◌}
use mathlib.Core.Path.{◌≡◌, refl, ap}
use mathlib.Core.Bool.{Bool, true, false}
use native.Mathlib.Omega.{arith}
use lib.Dec.{leb}
use lib.ListN.{replicate}
use Rattle.planner.specs.Choices.{Outlook, planned_day}
use Rattle.planner.specs.Plan.{never, on, Walk, held, fails, or_else, turn_at, ending, walk, watered, Plan, depths, refused, after, pad, on_walk, by_walks, plan}
use Rattle.planner.proofs.Days.{Draft, planned, unwatered, settled, before, with_depth, back_at, draft, drafted, Right, draft_right}

pub settled_before : (x : ℕ) (r : Draft) → settled (before x r) ≡ after x (settled r)
unfolding settled before
settled_before x (planned p) = refl
settled_before x (unwatered f) = refl

-- day t ends at E, and `rest` plans the days after it
unfoldable pub ends_at : Outlook → ℕ → (ℕ → Draft) → ℕ → Draft
ends_at o t rest E = elim (leb E (o.ready t)) [ true ↦ rest E | false ↦ unwatered t ]

pub with_depth_ends : (o : Outlook) (d D : ℕ) (rest : ℕ → Draft) (x : ℕ) → with_depth o d D rest x ≡ before x (ends_at o d rest (planned_day o d D x))
unfolding with_depth ends_at before
with_depth_ends o d D rest x = go (leb end (o.ready d))
  where
    end : ℕ
    end = planned_day o d D x

    go : (b : Bool) → ◌≡◌ {A = Draft} (elim b [ true ↦ before x (rest end) | false ↦ unwatered d ]) (before x (elim b [ true ↦ rest end | false ↦ unwatered d ]))
    go true = refl
    go false = refl

module _ (o : Outlook) (e : ℕ) where
  -- the days from t on, once t is watered
  unfoldable restarted : ℕ → Draft
  restarted t = ends_at o t (draft o (e - suc t) (suc t)) (o.need t)

  -- the plan of the days from d on, where the walk failed on f, the latest turn day is t and x its depth
  unfoldable filled : ℕ → ℕ → ℕ → ℕ → Plan
  filled d f t zero = refused f
  filled d f t (suc x) = pad (t - d) (after (suc x) (settled (restarted t)))

  -- a walk from day d, whose latest turn day is not before a, against the draft
  abbrev Follows : ℕ → ℕ → Walk → Draft → Type 0
  Follows a d held r = r ≡ planned (depths (replicate (e - d) 0))
  Follows a d (fails f never) r = r ≡ unwatered f
  Follows a d (fails f (on t x)) r = (a ≤ t) × (t < e) × (r ≡ planned (filled d f t x))

  follows_before : (d : ℕ) → d < e → (w : Walk) (r : Draft) → Follows (suc d) (suc d) w r → Follows (suc d) d w (before 0 r)
  unfolding before filled pad
  follows_before d l held r h = let n : e - d ≡ suc (e - suc d) = omega arith in rw (h, n)
  follows_before d l (fails f never) r h = rw h
  follows_before d l (fails f (on t zero)) r h = (h.0, h.1, rw h.2)
  follows_before d l (fails f (on t (suc x))) r h =
      let n : t - d ≡ suc (t - suc d) = omega arith in (h.0, h.1, rw (h.2, n))

  -- the walk comes back to its first day: the depth fills it, and it ends at its need
  filled_here : (k d D f x : ℕ) → suc k + d ≡ e → D - o.water d ≡ suc x
      → settled (with_depth o d D (draft o k (suc d)) (suc x)) ≡ filled d f d (suc x)
  unfolding filled restarted pad
  filled_here k d D f x l h =
      let here : d - d ≡ 0 = omega arith in
      let left : e - suc d ≡ k = omega arith in
      let end : planned_day o d D (suc x) ≡ o.need d = omega arith in
      rw (with_depth_ends, here, left, end) (settled_before (suc x) (ends_at o d (draft o k (suc d)) (o.need d)))

  follows_back : (k d D : ℕ) → suc k + d ≡ e → (w : Walk) (r : Draft) → Follows (suc d) d w r
      → Follows d d (or_else (turn_at o d D) w) (back_at o d D (draft o k (suc d)) r)
  unfolding back_at filled
  follows_back k d D l held r h = rw h
  follows_back k d D l (fails f (on t x)) r h = (omega arith, h.1, rw h.2)
  follows_back k d D l (fails f never) r h = rw h (go (o.turn d))
    where
      fill : ℕ → Plan
      fill = elim [ zero ↦ refused f | suc x ↦ settled (with_depth o d D (draft o k (suc d)) (suc x)) ]

      full : (x : ℕ) → D - o.water d ≡ x → planned (fill x) ≡ planned (filled d f d x)
      full zero i = refl
      full (suc x) i = ap planned (filled_here k d D f x l i)

      go : (b : Bool) → Follows d d (fails f (elim b [ true ↦ on d (D - o.water d) | false ↦ never ]))
          (elim b [ true ↦ planned (fill (D - o.water d)) | false ↦ unwatered f ])
      go true = (omega arith, omega arith, full (D - o.water d) refl)
      go false = refl

  follows_unwatered : (k d D : ℕ) → suc k + d ≡ e → ((E : ℕ) → Follows (suc d) (suc d) (walk o k (suc d) E) (draft o k (suc d) E))
      → Follows (suc d) d (ending o d (planned_day o d D 0) (walk o k (suc d))) (with_depth o d D (draft o k (suc d)) 0)
  unfolding ending with_depth
  follows_unwatered k d D l h = go (leb end (o.ready d))
    where
      end : ℕ
      end = planned_day o d D 0

      go : (b : Bool) → Follows (suc d) d (elim b [ true ↦ walk o k (suc d) end | false ↦ fails d never ]) (elim b [ true ↦ before 0 (draft o k (suc d) end) | false ↦ unwatered d ])
      go true = follows_before d (omega arith) (walk o k (suc d) end) (draft o k (suc d) end) (h end)
      go false = refl

  follows : (k d D : ℕ) → k + d ≡ e → Follows d d (walk o k d D) (draft o k d D)
  unfolding walk draft
  follows zero d D l = let n : e - d ≡ 0 = omega arith in rw n
  follows (suc k) d D l =
      follows_back k d D l (ending o d (planned_day o d D 0) (walk o k (suc d))) (with_depth o d D (draft o k (suc d)) 0) (follows_unwatered k d D l (λ E. follows k (suc d) E (omega arith)))

  -- the walk restarts at the watered day
  follows_watered : (t : ℕ) → t < e → Follows (suc t) (suc t) (watered o (e - suc t) t) (restarted t)
  unfolding watered ending restarted ends_at
  follows_watered t l = go (leb (o.need t) (o.ready t))
    where
      go : (b : Bool) → Follows (suc t) (suc t) (elim b [ true ↦ walk o (e - suc t) (suc t) (o.need t) | false ↦ fails t never ])
          (elim b [ true ↦ draft o (e - suc t) (suc t) (o.need t) | false ↦ unwatered t ])
      go true = follows (e - suc t) (suc t) (o.need t) (omega arith)
      go false = refl

  on_walk_lem : (rest : ℕ → Plan) (d : ℕ) → ((t : ℕ) → d ≤ t → t < e → rest t ≡ settled (restarted t))
      → (w : Walk) (r : Draft) → Follows d d w r → on_walk rest (e - d) d w ≡ settled r
  unfolding on_walk settled filled
  on_walk_lem rest d h held r q = rw q
  on_walk_lem rest d h (fails f never) r q = rw q
  on_walk_lem rest d h (fails f (on t zero)) r q = rw q.2
  on_walk_lem rest d h (fails f (on t (suc x))) r q = rw (q.2, h t q.0 q.1)

  by_walks_from : (m d : ℕ) (w : Walk) (r : Draft) → e - d < m → Follows d d w r → by_walks o m e d w ≡ settled r
  unfolding by_walks
  by_walks_from zero d w r h q = absurd (omega arith)
  by_walks_from (suc m) d w r h q =
      on_walk_lem (λ t. by_walks o m e (suc t) (watered o (e - suc t) t)) d
      (λ t a b. by_walks_from m (suc t) (watered o (e - suc t) t) (restarted t) (omega arith) (follows_watered t b)) w r q

-- the planner of document 01, walk by walk, makes this plan
pub by_walks_lem : (o : Outlook) (k d D : ℕ) → plan o k d D ≡ drafted o k d D
by_walks_lem o k d D = by_walks_from o (k + d) (suc k) d (walk o k d D) (draft o k d D) (omega arith) (follows o (k + d) k d D refl)

pub walks_right : (o : Outlook) (k d D : ℕ) → Right o k d D (plan o k d D)
walks_right o k d D = rw by_walks_lem (draft_right o k d D)
