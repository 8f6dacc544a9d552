-- Document 01, 'The plan': the program waters on the latest turn day, after its last watering, that is not after the first failing day, and
-- brings max(0, D − w) to zero that day with the smallest depth. If there is no such turn day, or that depth is 0, it refuses with the
-- failing day.
use Rattle.std.specs.Prelude.{ℕ, suc, zero, ◌+◌, ◌-◌, Bool, true, false, List, ◌∷◌, leb, replicate}
use Rattle.planner.specs.Choices.{Outlook, planned_day}

-- The latest turn day of a walk, with the smallest depth that brings max(0, D − w) to zero that day, which is max(0, D − w).
pub data Turn : Type 0 where
  never : Turn
  on : ℕ → ℕ → Turn

-- Where a walk comes to: every day holds, or the first failing day, with the latest turn day that is not after it.
pub data Walk : Type 0 where
  held : Walk
  fails : ℕ → Turn → Walk

-- The latest turn day once day d is passed, whose turn and depth are b and x.
abbrev pub latest : Turn → Bool → ℕ → ℕ → Turn
latest t b d x = elim b [ true ↦ on d x | false ↦ t ]

-- Turn day t counts where the walk after it has none.
abbrev pub or_else : Turn → Walk → Walk
or_else t held = held
or_else t (fails f never) = fails f t
or_else t (fails f (on u x)) = fails f (on u x)

-- Day d, which starts at D, as a turn day.
abbrev pub turn_at : Outlook → ℕ → ℕ → Turn
turn_at o d D = latest never (o.turn d) d (D - o.water d)

-- Day d ends at E: it is the failing day, or `rest` walks on from E.
unfoldable pub ending : Outlook → ℕ → ℕ → (ℕ → Walk) → Walk
ending o d E rest = elim (leb E (o.ready d)) [ true ↦ rest E | false ↦ fails d never ]

-- The walk of k days from day d, which starts at D, with no watering.
unfoldable pub walk : Outlook → ℕ → ℕ → ℕ → Walk
walk o zero d D = held
walk o (suc k) d D = or_else (turn_at o d D) (ending o d (planned_day o d D 0) (walk o k (suc d)))

-- The walk once day t is watered, with k days after it: max(0, D − w) is zero, so that t ends at its crop need. Turn days count from
-- the day after, so that t, where it fails, is refused.
unfoldable pub watered : Outlook → ℕ → ℕ → Walk
watered o k t = ending o t (o.need t) (walk o k (suc t))

-- The depth of each day, or the day that no choice holds.
pub data Plan : Type 0 where
  depths : List ℕ → Plan
  refused : ℕ → Plan

-- Depth x before a plan, and 0 on each of n days before it.
abbrev pub after : ℕ → Plan → Plan
after x (depths xs) = depths (x ∷ xs)
after x (refused f) = refused f

unfoldable pub pad : ℕ → Plan → Plan
pad zero p = p
pad (suc n) p = after 0 (pad n p)

-- What a walk of k days from day d leads to. Where turn day t is watered, `rest t` plans the days after it.
unfoldable pub on_walk : (ℕ → Plan) → ℕ → ℕ → Walk → Plan
on_walk rest k d held = depths (replicate k 0)
on_walk rest k d (fails f never) = refused f
on_walk rest k d (fails f (on t zero)) = refused f
on_walk rest k d (fails f (on t (suc x))) = pad (t - d) (after (suc x) (rest t))

-- The days from d, whose walk is w, to the one before e, in at most as many walks as the first number says.
unfoldable pub by_walks : Outlook → ℕ → ℕ → ℕ → Walk → Plan
by_walks o zero e d w = refused d
by_walks o (suc m) e d w = on_walk (λ t. by_walks o m e (suc t) (watered o (e - suc t) t)) (e - d) d w

-- The plan of k days from day d, which starts at D. Each walk but the last waters a day of its own: k + 1 walks are enough.
abbrev pub plan : Outlook → ℕ → ℕ → ℕ → Plan
plan o k d D = by_walks o (suc k) (k + d) d (walk o k d D)
