-- What refusals 11 and 18 leave to a probe.
use mathlib.Core.Path.{◌≡◌}
use mathlib.Core.Bool.{Bool, true, false, ◌||◌, true≢false}
use mathlib.Core.List.{[], ◌∷◌}
use Prim.Native.Nat.{ℕ, ◌≤◌}
use lib.Dec.{ltb}
use borrow.Author.Tests.{ltb-false}
use Rattle.verdict.specs.Refusals.{Accepted, first_of}
use Rattle.verdict.proofs.First.{accepted_fails}
use Rattle.season.specs.declared.Season.{Season}
use Rattle.season.specs.Sheet.{DayOf, season_days}
use Rattle.probes.specs.Contents.{Reading, is_wrong, is_nothing}
use Rattle.measuring.specs.Probing.{capacity_outside, probe_refusals}

or_false : (t u : Bool) → t || u ≡ false → u ≡ false
or_false true u h = absurd (true≢false h)
or_false false u h = h

-- An open day, and a field capacity of at most 6,000.
pub probe_passes : (s : Season) (r : Reading) (f day : ℕ) → first_of Accepted (probe_refusals (ltb (season_days s) day) r f) ≡ Accepted → 1 ≤ day
    → DayOf s day × (f ≤ 6000)
probe_passes s r f day e from =
    let closed = accepted_fails (ltb (season_days s) day) 11 0 ((is_wrong r || capacity_outside f, 18, 0) ∷ (is_nothing r, 19, 0) ∷ []) e in
    let wrong = accepted_fails (is_wrong r || capacity_outside f) 18 0 ((is_nothing r, 19, 0) ∷ []) closed.1 in (
      record { from = from; to = ltb-false (season_days s) day closed.0 },
      ltb-false 6000 f (or_false (ltb f 1) (ltb 6000 f) (or_false (is_wrong r) (capacity_outside f) wrong.0)),
    )
