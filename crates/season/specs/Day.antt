-- Document 01, 'A day's numbers': season day i.
use Rattle.std.specs.Prelude.{Bool, cond, ℕ, ◌+◌, ◌-◌, ◌*◌, ◌≤◌, leb, eqb, get_or}
use Rattle.season.specs.Calendar.{date_is, days_on, month_days}
use Rattle.season.specs.Sheet.{Valid}
use Rattle.season.specs.Rules.{ramp, nearest, root_depth, ready_part, effective_rain, planned_rain}
use Rattle.season.specs.declared.Season.{Season}
use Rattle.season.specs.declared.Date.{Date}
use Rattle.season.specs.declared.Kc.{Kc}
use Rattle.season.specs.declared.Stage.{Stage}
use Rattle.season.specs.declared.Stage.TheVariants.{Initial, Development, Middle, Late}

-- Day 1 is the start.
unfoldable pub date_of : Season → ℕ → Date
date_of s i = days_on s.february (date_is s.month s.first) (i - 1)

abbrev pub ratio : ℕ → ℕ → Kc
ratio t b = record { top = t; bottom = b }

-- The stage of day i. The last day of a stage is in it.
unfoldable pub stage_of : Season → ℕ → Stage
stage_of s i =
    cond (leb i s.initial) Initial
    (cond (leb i (s.initial + s.development)) Development
    (cond (leb i (s.initial + s.development + s.middle)) Middle
    Late))

-- The stages by their order, and whether two are the same.
abbrev pub stage_number : Stage → ℕ
stage_number Initial = 1
stage_number Development = 2
stage_number Middle = 3
stage_number Late = 4

abbrev pub same_stage : Stage → Stage → Bool
same_stage g h = eqb (stage_number g) (stage_number h)

-- Day i is day k of its stage's L days. Initial: Kc ini; mid: Kc mid. Development goes from Kc ini to Kc mid, late from Kc mid to Kc end.
-- `level kc l k` and `slope kp kn l k` are what is made of these numbers.
abbrev pub of_stage : {A : Type 0} → (ℕ → ℕ → ℕ → A) → (ℕ → ℕ → ℕ → ℕ → A) → Season → ℕ → Stage → A
of_stage level slope s i Initial = level s.kcini s.initial i
of_stage level slope s i Development = slope s.kcini s.kcmid s.development (i - s.initial)
of_stage level slope s i Middle = level s.kcmid s.middle (i - (s.initial + s.development))
of_stage level slope s i Late = slope s.kcmid s.kcend s.late (i - (s.initial + s.development + s.middle))

unfoldable pub in_stage : {A : Type 0} → (ℕ → ℕ → ℕ → A) → (ℕ → ℕ → ℕ → ℕ → A) → Season → ℕ → A
unfolding stage_of
in_stage level slope s i = of_stage level slope s i (stage_of s i)

-- Kc in hundredths, as a fraction: nothing is rounded here.
unfoldable pub kc_of : Season → ℕ → Kc
unfolding in_stage
kc_of = in_stage (λ kc l k. ratio kc 1) (λ kp kn l k. ratio (ramp kp kn l k) l)

-- ETo and the effective rain of a calendar month.
abbrev pub eto_in : Season → ℕ → ℕ
eto_in s m = get_or s.eto (m - 1) 0

abbrev pub effective_in : Season → ℕ → ℕ
effective_in s m = effective_rain (get_or s.rain (m - 1) 0)

-- C = ETo × Kc / 100, rounded once.
unfoldable pub crop_need : Season → ℕ → ℕ
crop_need s i = nearest (eto_in s (date_of s i).month * (kc_of s i).top) (100 * (kc_of s i).bottom)

-- Planned rain.
unfoldable pub rain_on : Season → ℕ → ℕ
rain_on s i = planned_rain (effective_in s (date_of s i).month) (date_of s i).day (month_days s.february (date_of s i).month)

-- Root depth Z, total water T = A × Z, ready water R. G is field 3 + field 4.
abbrev pub root_on : Season → ℕ → ℕ
root_on s i = root_depth s.sowing s.full (s.initial + s.development) i

abbrev pub total_on : Season → ℕ → ℕ
total_on s i = s.water * root_on s i

abbrev pub ready_on : Season → ℕ → ℕ
ready_on s i = ready_part s.fraction (total_on s i)

-- What refusals 4 to 7 leave: the season of an accepted sheet.
pub record AcceptedSeason (s : Season) : Type 0 where
  pub valid : Valid s
  pub opens : s.opening ≤ total_on s 1
