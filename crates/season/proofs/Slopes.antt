-- The stages of a season: the coefficient's slope on each day, how large it is, and that it goes on to the next day of the stage.
use mathlib.Core.Path.{◌≡◌, refl, sym, ◌∙◌, ap, subst}
use Prim.Native.Nat.{ℕ, ◌+◌, ◌-◌, ◌*◌, ◌≤◌, ◌<◌}
use native.Mathlib.Omega.{arith}
use lib.IntN.{pos, nat_abs, ◌+ℤ◌}
use borrow.Author.Tests.{le-leb, lt-leb}
use Rattle.season.specs.declared.Season.{Season}
use Rattle.season.specs.declared.Slope.{Slope}
use Rattle.season.specs.declared.Stage.{Stage}
use Rattle.season.specs.declared.Stage.TheVariants.{Initial, Development, Middle, Late}
use Rattle.season.specs.Sheet.{Within, Ranged, DayOf, season_days}
use Rattle.season.specs.Carried.{constant, sloping, slope_of}
use Rattle.season.specs.Day.{stage_of, of_stage, in_stage, kc_of, ratio}
use Rattle.season.proofs.Whole.{by_order, nat_abs_diff}
use Rattle.season.proofs.Ramp.{ramp_le, ramp_next}

-- The days of a stage.
abbrev pub DaysOf : Season → ℕ → Stage → Type 0
DaysOf s i Initial = i ≤ s.initial
DaysOf s i Development = (s.initial < i) × (i ≤ s.initial + s.development)
DaysOf s i Middle = (s.initial + s.development < i) × (i ≤ s.initial + s.development + s.middle)
DaysOf s i Late = s.initial + s.development + s.middle < i

-- The stage, by a day's place among the stages' days.
pub stage_is : (s : Season) (i : ℕ) (g : Stage) → DaysOf s i g → stage_of s i ≡ g
unfolding stage_of
stage_is s i Initial h = simp (le-leb _ _ h)
stage_is s i Development h = simp (lt-leb _ _ h.0, le-leb _ _ h.1)
stage_is s i Middle h =
    let l₁ : s.initial < i = omega arith in
    simp (lt-leb _ _ l₁, lt-leb _ _ h.0, le-leb _ _ h.1)
stage_is s i Late h =
    let l₁ : s.initial < i = omega arith in
    let l₂ : s.initial + s.development < i = omega arith in
    simp (lt-leb _ _ l₁, lt-leb _ _ l₂, lt-leb _ _ h)

-- And the days, by their stage.
of_stage_lem : (s : Season) (i : ℕ) → DaysOf s i (stage_of s i)
of_stage_lem s i =
    by_order s.initial i
    (λ h. rw (stage_is s i Initial h) h)
    (λ l₁. by_order (s.initial + s.development) i
    (λ h. rw (stage_is s i Development (l₁, h)) (l₁, h))
    (λ l₂. by_order (s.initial + s.development + s.middle) i
    (λ h. rw (stage_is s i Middle (l₂, h)) (l₂, h))
    (λ l₃. rw (stage_is s i Late l₃) l₃)))

pub days_of : (s : Season) (i : ℕ) (g : Stage) → stage_of s i ≡ g → DaysOf s i g
days_of s i g e = subst (DaysOf s i) e (of_stage_lem s i)

-- What is made of the numbers of a day of stage g.
in_stage_lem : {A : Type 0} (level : ℕ → ℕ → ℕ → A) (slope : ℕ → ℕ → ℕ → ℕ → A) (s : Season) (i : ℕ) (g : Stage) → stage_of s i ≡ g
    → in_stage level slope s i ≡ of_stage level slope s i g
unfolding in_stage
in_stage_lem level slope s i g e = ap (of_stage level slope s i) e

-- What is made of the stage's choice is a choice of what is made.
of_choice : {A B : Type 0} (f : A → B) (level : ℕ → ℕ → ℕ → A) (slope : ℕ → ℕ → ℕ → ℕ → A) (s : Season) (i : ℕ)
    → f (in_stage level slope s i) ≡ in_stage (λ kc l k. f (level kc l k)) (λ kp kn l k. f (slope kp kn l k)) s i
unfolding in_stage
of_choice f level slope s i = go (stage_of s i)
  where
    go : (g : Stage) → f (of_stage level slope s i g) ≡ of_stage (λ kc l k. f (level kc l k)) (λ kp kn l k. f (slope kp kn l k)) s i g
    go Initial = refl
    go Development = refl
    go Middle = refl
    go Late = refl

module _ (s : Season) (i : ℕ) where
  slope_in : i ≤ season_days s → slope_of s i ≡ in_stage constant sloping s i
  unfolding slope_of
  slope_in h = simp (le-leb _ _ h)

  pub slope_of_stage : (g : Stage) → i ≤ season_days s → stage_of s i ≡ g → slope_of s i ≡ of_stage constant sloping s i g
  slope_of_stage g h e = slope_in h ∙ in_stage_lem constant sloping s i g e

  pub past_season : season_days s < i → slope_of s i ≡ constant 0 0 0
  unfolding slope_of
  past_season h = simp (lt-leb _ _ h)

  -- Kc is the slope's quotient.
  pub kc_slope : DayOf s i → kc_of s i ≡ ratio (slope_of s i).top (slope_of s i).bottom
  unfolding kc_of in_stage
  kc_slope d = rw (slope_in d.to) (sym (of_choice (λ k. ratio k.top k.bottom) constant sloping s i))

-- The stage goes on to the next day where a day of it is left, and past the season's end.
module _ (s : Season) (i : ℕ) where
  pub stage_next : i ≤ season_days s → 0 < (slope_of s i).left → stage_of s (i + 1) ≡ stage_of s i
  stage_next to more = go (stage_of s i) refl
    where
      go : (g : Stage) → stage_of s i ≡ g → stage_of s (i + 1) ≡ stage_of s i
      go Initial e = let m = rw (slope_of_stage s i Initial to e) at more in stage_is s (i + 1) Initial (omega arith) ∙ sym e
      go Development e =
          let m = rw (slope_of_stage s i Development to e) at more in
          let d = days_of s i Development e in
          stage_is s (i + 1) Development (omega arith, omega arith) ∙ sym e
      go Middle e =
          let m = rw (slope_of_stage s i Middle to e) at more in
          let d = days_of s i Middle e in
          stage_is s (i + 1) Middle (omega arith, omega arith) ∙ sym e
      go Late e =
          let d = days_of s i Late e in
          stage_is s (i + 1) Late (omega arith) ∙ sym e

  pub stage_past : Ranged s → i ≡ season_days s → stage_of s (i + 1) ≡ stage_of s i
  stage_past r last = stage_is s (i + 1) Late (omega (arith, r.late.low≤)) ∙ sym (stage_is s i Late (omega (arith, r.late.low≤)))

-- Day i is day k of a stage of L days whose slopes are f. Where it is not the last of them, the next day is day k + 1.
record Stays (s : Season) (i l k : ℕ) (f : ℕ → Slope) : Type 0 where
  pub here : slope_of s i ≡ f k
  pub next : k < l → slope_of s (i + 1) ≡ f (k + 1)
  pub day : k ≤ l
  pub within : i + (l - k) ≤ season_days s

stays : (s : Season) (i start l : ℕ) (f : ℕ → Slope) → ((j : ℕ) → i ≤ j → j ≤ start + l → in_stage constant sloping s j ≡ f (j - start)) → start ≤ i
    → i ≤ start + l → start + l ≤ season_days s → Stays s i l (i - start) f
stays s i start l f e from to end = record {
  here = slope_in s i (omega arith) ∙ e i (omega arith) to;
  next = λ h. slope_in s (i + 1) (omega arith) ∙ e (i + 1) (omega arith) (omega arith) ∙ ap f (omega arith);
  day = omega arith;
  within = omega arith;
}

-- The days of a season, by their stages.
by-stage {ℓ} : {P : Type ℓ} (s : Season) (i : ℕ) → Ranged s → i ≤ season_days s
    → ((kc l k : ℕ) → kc ≤ 200 → Stays s i l k (constant kc l) → P)
    → ((kp kn l k : ℕ) → kp ≤ 200 → kn ≤ 200 → Within 1 200 l → Stays s i l k (sloping kp kn l) → P) → P
by-stage s i r to level slope =
    by_order s.initial i
    (λ h. level _ _ _ r.kcini.≤high
    (stays s i 0 _ _ (λ j from to. in_stage_lem constant sloping s j Initial (stage_is s j Initial (omega arith)) ∙ ap (constant _ _) (omega arith)) (omega arith) (omega arith) (omega arith)))
    (λ l₁. by_order (s.initial + s.development) i
    (λ h. slope _ _ _ _ r.kcini.≤high r.kcmid.≤high r.development
    (stays s i s.initial _ _ (λ j from to. in_stage_lem constant sloping s j Development (stage_is s j Development (omega arith, to))) (omega arith) h (omega arith)))
    (λ l₂. by_order (s.initial + s.development + s.middle) i
    (λ h. level _ _ _ r.kcmid.≤high
    (stays s i (s.initial + s.development) _ _ (λ j from to. in_stage_lem constant sloping s j Middle (stage_is s j Middle (omega arith, to))) (omega arith) h (omega arith)))
    (λ l₃. slope _ _ _ _ r.kcmid.≤high r.kcend.≤high r.late
    (stays s i (s.initial + s.development + s.middle) _ _ (λ j from to. in_stage_lem constant sloping s j Late (stage_is s j Late (omega arith))) (omega arith) to (omega arith)))))

-- A coefficient of at most 200 hundredths, over at most 200 days.
pub record Small (k : Slope) : Type 0 where
  pub some : 1 ≤ k.bottom
  pub few : k.bottom ≤ 200
  pub top_le : k.top ≤ 200 * k.bottom
  pub rise_le : nat_abs k.rise ≤ 200

small_constant : (kc l k : ℕ) → kc ≤ 200 → Small (constant kc l k)
small_constant kc l k h = record { some = omega arith; few = omega arith; top_le = omega arith; rise_le = omega arith }

pub slope_small : (s : Season) (i : ℕ) → Ranged s → Small (slope_of s i)
slope_small s i r =
    by_order (season_days s) i
    (λ to. by-stage s i r to
    (λ kc l k h e. rw e.here (small_constant kc l k h))
    (λ kp kn l k hp hn hl e. rw e.here
    (record { some = hl.low≤; few = hl.≤high; top_le = ramp_le kp kn l k 200 e.day hp hn; rise_le = nat_abs_diff kn kp 200 hn hp })))
    (λ past. rw (past_season s i past) (small_constant 0 0 0 (omega arith)))

-- The next day of a stage: its top is `rise` more.
pub record Next (a b : Slope) : Type 0 where
  pub top : pos b.top ≡ pos a.top +ℤ a.rise
  pub bottom : b.bottom ≡ a.bottom
  pub rise : b.rise ≡ a.rise
  pub left : b.left + 1 ≡ a.left

pub slope_next : (s : Season) (i : ℕ) → Ranged s → i ≤ season_days s → 0 < (slope_of s i).left → Next (slope_of s i) (slope_of s (i + 1))
slope_next s i r to =
    by-stage s i r to
    (λ kc l k h e more. let m : k < l = days_left_lem l k (rw e.here at more) in
    rw (e.here, e.next m) (record { top = ap pos (omega arith); bottom = refl; rise = refl; left = omega arith }))
    (λ kp kn l k hp hn hl e more. let m : k < l = days_left_lem l k (rw e.here at more) in
    rw (e.here, e.next m) (record { top = ramp_next kp kn l k m; bottom = refl; rise = refl; left = omega arith }))
  where
    days_left_lem : (l k : ℕ) → 0 < l - k → k < l
    days_left_lem l k h = omega arith

-- A stage ends within the season.
pub left_within : (s : Season) (i : ℕ) → Ranged s → i ≤ season_days s → i + (slope_of s i).left ≤ season_days s
left_within s i r to = by-stage s i r to (λ kc l k h e. rw e.here e.within) (λ kp kn l k hp hn hl e. rw e.here e.within)
