-- Demand 3 on bytes: an accepted pair's calls are the journal's and the planner's own.
use mathlib.Core.Path.{◌≡◌, refl, sym, ◌∙◌, ap, ap₂, subst⁻¹}
use mathlib.Core.Logic.{◌⊎◌, inl, inr}
use mathlib.Core.List.{List, [], ◌∷◌, ◌++◌}
use Prim.Native.Nat.{ℕ, ◌≤◌}
use native.Mathlib.Omega.{arith}
use lib.ListN.{length, take, drop}
use lib.Seq.{take_at}
use borrow.Author.Tests.{le-ltb}
use Rattle.season.specs.declared.Season.{Season}
use Rattle.season.specs.Sheet.{season_days}
use Rattle.season.specs.Day.{root_on, total_on}
use Rattle.verdict.specs.Refusals as verdict
use Rattle.verdict.specs.Refusals.{or_refused}
use Rattle.sheet.specs.Sheets.{sheets_of}
use Rattle.sheet.proofs.Accepted.{accepted_season}
use Rattle.journal.specs.declared.Entry.{Entry}
use Rattle.journal.specs.declared.Ledger.{Ledger}
use Rattle.journal.specs.Calls.{Opened, no_stores, recorded_with, recorded, opened_with, opened}
use Rattle.journal.specs.Opening as found
use Rattle.journal.specs.Loss.{Parts, losses_of, lost_on, lost}
use Rattle.journal.specs.Loss as losing
use Rattle.journal.specs.Entries.{waiting}
use Rattle.journal.specs.Opening.{opening}
use Rattle.journal.specs.Book.{Step, empty_book, ledger_of, book_after, found_in}
use Rattle.journal.specs.History.{Device, recorded_as, opened_as, journal, blank_area, area_after}
use Rattle.journal.specs.Claims.{Kept}
use Rattle.journal.proofs.Answers.{opened_opening}
use Rattle.journal.proofs.Roles.{opens_same}
use Rattle.journal.proofs.Claims as journals
use Rattle.planner.specs.Answer.{Planned, Made, Refused, numbers_of, answer_to, answer}
use Rattle.planner.specs.Plan.{Plan, depths, refused}
use Rattle.planner.specs.Outlook.{outlook, days_left}
use Rattle.planner.proofs.Claims as plans
use Rattle.probes.specs.declared.Probe.{Probe}
use Rattle.probes.specs.Contents.{Content, reading_of}
use Rattle.probes.specs.Depletion.{measured}
use Rattle.measuring.specs.Probing.{Depletions, probed_on}
use Rattle.measuring.specs.Probing as probed
use Rattle.controller.specs.Calls.{planned_on, sheet_opened, sheet_recorded, sheet_lost, sheet_planned, sheet_probed}
use Rattle.controller.specs.Refusals.{plan_of}
use Rattle.controller.specs.Demands.{calls, numbered, PlanKept, Demand3}
use Rattle.controller.proofs.Sheets.{sheets_accepted}
use Rattle.controller.proofs.Roles.{same_for_roles}

-- ---- a plan from a ledger, in a buffer that is long enough

module _ (s : Season) (l : Ledger) (out : List ℕ) (room : days_left s l.day ≤ length out) where
  made_to : answer s l.day l.depletion (waiting l) out ≡ answer_to s.efficiency out (plan_of s l)
  unfolding answer
  made_to = rw (le-ltb _ _ room, answer)

  -- An answer by its numbers.
  as_numbered : (a b : Planned) (m n : List ℕ) → numbers_of a ≡ numbers_of b → m ≡ n → ◌≡◌ {A = Planned × List ℕ} (a, m) (b, n)
  as_numbered a b m n p q = ap₂ (λ (x : Planned) (y : List ℕ). (x, y)) ((plans.claims).numbers_one_to_one a b p) q

  module _ (a : Planned × List ℕ) where
    is_refused : (f : ℕ) → numbered a ≡ (16 ∷ f ∷ [], out) → a ≡ (Refused 16 f, out)
    is_refused f e = as_numbered a.0 (Refused 16 f) a.1 out (ap (λ (p : List ℕ × List ℕ). p.0) e) (ap (λ (p : List ℕ × List ℕ). p.1) e)

    is_made : (days net gross : ℕ) (m : List ℕ) → numbered a ≡ (0 ∷ 0 ∷ days ∷ net ∷ gross ∷ [], m) → a ≡ (Made days (record { 0 = net }) (record { 0 = gross }), m)
    is_made days net gross m e =
        as_numbered a.0 (Made days (record { 0 = net }) (record { 0 = gross })) a.1 m (ap (λ (p : List ℕ × List ℕ). p.0) e) (ap (λ (p : List ℕ × List ℕ). p.1) e)

  -- Refused 16, or a plan is given.
  abbrev Answered : Planned × List ℕ → Type 0
  Answered a = ((f : ℕ) × (numbered a ≡ (16 ∷ f ∷ [], out)))
      ⊎ ((days : ℕ) × (net : ℕ) × (gross : ℕ) × (m : List ℕ) × (numbered a ≡ (0 ∷ 0 ∷ days ∷ net ∷ gross ∷ [], m)))

  one_of : (p : Plan) → Answered (answer_to s.efficiency out p)
  unfolding answer_to
  one_of (depths xs) = inr (_, _, _, _, refl)
  one_of (refused f) = inl (f, refl)

  -- The depths given are the plan's.
  depths_given : (days net gross : ℕ) (m : List ℕ) (p : Plan) → plan_of s l ≡ p → numbered (answer_to s.efficiency out p) ≡ (0 ∷ 0 ∷ days ∷ net ∷ gross ∷ [], m)
      → plan_of s l ≡ depths (take (days_left s l.day) m)
  unfolding answer_to
  depths_given days net gross m (depths xs) q e =
      let size = ((plans.claims).made_best (outlook s l.day (waiting l)) (days_left s l.day) l.day l.depletion xs q).size in
      let is : xs ++ drop (length xs) out ≡ m = ap (λ (p : List ℕ × List ℕ). p.1) e in
      q ∙ ap depths (sym (take_at xs (drop (length xs) out) (days_left s l.day) size) ∙ ap (take (days_left s l.day)) is)
  depths_given days net gross m (refused f) q e =
      let first : 16 ∷ f ∷ [] ≡ 0 ∷ 0 ∷ days ∷ net ∷ gross ∷ [] = ap (λ (p : List ℕ × List ℕ). p.0) e in
      absurd (let z : ◌≡◌ {A = ℕ} 16 0 = cc in omega arith)

  plan_kept : PlanKept s l out (answer s l.day l.depletion (waiting l) out)
  plan_kept =
      let a = answer s l.day l.depletion (waiting l) out in
      let iff = (plans.claims).answer_refused_iff s l.day l.depletion (waiting l) out room in
      record {
        refused_iff = (λ r. iff.0 (r.0, is_refused a r.0 r.1), λ none. let r = iff.1 none in (r.0, ap numbered r.1));
        refused_first = λ f e. (plans.claims).answer_refused_first s l.day l.depletion (waiting l) f out out (is_refused a f e);
        answered = rw made_to (one_of (plan_of s l));
        given = λ days net gross m e. (
          depths_given days net gross m (plan_of s l) refl (sym (ap numbered made_to) ∙ e),
          (plans.claims).answer_made_right s l.day l.depletion (waiting l) days (record { 0 = net }) (record { 0 = gross }) out m (is_made a days net gross m e),
        );
      }

-- ---- an accepted pair

module _ (climate block : List ℕ) (v : (sheets_of climate block).verdict ≡ verdict.Accepted) where
  abbrev s : Season
  s = (sheets_of climate block).season

  -- Its calls are the journal's.
  same_opened : (area : List ℕ) → sheet_opened climate block area ≡ opened s area
  same_opened area = sheets_accepted (λ number value. opened_with (found.Refused number value) []) (λ t. opened t area) climate block (sheets_of climate block) refl v

  same_recorded : (area : List ℕ) (e : Entry) → sheet_recorded climate block area e ≡ recorded s area e
  same_recorded area e = sheets_accepted (λ number value. recorded_with (verdict.Refused number value) no_stores) (λ t. recorded t area e) climate block (sheets_of climate block) refl v

  -- So they are as a role has them.
  same_calls : calls climate block ≡ journal s
  same_calls = λ i. record { records = λ role area e. recorded_as role (same_recorded area e i); opened = λ role area. opened_as role (same_opened area i) }

  pub opens : (area : List ℕ) → (sheet_opened climate block area).opening ≡ opening s area
  opens area = ap (λ (r : Opened). r.opening) (same_opened area) ∙ opened_opening s area

  -- On a clean journal with an open day the plan is the planner's, from the ledger.
  plans_clean : (area out : List ℕ) (l : Ledger) → opening s area ≡ found.Clean l → l.day ≤ season_days s
      → sheet_planned climate block area out ≡ answer s l.day l.depletion (waiting l) out
  unfolding planned_on
  plans_clean area out l o h =
      sheets_accepted (λ number value. (Refused number value, out)) (λ t. planned_on t out (opening t area)) climate block (sheets_of climate block) refl v
      ∙ rw (o, planned_on, le-ltb (season_days s) l.day h)

  pub plan_right : (area out : List ℕ) (l : Ledger) → opening s area ≡ found.Clean l → l.day ≤ season_days s → days_left s l.day ≤ length out
      → PlanKept s l out (sheet_planned climate block area out)
  plan_right area out l o day room = subst⁻¹ (PlanKept s l out) (plans_clean area out l o day) (plan_kept s l out room)

  -- On a clean journal the losses are those of the ledger.
  losses_clean : (area : List ℕ) (ky : ℕ) (l : Ledger) → opening s area ≡ found.Clean l → 1 ≤ ky → ky ≤ 200 → sheet_lost climate block area ky ≡ Parts (losses_of ky l)
  unfolding lost lost_on or_refused
  losses_clean area ky l o low high =
      sheets_accepted losing.Refused (λ t. lost t area ky) climate block (sheets_of climate block) refl v
      ∙ rw (o, lost_on, le-ltb ky 1 low, le-ltb 200 ky high)

  -- On a clean journal with an open day a content is answered beside the ledger's depletion.
  probes_clean : (area : List ℕ) (shallow deep : Probe) (f w : ℕ) (l : Ledger) → opening s area ≡ found.Clean l → 1 ≤ f → f ≤ 6000
      → reading_of shallow deep ≡ Content w → l.day ≤ season_days s
      → sheet_probed climate block area shallow deep f ≡ Depletions l.depletion (measured f w (root_on s l.day) (total_on s l.day))
  unfolding probed_on or_refused
  probes_clean area shallow deep f w l o low high r day =
      sheets_accepted probed.Refused (λ t. probed_on t (reading_of shallow deep) f (opening t area)) climate block (sheets_of climate block) refl v
      ∙ rw (o, r, probed_on, le-ltb (season_days s) l.day day, le-ltb f 1 low, le-ltb 6000 f high)

  pub demand_3 : (size : ℕ) → size ≤ 8192 → (steps : List Step) (out : List ℕ) (role : ℕ) → 1 ≤ role → role ≤ 3 → Demand3 climate block size steps out role
  unfolding found_in
  demand_3 size h steps out role from to =
      let k = book_after s size empty_book steps in
      let kept : Kept (calls climate block) s size steps role
      = subst⁻¹ (λ (d : Device). Kept d s size steps role) same_calls ((journals.claims).history_kept s (accepted_season climate block v) size h steps role from to) in
      let area = area_after (calls climate block) (blank_area size) steps in
      let clean : k.loose ≡ [] → opening s area ≡ found.Clean (ledger_of s k)
      = λ none. sym (opens_same role from to (sheet_opened climate block area) ∙ opens area) ∙ kept.opens_as ∙ ap (found_in (ledger_of s k)) none in
      record {
        kept = kept;
        plans = λ none day room.
            subst⁻¹ (PlanKept s (ledger_of s k) out) (same_for_roles.plans role from to climate block area out) (plan_right area out (ledger_of s k) (clean none) day room);
        losses = λ ky low high none. same_for_roles.loses role from to climate block area ky ∙ losses_clean area ky (ledger_of s k) (clean none) low high;
        probes = λ shallow deep f w low high r none day.
            same_for_roles.probes role from to climate block area shallow deep f ∙ probes_clean area shallow deep f w (ledger_of s k) (clean none) low high r day;
      }
