-- The calls by a role: what they are without one, what they refuse, and that role 1 leaves the area.
use Prim.Native.Nat.{ℕ, suc, ◌≤◌, ◌<◌}
use mathlib.Core.Path.{◌≡◌, refl, sym, ◌∙◌, ap}
use mathlib.Core.Bool.{Bool, true, false, cond, ◌||◌}
use mathlib.Core.List.{List, [], ◌∷◌, ◌++◌}
use native.Mathlib.Omega.{arith}
use lib.Dec.{eqb, ltb}
use mathlib.Core.Logic.{◌⊎◌, inl, inr}
use denote.Enum.Bare.{sameb}
use Rattle.leb128.proofs.Steps.{lt_or_le}
use Rattle.controller.specs.contracts.Role.{the_type}
use Rattle.controller.specs.declared.Role.{Role}
use Rattle.controller.specs.declared.Role.TheVariants.{Looks, Enters, Mends}
use lib.Seq.{take-nil}
use borrow.Author.Tests.{ne_eqb, lt-ltb, le-ltb}
use Rattle.verdict.specs.Refusals.{Verdict, Accepted, Refused, or_refused, first_of}
use Rattle.verdict.proofs.First.{first_append, first_refused_lem, first_holds}
use Rattle.journal.specs.Calls.{Opened, Store}
use Rattle.journal.specs.Book.{Call, enters, opens}
use Rattle.journal.specs.Roles.{Line, look_lines, enter_lines, may_mend, by_role}
use Rattle.journal.specs.History.{without_stores, handed, stored, area_next}
use Rattle.journal.proofs.Roles.{role_refused, role_accepted, by_role_lem, refusal_of, may_look, may_enter, enters_nothing, opens_nothing}
use Rattle.controller.specs.Calls.{sheet_opened, sheet_recorded}
use Rattle.controller.specs.Roles.{role_number, opened_by, SameForRoles}
use Rattle.controller.specs.Demands.{calls, Press, area_pressed, OnlyLook}

-- ---- a call by the verdict on its role

module _ {A : Type 0} (lines : List Line) (refuse : ℕ → ℕ → A) (reply : A) (v : Verdict) (is : v ≡ first_of Accepted lines) where
  pub declined : (number value : ℕ) → v ≡ Refused number value → refuse number value ≡ by_role lines refuse reply
  declined number value e = sym (role_refused lines refuse reply number value (sym is ∙ e))

  pub allowed : v ≡ Accepted → reply ≡ by_role lines refuse reply
  allowed e = sym (role_accepted lines refuse reply (sym is ∙ e))

-- 21 goes on from the verdict of 20.
pub entering : (role : ℕ) {v w : Verdict} → v ≡ first_of Accepted (look_lines role) → w ≡ or_refused v (eqb role 1) 21 0 → w ≡ first_of Accepted (enter_lines role)
unfolding look_lines enter_lines
entering role i j = j ∙ ap (λ (v : Verdict). or_refused v (eqb role 1) 21 0) i

-- The code compares roles as their numbers.
pub looks : (k : Role) → sameb the_type k Looks ≡ eqb (role_number k) 1
looks Looks = refl
looks Enters = refl
looks Mends = refl

pub mends : (k : Role) → sameb the_type k Mends ≡ eqb (role_number k) 3
mends Looks = refl
mends Enters = refl
mends Mends = refl

-- A number that is no role's.
pub role_outside : (role : ℕ) → (role ≡ 1 → ⊥) → (role ≡ 2 → ⊥) → (role ≡ 3 → ⊥) → first_of Accepted (look_lines role) ≡ Refused 20 0
unfolding look_lines
role_outside role a b c = go (lt_or_le role 1) (lt_or_le 4 (suc role))
  where
    go : (role < 1) ⊎ (1 ≤ role) → (4 < suc role) ⊎ (suc role ≤ 4) → first_of Accepted ((ltb role 1 || ltb 3 role, 20, 0) ∷ []) ≡ Refused 20 0
    go (inl h) q = first_holds _ 20 0 [] (rw (lt-ltb role 1 h) refl)
    go (inr h) (inl q) = first_holds _ 20 0 [] (rw (le-ltb role 1 h, lt-ltb 3 role (omega arith)) refl)
    go (inr h) (inr q) = absurd (omega (arith, a, b, c))

-- An opening's stores are for role 3.
module _ (role : ℕ) (r : Opened) where
  pub with_stores : may_mend role ≡ true → r ≡ cond (may_mend role) r (without_stores r)
  with_stores e = rw e refl

  pub stores_kept : may_mend role ≡ false → without_stores r ≡ cond (may_mend role) r (without_stores r)
  stores_kept e = rw e refl

  pub no_stores_for : (role ≡ 3 → ⊥) → without_stores r ≡ cond (may_mend role) r (without_stores r)
  no_stores_for h = rw (ne_eqb role 3 h) refl

-- ---- roles that may call

opens_as : (role : ℕ) → 1 ≤ role → role ≤ 3 → (climate block area : List ℕ)
    → opened_by role climate block area ≡ cond (may_mend role) (sheet_opened climate block area) (without_stores (sheet_opened climate block area))
opens_as role low high climate block area = role_accepted (look_lines role) _ _ (may_look role low high)

pub same_for_roles : SameForRoles
same_for_roles = record {
  opens = opens_as 3 (omega arith) (omega arith);
  opens_looking = λ role low high climate block area. opens_as role low (omega arith) climate block area ∙ sym (no_stores_for role (sheet_opened climate block area) (λ e. omega arith));
  enters = λ role low high climate block area e. role_accepted (enter_lines role) _ _ (may_enter role low high);
  loses = λ role low high climate block area ky. role_accepted (look_lines role) _ _ (may_look role low high);
  plans = λ role low high climate block area out. role_accepted (look_lines role) _ _ (may_look role low high);
  probes = λ role low high climate block area shallow deep f. role_accepted (look_lines role) _ _ (may_look role low high);
  banks = λ role low high climate blocks limit lengths sheets areas depths answers. role_accepted (look_lines role) _ _ (may_look role low high);
  tables = λ role low high climate block out. role_accepted (look_lines role) _ _ (may_look role low high);
  writes_climate = λ role low high c out. role_accepted (look_lines role) _ _ (may_look role low high);
  writes_block = λ role low high vs out. role_accepted (look_lines role) _ _ (may_look role low high);
}

-- ---- the role's refusals come first

-- 20 and 21 are returned with 0.
pub look_number : (role number value : ℕ) → first_of Accepted (look_lines role) ≡ Refused number value → (number ≡ 20) × (value ≡ 0)
unfolding look_lines
look_number role = refusal_of (λ number value. (number ≡ 20) × (value ≡ 0)) (look_lines role) ((refl, refl), tt)

pub enter_number : (role number value : ℕ) → first_of Accepted (enter_lines role) ≡ Refused number value → (20 ≤ number) × (value ≡ 0)
unfolding look_lines enter_lines
enter_number role = refusal_of (λ number value. (20 ≤ number) × (value ≡ 0)) (enter_lines role) ((omega arith, refl), ((omega arith, refl), tt))

module _ {A : Type 0} (P : A → Type 0) (refuse : ℕ → ℕ → A) (reply : A) (role : ℕ) where
  -- What holds of the role's refusals and of the answer holds by the role.
  pub look_by : P (refuse 20 0) → P reply → P (by_role (look_lines role) refuse reply)
  look_by refused answered =
      by_role_lem (look_lines role) refuse reply P (λ number value e. let n = look_number role number value e in rw (n.0, n.1) refused) (λ e. answered)

  pub enter_by : ((number : ℕ) → 20 ≤ number → P (refuse number 0)) → P reply → P (by_role (enter_lines role) refuse reply)
  enter_by refused answered =
      by_role_lem (enter_lines role) refuse reply P (λ number value e. let n = enter_number role number value e in rw n.1 (refused number n.0)) (λ e. answered)

module _ {A : Type 0} (verdict_in : A → Verdict) (refuse : ℕ → ℕ → A) (no_answer : (number value : ℕ) → 1 ≤ number → verdict_in (refuse number value) ≡ Refused number value)
    (reply : A) (lines : List Line) (as-lines : verdict_in reply ≡ first_of Accepted lines) where
  role_verdict : (first : List Line) → ((number value : ℕ) → first_of Accepted first ≡ Refused number value → 1 ≤ number)
      → verdict_in (by_role first refuse reply) ≡ first_of Accepted (first ++ lines)
  role_verdict first numbered =
      by_role_lem first refuse reply (λ a. verdict_in a ≡ first_of Accepted (first ++ lines))
      (λ number value h. no_answer number value (numbered number value h)
      ∙ sym (first_append Accepted first lines ∙ ap (λ (v : Verdict). first_of v lines) h ∙ first_refused_lem number value lines))
      (λ h. as-lines ∙ sym (first_append Accepted first lines ∙ ap (λ (v : Verdict). first_of v lines) h))

  pub look_verdict : (role : ℕ) → verdict_in (by_role (look_lines role) refuse reply) ≡ first_of Accepted (look_lines role ++ lines)
  look_verdict role = role_verdict (look_lines role) (λ number value h. let n = (look_number role number value h).0 in omega arith)

  pub enter_verdict : (role : ℕ) → verdict_in (by_role (enter_lines role) refuse reply) ≡ first_of Accepted (enter_lines role ++ lines)
  enter_verdict role = role_verdict (enter_lines role) (λ number value h. let n = (enter_number role number value h).0 in omega arith)

-- ---- an opening with its stores, or without them

-- What holds of an answer with its stores and without holds of the opening that a role gets.
pub either_way : (P : Opened → Type 0) (r : Opened) (t : Bool) → P r → P (without_stores r) → P (cond t r (without_stores r))
either_way P r true with_stores without = with_stores
either_way P r false with_stores without = without

-- ---- role 1 leaves the area

module _ (area : List ℕ) (p : Press) (two : p.step.role ≡ 2 → ⊥) (three : p.step.role ≡ 3 → ⊥) where
  nothing_handed : (c : Call) → handed (calls p.climate p.block) area p.step.role c ≡ []
  unfolding handed
  nothing_handed (enters e) = enters_nothing p.step.role two three (sheet_recorded p.climate p.block area e)
  nothing_handed opens = opens_nothing p.step.role (ne_eqb p.step.role 3 three) (sheet_opened p.climate p.block area)

  stays : area_next (calls p.climate p.block) area p.step ≡ area
  unfolding area_next stored
  stays = rw (nothing_handed p.step.call, take-nil {A = Store} p.step.done)

pub role_1_keeps : (area : List ℕ) (ps : List Press) → OnlyLook ps → area_pressed area ps ≡ area
unfolding area_pressed
role_1_keeps area [] h = refl
role_1_keeps area (p ∷ ps) h = ap (λ (a : List ℕ). area_pressed a ps) (stays area p h.0.0 h.0.1) ∙ role_1_keeps area ps h.1
