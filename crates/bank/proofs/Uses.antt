-- The counts of valves used: with one plan more they are those of all plans given.
use Prim.Native.Nat.{ℕ, zero, suc, ◌+◌, ◌≤◌, ◌<◌}
use mathlib.Core.Path.{◌≡◌, refl, sym, ap, ◌∙◌}
use mathlib.Core.List.{List, [], ◌∷◌}
use native.Mathlib.Omega.{arith}
use native.Mathlib.Numerals.{add-one}
use lib.ListN.{length, get_or, take, set}
use lib.Seq.{set-get_or, take_all}
use Rattle.planner.specs.Choices.{irrigated, Outlook}
use Rattle.planner.specs.Bank.{watering, leaving}
use Rattle.bank.specs.Banks.{add_used}

-- A depth above 0 counts, and 0 does not.
pub counts_one : (x : ℕ) → 0 < x → irrigated (x ∷ []) ≡ 1
unfolding irrigated
counts_one zero h = absurd (omega arith)
counts_one (suc x) h = refl

pub counts_none : (x : ℕ) → x ≤ 0 → irrigated (x ∷ []) ≡ 0
unfolding irrigated
counts_none zero h = refl
counts_none (suc x) h = absurd (omega arith)

pub counts_few : (x : ℕ) → irrigated (x ∷ []) ≤ 1
unfolding irrigated
counts_few zero = omega arith
counts_few (suc x) = omega arith

pub added_none : (us : List ℕ) → add_used us [] ≡ us
unfolding add_used
added_none [] = refl
added_none (u ∷ us) = refl

pub added_length : (us xs : List ℕ) → length (add_used us xs) ≡ length us
unfolding add_used
added_length [] xs = refl
added_length (u ∷ us) [] = refl
added_length (u ∷ us) (x ∷ xs) = ap suc (added_length us xs)

-- One day more of a plan.
added_next : (us xs : List ℕ) (i : ℕ) → i < length us → i < length xs
    → add_used us (take (suc i) xs) ≡ set (add_used us (take i xs)) i (irrigated (get_or xs i 0 ∷ []) + get_or us i 0)
unfolding add_used
added_next [] xs i h l = absurd (omega arith)
added_next (u ∷ us) [] i h l = absurd (omega arith)
added_next (u ∷ us) (x ∷ xs) zero h l = ap (λ (ys : List ℕ). (irrigated (x ∷ []) + u) ∷ ys) (added_none us)
added_next (u ∷ us) (x ∷ xs) (suc i) h l = ap (λ (ys : List ℕ). (irrigated (x ∷ []) + u) ∷ ys) (added_next us xs i (omega arith) (omega arith))

-- Days not yet counted have their old count.
added_later : (us xs : List ℕ) (i : ℕ) → get_or (add_used us (take i xs)) i 0 ≡ get_or us i 0
unfolding add_used
added_later [] xs i = refl
added_later (u ∷ us) xs zero = refl
added_later (u ∷ us) [] (suc i) = refl
added_later (u ∷ us) (x ∷ xs) (suc i) = added_later us xs i

added_at : (us xs : List ℕ) (j : ℕ) → length xs ≤ length us → get_or (add_used us xs) j 0 ≡ irrigated (get_or xs j 0 ∷ []) + get_or us j 0
unfolding add_used irrigated
added_at [] [] j h = omega arith
added_at [] (x ∷ xs) j h = absurd (omega arith)
added_at (u ∷ us) [] j h = omega arith
added_at (u ∷ us) (x ∷ xs) zero h = refl
added_at (u ∷ us) (x ∷ xs) (suc j) h = added_at us xs j (omega arith)

-- The loop has come to day i.
pub record Adding (us xs now : List ℕ) (i : ℕ) : Type 0 where
  pub few : i ≤ length xs
  pub room : length xs ≤ length us
  pub is : now ≡ add_used us (take i xs)

pub adding_start : (us xs : List ℕ) → length xs ≤ length us → Adding us xs us 0
adding_start us xs h = record { few = omega arith; room = h; is = sym (added_none us) }

module _ {us xs now : List ℕ} {i : ℕ} (w : Adding us xs now i) where
  pub adding_length : length now ≡ length us
  adding_length = rw w.is (added_length us (take i xs))

  pub adding_old : get_or now i 0 ≡ get_or us i 0
  adding_old = rw w.is (added_later us xs i)

  adding_next : {next : List ℕ} {x : ℕ} → i < length xs → x ≡ irrigated (get_or xs i 0 ∷ []) + get_or us i 0 → next ≡ set now i x → Adding us xs next (i + 1)
  adding_next {next} h e s =
      record {
        few = omega arith;
        room = w.room;
        is = s ∙ rw (e, w.is, add-one i) (sym (added_next us xs i (omega (arith, w.room)) h));
      }

  pub adding_watered : {next : List ℕ} → i < length xs → 0 < get_or xs i 0 → next ≡ set now i (get_or now i 0 + 1) → Adding us xs next (i + 1)
  adding_watered h l s = adding_next h (rw (counts_one (get_or xs i 0) l) (omega (arith, adding_old))) s

  pub adding_dry : i < length xs → get_or xs i 0 ≤ 0 → Adding us xs now (i + 1)
  adding_dry h l = adding_next h (rw (counts_none (get_or xs i 0) l) (omega (arith, adding_old))) (sym (set-get_or now i 0))

  pub adding_valves : {next : List ℕ} {v : ℕ} → i < length xs → v ≡ irrigated (get_or xs i 0 ∷ []) → next ≡ set now i (get_or now i 0 + v) → Adding us xs next (i + 1)
  adding_valves h e s = adding_next h (omega (arith, e, adding_old)) s

  pub adding_end : length xs ≤ i → now ≡ add_used us xs
  adding_end h = w.is ∙ ap (add_used us) (take_all i xs h)

-- ---- the counts of the plans given

-- They are those of the plans.
abbrev pub Counting : List ℕ → List (List ℕ) → Type 0
Counting used ps = (j : ℕ) → get_or used j 0 ≡ watering ps j

pub counting_next : (used : List ℕ) (ps : List (List ℕ)) (xs : List ℕ) → length xs ≤ length used → Counting used ps → Counting (add_used used xs) (xs ∷ ps)
unfolding watering
counting_next used ps xs h c j = added_at used xs j h ∙ ap (λ n. irrigated (get_or xs j 0 ∷ []) + n) (c j)

-- Outlooks left by equal counts are equal.
pub leaving_same : (m : ℕ) {f g : ℕ → ℕ} (o : Outlook) → ((i : ℕ) → f i ≡ g i) → leaving m f o ≡ leaving m g o
leaving_same m {f} {g} o h = λ j. leaving m (λ i. h i j) o
