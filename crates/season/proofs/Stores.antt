-- Stores to a buffer: one run after another, and numbers stored one by one.
use Prim.Native.Nat.{ℕ, suc, ◌+◌, ◌≤◌, ◌<◌}
use mathlib.Core.Path.{◌≡◌, refl, sym, ap, ◌∙◌}
use mathlib.Core.List.{List, [], ◌∷◌, ◌++◌}
use native.Mathlib.Numerals.{add-one}
use native.Mathlib.Omega.{arith}
use lib.ListN.{length, take, drop, get_or, set, length-append}
use lib.Seq.{sets, sets-eq, length-sets, take-suc, take_all, length-take-le}

-- One run of stores after another.
pub sets_more : (l : List ℕ) (i : ℕ) (xs ys : List ℕ) → sets (sets l i xs) (i + length xs) ys ≡ sets l i (xs ++ ys)
sets_more l i [] ys = ap (λ (k : ℕ). sets l k ys) (omega arith)
sets_more l i (x ∷ xs) ys =
    let e : i + suc (length xs) ≡ suc i + length xs = omega arith in
    ap (λ (k : ℕ). sets (sets (set l i x) (suc i) xs) k ys) e ∙ sets_more (set l i x) (suc i) xs ys

-- A run of stores at a buffer's start, and another behind it.
pub run_behind : (x y l m k : List ℕ) (r q : ℕ) → r ≡ 0 + length x → m ≡ sets l 0 x → q ≡ r + length y → k ≡ sets m r y → (q ≡ length (x ++ y)) × (k ≡ sets l 0 (x ++ y))
run_behind x y l m k r q e f g h = (omega (arith, length-append x y), h ∙ rw (f, e) (sets_more l 0 x y))

-- What a run at the start leaves.
pub at_start : (x l : List ℕ) → length x ≤ length l → sets l 0 x ≡ x ++ drop (length x) l
at_start x l h =
    let e : 0 + length x ≡ length x = omega arith in
    sets-eq x l 0 (omega arith) ∙ ap (λ (k : ℕ). x ++ drop k l) e

-- One store after a run of stores.
pub sets_last : (l m : List ℕ) (i r : ℕ) (xs : List ℕ) (y : ℕ) → r ≡ i + length xs → m ≡ sets l i xs → set m r y ≡ sets l i (xs ++ (y ∷ []))
sets_last l m i r xs y e f = rw (e, f) (sets_more l i xs (y ∷ []))

-- The first i of some numbers are stored from a place on.
pub record Putting (numbers l₀ : List ℕ) (at i : ℕ) (l : List ℕ) : Type 0 where
  pub few : i ≤ length numbers
  pub room : at + length numbers ≤ length l₀
  pub stored : l ≡ sets l₀ at (take i numbers)

pub none_put : (numbers l : List ℕ) (at : ℕ) → at + length numbers ≤ length l → Putting numbers l at 0 l
none_put numbers l at h = record { few = omega arith; room = h; stored = refl }

module _ {numbers l₀ : List ℕ} {at i : ℕ} {l : List ℕ} (p : Putting numbers l₀ at i l) where
  pub putting_length : length l ≡ length l₀
  putting_length = rw p.stored (length-sets l₀ at (take i numbers))

  pub putting_place : i < length numbers → at + i < length l
  putting_place h = omega (arith, putting_length, p.room)

  pub putting_more : i < length numbers → Putting numbers l₀ at (i + 1) (set l (at + i) (get_or numbers i 0))
  putting_more h =
      record {
        few = omega arith;
        room = p.room;
        stored =
            rw (add-one, take-suc numbers i 0 h)
            (sets_last l₀ l at (at + i) (take i numbers) (get_or numbers i 0) (ap (λ (k : ℕ). at + k) (sym (length-take-le i numbers p.few))) p.stored);
      }

  pub putting_end : length numbers ≤ i → l ≡ sets l₀ at numbers
  putting_end h = p.stored ∙ ap (sets l₀ at) (take_all i numbers h)
