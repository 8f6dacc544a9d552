-- Runs of numbers, read one after another, whatever their count.
use Prim.Native.Nat.{ℕ, suc, ◌+◌, ◌-◌, ◌≤◌, ◌<◌}
use mathlib.Core.Path.{◌≡◌, refl, sym, ap, ◌∙◌}
use mathlib.Core.List.{List, [], ◌∷◌, ◌++◌}
use native.Mathlib.Numerals.{add-one}
use native.Mathlib.Omega.{arith}
use lib.ListN.{length, take, drop, set, length-set, length-drop}
use lib.Seq.{take-suc-set}
use Rattle.leb128.specs.Forms.{Whole, Short, Bad, decode}
use Rattle.leb128.proofs.Laws.{reach_le}
use Rattle.sheet.specs.Numbers.{Run, before, numbers}

pub numbers_whole : (k at : ℕ) (s : List ℕ) (v n : ℕ) → decode (drop at s) ≡ Whole v n → numbers (suc k) at s ≡ before v (numbers k (at + n) s)
unfolding numbers
numbers_whole k at s v n e = rw (e, numbers)

pub numbers_short : (k at : ℕ) (s : List ℕ) → decode (drop at s) ≡ Short → numbers (suc k) at s ≡ Run.stop 1 (length s)
unfolding numbers
numbers_short k at s e = rw (e, numbers)

pub numbers_bad : (k at : ℕ) (s : List ℕ) (p : ℕ) → decode (drop at s) ≡ Bad p → numbers (suc k) at s ≡ Run.stop 2 (at + p)
unfolding numbers
numbers_bad k at s p e = rw (e, numbers)

-- the values vs before a run
unfoldable pub prepend : List ℕ → Run → Run
prepend [] r = r
prepend (v ∷ vs) r = before v (prepend vs r)

prepend_last : (vs : List ℕ) (v : ℕ) (r : Run) → prepend (vs ++ v ∷ []) r ≡ prepend vs (before v r)
unfolding prepend
prepend_last [] v r = refl
prepend_last (w ∷ vs) v r = ap (before w) (prepend_last vs v r)

prepend_stop : (vs : List ℕ) (number place : ℕ) → prepend vs (Run.stop number place) ≡ Run.stop number place
unfolding prepend before
prepend_stop [] number place = refl
prepend_stop (w ∷ vs) number place = ap (before w) (prepend_stop vs number place)

prepend_run : (vs : List ℕ) (at : ℕ) → prepend vs (Run.run [] at) ≡ Run.run vs at
unfolding prepend before
prepend_run [] at = refl
prepend_run (w ∷ vs) at = ap (before w) (prepend_run vs at)

-- k numbers are read into a buffer of so many, which end before place at: however many are wanted, the others are those from there on.
pub record SoFar (s : List ℕ) (count : ℕ) (fields : List ℕ) (at k : ℕ) : Type 0 where
  pub within : at ≤ length s
  pub few : k ≤ count
  pub whole : length fields ≡ count
  pub rest : (j : ℕ) → numbers (k + j) 0 s ≡ prepend (take k fields) (numbers j at s)

pub start : (s fields : List ℕ) → SoFar s (length fields) fields 0 0
unfolding prepend
start s fields =
    record { within = omega arith; few = omega arith; whole = refl; rest = λ j. let e : 0 + j ≡ j = omega arith in ap (λ (n : ℕ). numbers n 0 s) e }

pub reach_whole : (at : ℕ) (s : List ℕ) (v n : ℕ) → decode (drop at s) ≡ Whole v n → at ≤ length s → at + n ≤ length s
reach_whole at s v n e h =
    let r : n ≤ length (drop at s) = rw e at (reach_le (drop at s)) in
    omega (arith, length-drop at s)

pub reach_bad : (at : ℕ) (s : List ℕ) (p : ℕ) → decode (drop at s) ≡ Bad p → at ≤ length s → at + p < length s
reach_bad at s p e h =
    let r : p + 1 ≤ length (drop at s) = rw e at (reach_le (drop at s)) in
    omega (arith, length-drop at s)

module _ {s : List ℕ} {count : ℕ} {fields : List ℕ} {at k : ℕ} (h : SoFar s count fields at k) where
  pub at_whole : k < count → (v n : ℕ) → decode (drop at s) ≡ Whole v n → SoFar s count (set fields k v) (at + n) (k + 1)
  at_whole l v n e =
      record {
        within = reach_whole at s v n e h.within;
        few = omega arith;
        whole = length-set fields k v ∙ h.whole;
        rest = λ j.
            let one : k + 1 + j ≡ k + suc j = omega arith in
            ap (λ (m : ℕ). numbers m 0 s) one ∙ h.rest (suc j) ∙ ap (prepend (take k fields)) (numbers_whole j at s v n e)
            ∙ sym (prepend_last (take k fields) v (numbers j (at + n) s))
            ∙ ap (λ (vs : List ℕ). prepend vs (numbers j (at + n) s)) (sym (take-suc-set fields k v (omega (arith, h.whole))) ∙ ap (λ (m : ℕ). take m (set fields k v)) (sym (add-one k)));
      }

  stopped : (n number place : ℕ) → k < n → ((j : ℕ) → numbers (suc j) at s ≡ Run.stop number place) → numbers n 0 s ≡ Run.stop number place
  stopped n number place l e =
      let j = n - (k + 1) in
      let is : n ≡ k + suc j = omega arith in
      ap (λ (m : ℕ). numbers m 0 s) is ∙ h.rest (suc j) ∙ ap (prepend (take k fields)) (e j) ∙ prepend_stop (take k fields) number place

  pub at_short : (n : ℕ) → k < n → decode (drop at s) ≡ Short → numbers n 0 s ≡ Run.stop 1 (length s)
  at_short n l e = stopped n 1 (length s) l (λ j. numbers_short j at s e)

  pub at_bad : (n : ℕ) → k < n → (p : ℕ) → decode (drop at s) ≡ Bad p → numbers n 0 s ≡ Run.stop 2 (at + p)
  at_bad n l p e = stopped n 2 (at + p) l (λ j. numbers_bad j at s p e)

  -- The numbers so far.
  pub so_far : numbers k 0 s ≡ Run.run (take k fields) at
  unfolding numbers
  so_far =
      let none : k ≡ k + 0 = omega arith in
      ap (λ (m : ℕ). numbers m 0 s) none ∙ h.rest 0 ∙ prepend_run (take k fields) at
