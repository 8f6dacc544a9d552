-- A run of numbers, whatever their count: what it reads is written there, what is written is read, and a run's bytes are few.
use Prim.Native.Nat.{ℕ, zero, suc, ◌+◌, ◌*◌, ◌^◌, ◌≤◌, ◌<◌}
use mathlib.Core.Path.{◌≡◌, refl, sym, ap, ◌∙◌}
use mathlib.Core.List.{List, [], ◌∷◌, ◌++◌, append_assoc}
use native.Mathlib.Omega.{arith}
use lib.ListN.{length, drop, get_or, length-drop, length-append, take-append-drop}
use lib.Seq.{drop_at, drop-drop, drop-append-le, get_or-drop}
use Rattle.leb128.specs.Forms.{Number, Whole, Short, Bad, decode}
use Rattle.leb128.specs.Groups.{group_count, encode}
use Rattle.leb128.specs.Claims.{Bytes}
use Rattle.leb128.proofs.Laws.{canonical, decode-encode, encode-length, count_pos, decode_more, few_bytes, short_few, reach_few}
use Rattle.sheet.specs.Numbers.{Run, before, numbers, written}
use Rattle.sheet.proofs.Runs.{numbers_whole, numbers_short, numbers_bad}

-- ---- what is read is written there

-- What a run of k numbers from place at on is: k values that stand there as they are written.
abbrev pub Reads : ℕ → ℕ → List ℕ → Run → Type 0
Reads k at s (Run.run vs end) = (length vs ≡ k) × (Bytes s → drop at s ≡ written vs ++ drop end s)
Reads k at s (Run.stop number place) = Unit

reads_before : (k at v n : ℕ) (s : List ℕ) → (Bytes s → drop at s ≡ encode v ++ drop (at + n) s) → (r : Run) → Reads k (at + n) s r → Reads (suc k) at s (before v r)
unfolding before written
reads_before k at v n s e (Run.run vs end) h =
    (ap suc h.0, λ b. e b ∙ ap (λ (t : List ℕ). encode v ++ t) (h.1 b) ∙ sym (append_assoc (encode v) (written vs) (drop end s)))
reads_before k at v n s e (Run.stop number place) h = tt

own : (at : ℕ) (s : List ℕ) (v n : ℕ) → decode (drop at s) ≡ Whole v n → Bytes s → drop at s ≡ encode v ++ drop (at + n) s
own at s v n e b =
    let c = canonical (drop at s) v n (λ j. rw (get_or-drop at s j 0) (b (at + j))) e in
    sym (take-append-drop n (drop at s)) ∙ ap (λ (t : List ℕ). t ++ drop n (drop at s)) c.1
    ∙ ap (λ (t : List ℕ). encode v ++ t) (drop-drop n at s)

reads_by : (k at : ℕ) (s : List ℕ) → ((n : ℕ) → Reads k (at + n) s (numbers k (at + n) s)) → (d : Number) → decode (drop at s) ≡ d → Reads (suc k) at s (numbers (suc k) at s)
reads_by k at s ih (Whole v n) e = rw (numbers_whole k at s v n e) (reads_before k at v n s (own at s v n e) (numbers k (at + n) s) (ih n))
reads_by k at s ih Short e = rw (numbers_short k at s e) tt
reads_by k at s ih (Bad p) e = rw (numbers_bad k at s p e) tt

pub reads : (k at : ℕ) (s : List ℕ) → Reads k at s (numbers k at s)
unfolding numbers written
reads zero at s = (refl, λ b. refl)
reads (suc k) at s = reads_by k at s (λ n. reads k (at + n) s) (decode (drop at s)) refl

-- ---- what is written is read

-- Each number is small enough for three groups.
abbrev pub Small : List ℕ → Type 0
Small vs = (k : ℕ) → get_or vs k 0 < 2 ^ 21

pub numbers_written : (vs front back : List ℕ) → Small vs
    → numbers (length vs) (length front) (front ++ (written vs ++ back)) ≡ Run.run vs (length front + length (written vs))
unfolding numbers written before
numbers_written [] front back h = ap (Run.run []) (omega arith)
numbers_written (v ∷ vs) front back h =
    let s = front ++ ((encode v ++ written vs) ++ back) in
    let tail = written vs ++ back in
    let moved : s ≡ (front ++ encode v) ++ tail = simp append_assoc in
    let long : length (front ++ encode v) ≡ length front + group_count v = length-append front (encode v) ∙ ap (λ (n : ℕ). length front + n) (encode-length v) in
    let found : decode (drop (length front) s) ≡ Whole v (group_count v) =
    ap decode (drop_at front _ (length front) refl ∙ append_assoc (encode v) (written vs) back) ∙ decode-encode v tail (h 0) in
    numbers_whole (length vs) (length front) s v (group_count v) found
    ∙ ap (before v)
    (ap (λ (n : ℕ). numbers (length vs) n s) (sym long) ∙ ap (numbers (length vs) (length (front ++ encode v))) moved
    ∙ numbers_written vs (front ++ encode v) back (λ k. h (suc k)))
    ∙ ap (Run.run (v ∷ vs)) (omega (arith, length-append (encode v) (written vs), length-append front (encode v)))

pub length_written : (v : ℕ) (vs : List ℕ) → length (written (v ∷ vs)) ≡ group_count v + length (written vs)
unfolding written
length_written v vs = length-append (encode v) (written vs) ∙ ap (λ (n : ℕ). n + length (written vs)) (encode-length v)

pub written_at_least : (vs : List ℕ) → length vs ≤ length (written vs)
written_at_least [] = omega arith
written_at_least (v ∷ vs) = omega (arith, length_written v vs, count_pos v, written_at_least vs)

-- ---- its bytes

-- A run of numbers within bytes t, with more bytes y behind them.
module _ (t y : List ℕ) where
  here : (at : ℕ) → at + 3 ≤ length t → decode (drop at (t ++ y)) ≡ decode (drop at t)
  here at h = ap decode (drop-append-le at t y (omega arith)) ∙ decode_more (drop at t) y (omega (arith, length-drop at t))

  start_by : (count at : ℕ) → at + 3 * suc count ≤ length t
      → ((n : ℕ) → n ≤ 3 → numbers count (at + n) (t ++ y) ≡ numbers count (at + n) t)
      → (d : Number) → decode (drop at t) ≡ d → numbers (suc count) at (t ++ y) ≡ numbers (suc count) at t
  start_by count at h ih (Whole v n) e =
      numbers_whole count at (t ++ y) v n (here at (omega arith) ∙ e) ∙ ap (before v) (ih n (few_bytes (drop at t) v n e)) ∙ sym (numbers_whole count at t v n e)
  start_by count at h ih Short e = absurd (omega (arith, length-drop at t, short_few (drop at t) e))
  start_by count at h ih (Bad p) e = numbers_bad count at (t ++ y) p (here at (omega arith) ∙ e) ∙ sym (numbers_bad count at t p e)

  pub numbers_start : (count at : ℕ) → at + 3 * count ≤ length t → numbers count at (t ++ y) ≡ numbers count at t
  unfolding numbers
  numbers_start zero at h = refl
  numbers_start (suc count) at h = start_by count at h (λ n l. numbers_start count (at + n) (omega arith)) (decode (drop at t)) refl

-- A run of numbers takes three bytes a number at most, and what is refused stands in the bytes of the number at fault.
abbrev pub Ends : ℕ → Run → Type 0
Ends most (Run.run vs end) = end ≤ most
Ends most (Run.stop number place) = ((1 ≤ number) × (number ≤ 2)) × (place ≤ most)

ends_before : (most v : ℕ) (r : Run) → Ends most r → Ends most (before v r)
unfolding before
ends_before most v (Run.run vs end) h = h
ends_before most v (Run.stop number place) h = h

ends_by : (count at most : ℕ) (s : List ℕ) → at + 3 ≤ most → ((n : ℕ) → n ≤ 3 → Ends most (numbers count (at + n) s)) → (d : Number) → decode (drop at s) ≡ d
    → Ends most (numbers (suc count) at s)
ends_by count at most s h ih (Whole v n) e = rw (numbers_whole count at s v n e) (ends_before most v _ (ih n (few_bytes (drop at s) v n e)))
ends_by count at most s h ih Short e = rw (numbers_short count at s e) ((omega arith, omega arith), omega (arith, length-drop at s, short_few (drop at s) e))
ends_by count at most s h ih (Bad p) e = rw (numbers_bad count at s p e) ((omega arith, omega arith), omega (arith, rw e at (reach_few (drop at s))))

pub numbers_end : (count at most : ℕ) (s : List ℕ) → at + 3 * count ≤ most → Ends most (numbers count at s)
unfolding numbers
numbers_end zero at most s h = omega arith
numbers_end (suc count) at most s h = ends_by count at most s (omega arith) (λ n l. numbers_end count (at + n) most s (omega arith)) (decode (drop at s)) refl
