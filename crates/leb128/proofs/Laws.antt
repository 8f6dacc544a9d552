-- The laws of numbers in groups. Each goes by induction over the groups of a number, or over a list of bytes, and so holds at every count of groups.
--
use Prim.Native.Nat.{ℕ, zero, suc, ◌+◌, ◌*◌, ◌-◌, ◌/◌, ◌%◌, ◌^◌, ◌≤◌, ◌<◌}
use mathlib.Core.Path.{◌≡◌, refl, sym, ap, ap₂, ◌∙◌}
use mathlib.Core.Bool.{and-false}
use mathlib.Core.List.{List, [], ◌∷◌, ◌++◌}
use mathlib.Core.Logic.{◌⊎◌, inl, inr, ⊎_elim}
use native.Mathlib.Nat.{le-div_iff_mul-le, div-lt_iff_lt-mul, one-le-pow, pow-suc}
use native.Mathlib.Numerals.{add-one}
use native.Mathlib.Omega.{arith}
use borrow.Author.Tests.{lt-ltb, le-ltb, eq-eqb, ne_eqb}
use lib.Dec.{eqb, lit<}
use lib.ListN.{length, take, drop, get_or, length-take, length-drop}
use lib.Seq.{get_or-drop, take-append-le}
use lib.Pow.{pow_mono, pow-add, shr_lt}
use lib.Count.{count_leading_zeros, leading_top}
use Rattle.leb128.specs.Forms.{Number, Whole, Short, Bad, below, decode_from, decode}
use Rattle.leb128.specs.Groups.{group_count, encode}
use Rattle.leb128.specs.Claims.{Bytes}
use Rattle.leb128.proofs.Steps.{lt_or_le, group_ind, count_last, count_more, encode_last, encode_more}

-- ---- counts

pub count_pos : (n : ℕ) → 0 < group_count n
count_pos = group_ind (λ (n : ℕ). 0 < group_count n) (λ n l. omega (arith, count_last n l)) (λ n m ih. omega (arith, count_more n m))

pub encode-length : (n : ℕ) → length (encode n) ≡ group_count n
encode-length =
    group_ind (λ (n : ℕ). length (encode n) ≡ group_count n)
    (λ n l. rw (encode_last n l, count_last n l))
    (λ n m ih. rw (encode_more n m, count_more n m, ← ih) (sym (add-one _)))

-- a number takes at most suc k groups just where it is below 128 ^ suc k
pub count_le : (n k : ℕ) → n < 128 ^ suc k → group_count n ≤ suc k
count_le =
    group_ind (λ (n : ℕ). (k : ℕ) → n < 128 ^ suc k → group_count n ≤ suc k)
    (λ n l k h. omega (arith, count_last n l))
    (λ n m ih. elim [
      | zero ↦ λ h. omega arith
      | suc k ↦ λ h. omega (arith, count_more n m, ih k ((div-lt_iff_lt-mul (lit< tt)).1 (rw pow-suc at h)))
    ])

pub count_lt : (n k : ℕ) → group_count n ≤ k → n < 128 ^ k
count_lt =
    group_ind (λ (n : ℕ). (k : ℕ) → group_count n ≤ k → n < 128 ^ k)
    (λ n l. elim [
      | zero ↦ λ h. absurd (omega (arith, count_pos n))
      | suc k ↦ λ h. rw pow-suc (omega (arith, one-le-pow k 128 (lit< tt)))
    ])
    (λ n m ih. elim [
      | zero ↦ λ h. absurd (omega (arith, count_pos n))
      | suc k ↦ λ h. rw pow-suc ((div-lt_iff_lt-mul (lit< tt)).0 (ih k (omega (arith, count_more n m))))
    ])

-- ---- reading, a byte at a time

-- either i is 0 or b is not, or neither
zero_after : (i b : ℕ) → ((i ≡ 0) ⊎ (0 < b)) ⊎ ((0 < i) × (b ≡ 0))
zero_after zero b = inl (inl refl)
zero_after (suc i) zero = inr (omega arith, refl)
zero_after (suc i) (suc b) = inl (inr (omega arith))

pub from_end : (i b : ℕ) (bs : List ℕ) → b < 128 → (i ≡ 0) ⊎ (0 < b) → decode_from i (b ∷ bs) ≡ Whole b (i + 1)
unfolding decode_from
from_end i b bs l (inl z) = rw (lt-ltb b 128 l, le-ltb 0 i (omega arith), and-false (eqb b 0), decode_from)
from_end i b bs l (inr p) = rw (lt-ltb b 128 l, ne_eqb b 0 (λ z. omega arith), decode_from)

pub from_zero : (i b : ℕ) (bs : List ℕ) → 0 < i → b ≡ 0 → decode_from i (b ∷ bs) ≡ Bad i
unfolding decode_from
from_zero i b bs p z = rw (lt-ltb b 128 (omega arith), eq-eqb b 0 z, lt-ltb 0 i p, decode_from)

pub from_on : (i b : ℕ) (bs : List ℕ) → 128 ≤ b → i < 2 → decode_from i (b ∷ bs) ≡ below (b - 128) (decode_from (i + 1) bs)
unfolding decode_from
from_on i b bs m p = rw (le-ltb b 128 m, lt-ltb i 2 p, decode_from)

pub from_past : (i b : ℕ) (bs : List ℕ) → 128 ≤ b → 2 ≤ i → decode_from i (b ∷ bs) ≡ Bad i
unfolding decode_from
from_past i b bs m p = rw (le-ltb b 128 m, le-ltb i 2 p, decode_from)

-- ---- the first byte

pub decode_none : (s : List ℕ) → length s ≡ 0 → decode s ≡ Short
unfolding decode decode_from
decode_none [] h = refl
decode_none (b ∷ bs) h = absurd (omega arith)

pub decode_one : (s : List ℕ) → (length s ≡ 0 → ⊥) → get_or s 0 0 < 128 → decode s ≡ Whole (get_or s 0 0) 1
unfolding decode
decode_one [] n h = absurd (n refl)
decode_one (b ∷ bs) n h = from_end 0 b bs h (inl refl)

-- ---- reading stays within the bytes

-- how many bytes an answer speaks of
abbrev pub reach : Number → ℕ
reach (Whole v k) = k
reach Short = 0
reach (Bad p) = p + 1

reach_below : (low : ℕ) (d : Number) → reach (below low d) ≡ reach d
unfolding below
reach_below low (Whole v k) = refl
reach_below low Short = refl
reach_below low (Bad p) = refl

reach_from : (bytes : List ℕ) (i : ℕ) → reach (decode_from i bytes) ≤ i + length bytes
unfolding decode_from
reach_from [] i = omega arith
reach_from (b ∷ bs) i =
    elim (lt_or_le b 128) [
      | inl l ↦ elim (zero_after i b) [
        | inl z ↦ rw (from_end i b bs l z) (omega arith)
        | inr z ↦ rw (from_zero i b bs z.0 z.1) (omega arith)
      ]
      | inr m ↦ elim (lt_or_le i 2) [
        | inl p ↦ rw (from_on i b bs m p, reach_below) (omega (arith, reach_from bs (i + 1)))
        | inr p ↦ rw (from_past i b bs m p) (omega arith)
      ]
    ]

pub reach_le : (bytes : List ℕ) → reach (decode bytes) ≤ length bytes
unfolding decode
reach_le bytes = omega (arith, reach_from bytes 0)

-- ---- what is written is read back

first_or : (i n : ℕ) → (0 < i → 0 < n) → (i ≡ 0) ⊎ (0 < n)
first_or zero n z = inl refl
first_or (suc i) n z = inr (z (omega arith))

read_back : (n i : ℕ) (rest : List ℕ) → i + group_count n ≤ 3 → (0 < i → 0 < n) → decode_from i (encode n ++ rest) ≡ Whole n (i + group_count n)
unfolding below
read_back =
    group_ind (λ (n : ℕ). (i : ℕ) (rest : List ℕ) → i + group_count n ≤ 3 → (0 < i → 0 < n) → decode_from i (encode n ++ rest) ≡ Whole n (i + group_count n))
    (λ n l i rest f z. rw (encode_last n l, count_last n l) (from_end i n rest l (first_or i n z)))
    (λ n m ih i rest f z.
    let c : group_count n ≡ group_count (n / 128) + 1 = count_more n m in
    let p : 0 < group_count (n / 128) = count_pos (n / 128) in
    rw (encode_more n m, c)
    (from_on i (128 + n % 128) (encode (n / 128) ++ rest) (omega arith) (omega arith)
    ∙ ap (below (128 + n % 128 - 128)) (ih (i + 1) rest (omega arith) (λ q. omega arith))
    ∙ ap₂ Whole (omega arith) (omega arith)))

-- decode after encode
pub decode-encode : (n : ℕ) (rest : List ℕ) → n < 2 ^ 21 → decode (encode n ++ rest) ≡ Whole n (group_count n)
unfolding decode
decode-encode n rest h = rw (read_back n 0 rest (omega (arith, count_le n 2 h)) (λ q. omega arith)) (ap (Whole n) (omega arith))

-- a proper part of a number's bytes, from their start, is no whole number
cut_short : (n i k : ℕ) → i + group_count n ≤ 3 → k < group_count n → decode_from i (take k (encode n)) ≡ Short
unfolding below decode_from
cut_short =
    group_ind (λ (n : ℕ). (i k : ℕ) → i + group_count n ≤ 3 → k < group_count n → decode_from i (take k (encode n)) ≡ Short)
    (λ n l i. elim [ zero ↦ λ f h. refl | suc k ↦ λ f h. absurd (omega (arith, count_last n l)) ])
    (λ n m ih i. elim [
      | zero ↦ λ f h. refl
      | suc k ↦ λ f h.
          let c : group_count n ≡ group_count (n / 128) + 1 = count_more n m in
          rw (encode_more n m)
          (from_on i (128 + n % 128) (take k (encode (n / 128))) (omega arith) (omega arith)
          ∙ ap (below (128 + n % 128 - 128)) (ih (i + 1) k (omega arith) (omega arith)))
    ])

pub decode_prefix : (n k : ℕ) → n < 2 ^ 21 → k < group_count n → decode (take k (encode n)) ≡ Short
unfolding decode
decode_prefix n k h q = cut_short n 0 k (omega (arith, count_le n 2 h)) q

-- ---- the form of the bytes: 128 or more but for the last

pub encode_on : (n k : ℕ) → k + 1 < group_count n → 128 ≤ get_or (encode n) k 0
encode_on =
    group_ind (λ (n : ℕ). (k : ℕ) → k + 1 < group_count n → 128 ≤ get_or (encode n) k 0)
    (λ n l k h. absurd (omega (arith, count_last n l)))
    (λ n m ih. elim [
      | zero ↦ λ h. rw (encode_more n m) (omega arith)
      | suc k ↦ λ h. rw (encode_more n m) (ih k (omega (arith, count_more n m)))
    ])

pub encode_end : (n k : ℕ) → k + 1 ≡ group_count n → get_or (encode n) k 0 < 128
encode_end =
    group_ind (λ (n : ℕ). (k : ℕ) → k + 1 ≡ group_count n → get_or (encode n) k 0 < 128)
    (λ n l. elim [ zero ↦ λ h. rw (encode_last n l) l | suc k ↦ λ h. absurd (omega (arith, count_last n l)) ])
    (λ n m ih. elim [
      | zero ↦ λ h. absurd (omega (arith, count_more n m, count_pos (n / 128)))
      | suc k ↦ λ h. rw (encode_more n m) (ih k (omega (arith, count_more n m)))
    ])

-- ---- a number is read only from its own bytes

-- what is known where the bytes from place i on gave v, which ends before place k
abbrev Own : List ℕ → ℕ → ℕ → ℕ → Type 0
Own bytes i v k = (k ≡ i + group_count v) × (take (group_count v) bytes ≡ encode v) × (0 < i → 0 < v) × (k ≤ 3)

bad_whole : (p v k : ℕ) → Bad p ≡ Whole v k → ⊥
bad_whole p v k e = let z : ◌≡◌ {A = ℕ} 0 1 = cc in omega arith

short_whole : (v k : ℕ) → Short ≡ Whole v k → ⊥
short_whole v k e = let z : ◌≡◌ {A = ℕ} 0 1 = cc in omega arith

own_end : (b : ℕ) (bs : List ℕ) (i v k : ℕ) → i ≤ 2 → b < 128 → (i ≡ 0) ⊎ (0 < b) → Whole b (i + 1) ≡ Whole v k → Own (b ∷ bs) i v k
own_end b bs i v k f l z e =
    let ev : b ≡ v = cc in
    let ek : i + 1 ≡ k = cc in
    rw (← ev, count_last b l, encode_last b l) (sym ek, refl, λ q. ⊎_elim (λ y. omega arith) (λ y. y) z, omega arith)

-- b before the bytes of w, which is not 0
own_on : (b : ℕ) (bs : List ℕ) (i w k : ℕ) → 128 ≤ b → b < 256 → Own bs (i + 1) w k → Own (b ∷ bs) i (b - 128 + 128 * w) k
own_on b bs i w k m u o =
    let v = b - 128 + 128 * w in
    let p : 0 < w = o.2 (omega arith) in
    let big : 128 ≤ v = omega arith in
    let high : v / 128 ≡ w = omega arith in
    let low : 128 + v % 128 ≡ b = omega arith in
    rw (count_more v big, encode_more v big, high, low, add-one) (omega arith, ap (λ (l : List ℕ). b ∷ l) o.1, λ q. omega arith, o.3)

own_below : (b : ℕ) (bs : List ℕ) (i v k : ℕ) → 128 ≤ b → b < 256 → ((w j : ℕ) → decode_from (i + 1) bs ≡ Whole w j → Own bs (i + 1) w j)
    → (d : Number) → decode_from (i + 1) bs ≡ d → below (b - 128) d ≡ Whole v k → Own (b ∷ bs) i v k
unfolding below
own_below b bs i v k m u ih (Whole w j) q e =
    let ev : b - 128 + 128 * w ≡ v = cc in
    let ek : j ≡ k = cc in
    rw (← ev, ← ek) (own_on b bs i w j m u (ih w j q))
own_below b bs i v k m u ih Short q e = absurd (short_whole v k e)
own_below b bs i v k m u ih (Bad p) q e = absurd (bad_whole p v k e)

canonical_from : (bytes : List ℕ) (i v k : ℕ) → i ≤ 2 → Bytes bytes → decode_from i bytes ≡ Whole v k → Own bytes i v k
unfolding decode_from
canonical_from [] i v k f h e = absurd (short_whole v k e)
canonical_from (b ∷ bs) i v k f h e =
    elim (lt_or_le b 128) [
      | inl l ↦ elim (zero_after i b) [
        | inl z ↦ own_end b bs i v k f l z (sym (from_end i b bs l z) ∙ e)
        | inr z ↦ absurd (bad_whole i v k (sym (from_zero i b bs z.0 z.1) ∙ e))
      ]
      | inr m ↦ elim (lt_or_le i 2) [
        | inl p ↦
            own_below b bs i v k m (h 0) (λ w j. canonical_from bs (i + 1) w j (omega arith) (λ q. h (suc q))) (decode_from (i + 1) bs) refl
            (sym (from_on i b bs m p) ∙ e)
        | inr p ↦ absurd (bad_whole i v k (sym (from_past i b bs m p) ∙ e))
      ]
    ]

-- a number that is read stands there as it is written
pub canonical : (bytes : List ℕ) (v k : ℕ) → Bytes bytes → decode bytes ≡ Whole v k → (k ≡ group_count v) × (take k bytes ≡ encode v)
unfolding decode
canonical bytes v k h e =
    let o = canonical_from bytes 0 v k (omega arith) h e in
    let c : k ≡ group_count v = omega arith in
    (c, rw c o.1)

-- so it is below 2 ^ 21
pub decode_small : (bytes : List ℕ) (v k : ℕ) → Bytes bytes → decode bytes ≡ Whole v k → v < 2 ^ 21
unfolding decode
decode_small bytes v k h e =
    let o = canonical_from bytes 0 v k (omega arith) h e in
    count_lt v 3 (omega arith)

-- ---- three bytes are enough

-- the first three say all, at the start and at a place
pub decode_three : (xs : List ℕ) → 2 < length xs → decode (get_or xs 0 0 ∷ get_or xs 1 0 ∷ get_or xs 2 0 ∷ []) ≡ decode xs
unfolding decode decode_from below
decode_three [] h = absurd (omega arith)
decode_three (a ∷ []) h = absurd (omega arith)
decode_three (a ∷ b ∷ []) h = absurd (omega arith)
decode_three (a ∷ b ∷ c ∷ xs) h = refl

pub decode_three_at : (at : ℕ) (xs : List ℕ) → at + 2 < length xs
    → decode (get_or xs at 0 ∷ get_or xs (at + 1) 0 ∷ get_or xs (at + 2) 0 ∷ []) ≡ decode (drop at xs)
decode_three_at at xs h =
    let z : at + 0 ≡ at = omega arith in
    rw (get_or-drop at xs 0 0, get_or-drop at xs 1 0, get_or-drop at xs 2 0, z) at (decode_three (drop at xs) (omega (arith, length-drop at xs)))

pub decode_first : (xs : List ℕ) → decode (take 3 xs) ≡ decode xs
unfolding decode decode_from below
decode_first [] = refl
decode_first (a ∷ []) = refl
decode_first (a ∷ b ∷ []) = refl
decode_first (a ∷ b ∷ c ∷ xs) = refl

-- what follows three bytes does not matter
pub decode_more : (xs ys : List ℕ) → 3 ≤ length xs → decode (xs ++ ys) ≡ decode xs
decode_more xs ys h = sym (decode_first (xs ++ ys)) ∙ ap decode (take-append-le 3 xs ys h) ∙ decode_first xs

-- what is read or refused lies in the first three
pub reach_few : (xs : List ℕ) → reach (decode xs) ≤ 3
reach_few xs = omega (arith, rw (decode_first xs) at (reach_le (take 3 xs)), length-take 3 xs)

pub few_bytes : (xs : List ℕ) (v k : ℕ) → decode xs ≡ Whole v k → k ≤ 3
few_bytes xs v k e = rw e at (reach_few xs)

bad_short : (p : ℕ) → Bad p ≡ Short → ⊥
bad_short p e = let z : ◌≡◌ {A = ℕ} 0 1 = cc in omega arith

below_short : (low : ℕ) (d : Number) → below low d ≡ Short → d ≡ Short
unfolding below
below_short low (Whole v k) e = absurd (short_whole _ k (sym e))
below_short low Short e = refl
below_short low (Bad p) e = absurd (bad_short p e)

short_from : (bytes : List ℕ) (i : ℕ) → i ≤ 2 → decode_from i bytes ≡ Short → i + length bytes ≤ 2
unfolding decode_from
short_from [] i f e = omega arith
short_from (b ∷ bs) i f e =
    elim (lt_or_le b 128) [
      | inl l ↦ elim (zero_after i b) [
        | inl z ↦ absurd (short_whole b (i + 1) (sym e ∙ from_end i b bs l z))
        | inr z ↦ absurd (bad_short i (sym (from_zero i b bs z.0 z.1) ∙ e))
      ]
      | inr m ↦ elim (lt_or_le i 2) [
        | inl p ↦ omega (arith, short_from bs (i + 1) (omega arith) (below_short (b - 128) _ (sym (from_on i b bs m p) ∙ e)))
        | inr p ↦ absurd (bad_short i (sym (from_past i b bs m p) ∙ e))
      ]
    ]

-- only fewer than three bytes end too soon
pub short_few : (bytes : List ℕ) → decode bytes ≡ Short → length bytes ≤ 2
unfolding decode
short_few bytes e = omega (arith, short_from bytes 0 (omega arith) e)

-- ---- the count from the leading zeros

-- the place j of the highest one bit says how many groups there are
count_top : (n j : ℕ) → 2 ^ j ≤ n → n < 2 ^ suc j → group_count n ≡ j / 7 + 1
count_top =
    group_ind (λ (n : ℕ). (j : ℕ) → 2 ^ j ≤ n → n < 2 ^ suc j → group_count n ≡ j / 7 + 1)
    (λ n l j p q. elim (lt_or_le j 7) [
      | inl h ↦ omega (arith, count_last n l)
      | inr h ↦ omega (arith, pow_mono h)
    ])
    (λ n m ih j p q. elim (lt_or_le j 7) [
      | inl h ↦ omega (arith, pow_mono h)
      | inr h ↦
          let i = j - 7 in
          let e : j ≡ i + 7 = omega arith in
          let lower : 2 ^ i ≤ n / 128 = (le-div_iff_mul-le (lit< tt)).1 (rw (e, pow-add 2 i 7) at p) in
          let e' : suc j ≡ suc i + 7 = omega arith in
          let upper : n / 128 < 2 ^ suc i = shr_lt (suc i) 7 (rw e' at q) in
          omega (arith, count_more n m, ih i lower upper)
    ])

pub count_leading : (w n : ℕ) → 0 < n → n < 2 ^ w → group_count n ≡ (w + 6 - count_leading_zeros w n) / 7
count_leading w n p h =
    let t = leading_top w n p h in
    omega (arith, count_top n t.0 t.2 t.3)
