-- Joining groups: what the groups read so far and the bytes that follow make together, and what a mask, a shift and an `|` make of a byte.
--
use Prim.Native.Nat.{ℕ, zero, suc, ◌+◌, ◌*◌, ◌-◌, ◌%◌, ◌^◌, ◌≤◌, ◌<◌}
use mathlib.Core.Path.{◌≡◌, refl, sym, ap, ◌∙◌}
use mathlib.Core.List.{List, ◌∷◌}
use mathlib.Core.Bool.{Bool, true, false, ◌&&◌, true≢false, and-eq-true_iff}
use mathlib.Core.Logic.{◌⊎◌, inl, inr}
use native.Mathlib.Nat.{add-mul, mul_assoc, mul_left_comm}
use native.Mathlib.Numerals.{add-one}
use native.Mathlib.Omega.{arith}
use borrow.Author.Tests.{lt-ltb, ltb-true}
use lib.Dec.{ltb}
use lib.ListN.{length, drop, get_or, drop_of_length-le}
use lib.Seq.{drop-cons}
use lib.Arith.{digits_lt}
use lib.Pow.{pow-add, shl_exact}
use lib.Bits.{bit_and, bit_or, and_mask, or_shifted_r}
use Rattle.leb128.specs.Forms.{Number, Whole, Short, Bad, below, joined_of, decode_from, decode}
use Rattle.leb128.proofs.Steps.{lt_or_le}
use Rattle.leb128.proofs.Laws.{from_end, from_zero, from_on, from_past}

-- v below what the bytes behind it give, m the weight of those
abbrev pub onto : ℕ → ℕ → Number → Number
onto v m (Whole w k) = Whole (w * m + v) k
onto v m Short = Short
onto v m (Bad p) = Bad p

onto_below : (v m low : ℕ) (d : Number) → onto v m (below low d) ≡ onto (low * m + v) (128 * m) d
unfolding below
onto_below v m low (Whole w k) =
    ap (λ (x : ℕ). Whole x k) (simp (add-mul, mul_assoc, mul_left_comm w 128 m) (omega arith))
onto_below v m low Short = refl
onto_below v m low (Bad p) = refl

-- the weight of the group at place i
abbrev pub weight : ℕ → ℕ
weight i = 2 ^ (7 * i)

weight_more : (i : ℕ) → weight (i + 1) ≡ 128 * weight i
weight_more i = ap (λ (k : ℕ). 2 ^ k) (omega arith) ∙ pow-add 2 7 (7 * i)

-- what a mask, a shift and an `|` make of a value and the group of a byte
pub join_is : (value b i : ℕ) → value < weight i → i ≤ 2 → bit_or value (bit_and b 127 * weight i % 2 ^ 32) ≡ (b % 128) * weight i + value
join_is value b i v f =
    rw (and_mask b 7, shl_exact {a = b % 128} 7 (7 * i) 32 (omega arith) (omega arith)) (or_shifted_r (b % 128) (7 * i) value v)

pub joined_is : (a b c : ℕ) → bit_or (bit_or (bit_and a 127) (bit_and b 127 * 2 ^ 7 % 2 ^ 32)) (bit_and c 127 * 2 ^ 14 % 2 ^ 32) ≡ joined_of a b c
joined_is a b c =
    let one : bit_and a 127 ≡ a % 128 = and_mask a 7 in
    let two = join_is (a % 128) b 1 (omega arith) (omega arith) in
    let three = join_is ((b % 128) * weight 1 + a % 128) c 2 (omega arith) (omega arith) in
    rw (one, two, three) (omega arith)

-- after i bytes, each of which says that more follow, whose groups make value
pub record SoFar (s : List ℕ) (value i : ℕ) : Type 0 where
  pub within : i ≤ length s
  pub few : i ≤ 2
  pub small : value < weight i
  pub so_far : decode s ≡ onto value (weight i) (decode_from i (drop i s))

at_byte : {s : List ℕ} {value i : ℕ} → SoFar s value i → i < length s → decode s ≡ onto value (weight i) (decode_from i (get_or s i 0 ∷ drop (suc i) s))
at_byte {s} {value} {i} h l = h.so_far ∙ ap (λ (t : List ℕ). onto value (weight i) (decode_from i t)) (drop-cons s i 0 l)

onto_none : (d : Number) → onto 0 1 d ≡ d
onto_none (Whole w k) = ap (λ (x : ℕ). Whole x k) (omega arith)
onto_none Short = refl
onto_none (Bad p) = refl

pub none_yet : (s : List ℕ) → SoFar s 0 0
unfolding decode
none_yet s = record { within = omega arith; few = omega arith; small = omega arith; so_far = sym (onto_none (decode_from 0 s)) }

pub at_end : {s : List ℕ} {value i : ℕ} → SoFar s value i → length s ≤ i → decode s ≡ Short
unfolding decode_from
at_end {s} {value} {i} h l = h.so_far ∙ ap (λ (t : List ℕ). onto value (weight i) (decode_from i t)) (drop_of_length-le s l)

pub at_zero : {s : List ℕ} {value i : ℕ} → SoFar s value i → i < length s → get_or s i 0 ≡ 0 → 0 < i → decode s ≡ Bad i
at_zero {s} {value} {i} h l z p = at_byte h l ∙ ap (onto value (weight i)) (from_zero i _ _ p z)

at_past : {s : List ℕ} {value i : ℕ} → SoFar s value i → i < length s → 128 ≤ get_or s i 0 → 2 ≤ i → decode s ≡ Bad i
at_past {s} {value} {i} h l m p = at_byte h l ∙ ap (onto value (weight i)) (from_past i _ _ m p)

-- whether a byte ends a number after others, as the code tests it
abbrev pub ends : ℕ → Bool
ends b = ltb 0 b && ltb b 128

ends_true : (b : ℕ) → ends b ≡ true → (0 < b) × (b < 128)
ends_true b e =
    let f = (and-eq-true_iff (ltb 0 b) (ltb b 128)).0 e in
    (ltb-true 0 b f.0, ltb-true b 128 f.1)

ends_false : (b : ℕ) → ends b ≡ false → (b ≡ 0) ⊎ (128 ≤ b)
ends_false zero e = inl refl
ends_false (suc b) e = elim (lt_or_le (suc b) 128) [
  | inl l ↦ absurd (true≢false (rw (lt-ltb 0 (suc b) (omega arith), lt-ltb (suc b) 128 l) at e))
  | inr m ↦ inr m
]

pub ends_more : (b : ℕ) → ends b ≡ false → (b ≡ 0 → ⊥) → 128 ≤ b
ends_more b e n = elim (ends_false b e) [ inl z ↦ absurd (n z) | inr m ↦ m ]

pub at_last : {s : List ℕ} {value i : ℕ} → SoFar s value i → i < length s → ends (get_or s i 0) ≡ true
    → decode s ≡ Whole (get_or s i 0 * weight i + value) (i + 1)
at_last {s} {value} {i} h l e =
    let f = ends_true (get_or s i 0) e in
    at_byte h l ∙ ap (onto value (weight i)) (from_end i _ _ f.1 (inr f.0))

-- the third byte ends the number or is refused
pub at_third : {s : List ℕ} {value : ℕ} → SoFar s value 2 → 2 < length s → ends (get_or s 2 0) ≡ false → decode s ≡ Bad 2
at_third {s} h l e =
    elim (ends_false (get_or s 2 0) e) [ inl z ↦ at_zero h l z (omega arith) | inr m ↦ at_past h l m (omega arith) ]

pub at_more : {s : List ℕ} {value i : ℕ} → SoFar s value i → i < length s → 128 ≤ get_or s i 0 → get_or s i 0 < 256 → i < 2
    → SoFar s ((get_or s i 0 % 128) * weight i + value) (i + 1)
at_more {s} {value} {i} h l m u p =
    let b = get_or s i 0 in
    let low : b - 128 ≡ b % 128 = omega arith in
    record {
      within = omega arith;
      few = omega arith;
      small = rw weight_more (digits_lt (omega arith) h.small);
      so_far =
          at_byte h l ∙ ap (onto value (weight i)) (from_on i b _ m p)
          ∙ onto_below value (weight i) (b - 128) (decode_from (i + 1) (drop (suc i) s))
          ∙ rw (weight_more i, low, add-one);
    }

-- after a first byte that says that more follow
pub first_more : {s : List ℕ} → 0 < length s → 128 ≤ get_or s 0 0 → get_or s 0 0 < 256 → SoFar s (get_or s 0 0 % 128) 1
first_more {s} l m u =
    let b = get_or s 0 0 in
    let e : (b % 128) * weight 0 + 0 ≡ b % 128 = omega arith in
    rw (← e) (at_more (none_yet s) l m u (omega arith))

-- two groups, and three, as they are joined
pub ends_two : {s : List ℕ} → SoFar s (get_or s 0 0 % 128) 1 → 1 < length s → ends (get_or s 1 0) ≡ true → decode s ≡ Whole (joined_of (get_or s 0 0) (get_or s 1 0) 0) 2
ends_two {s} h l e =
    let f = ends_true (get_or s 1 0) e in
    at_last h l e ∙ ap (λ (x : ℕ). Whole x 2) (omega (arith, f.1))

pub ends_three : {s : List ℕ} → SoFar s ((get_or s 1 0 % 128) * weight 1 + get_or s 0 0 % 128) 2 → 2 < length s → ends (get_or s 2 0) ≡ true
    → decode s ≡ Whole (joined_of (get_or s 0 0) (get_or s 1 0) (get_or s 2 0)) 3
ends_three {s} h l e =
    let f = ends_true (get_or s 2 0) e in
    at_last h l e ∙ ap (λ (x : ℕ). Whole x 3) (omega (arith, f.1))
