-- Splitting a number into its groups.
--
use Prim.Native.Nat.{ℕ, suc, ◌+◌, ◌-◌, ◌/◌, ◌%◌, ◌^◌, ◌≤◌, ◌<◌}
use mathlib.Core.Path.{◌≡◌, refl, sym, ap, ap₂, ◌∙◌}
use mathlib.Core.List.{List, [], ◌∷◌, ◌++◌, append_assoc}
use native.Mathlib.Numerals.{add-one}
use native.Mathlib.Omega.{arith}
use lib.ListN.{length, take, drop, get_or, set, replicate}
use lib.Seq.{take-suc, take_all, length-take-le, set_at, drop-drop, get_or-drop}
use lib.Bits.{bit_and, bit_or, and_mask, or_shifted_r}
use Rattle.leb128.specs.Groups.{group_count, encode}
use Rattle.leb128.proofs.Steps.{count_last, count_more, encode_last, encode_more}
use Rattle.leb128.proofs.Laws.{count_pos, count_le, encode-length}

-- a byte that says that more follow
pub mark_is : (n : ℕ) → bit_or (bit_and n 127) 128 ≡ 128 + n % 128
mark_is n = rw (and_mask n 7) (or_shifted_r 1 7 (n % 128) (omega arith))

-- the first i of some bytes, and zeros to the fifth
abbrev pub filled : List ℕ → ℕ → List ℕ
filled bytes i = take i bytes ++ replicate (5 - i) 0

fill_more : (bytes : List ℕ) (i : ℕ) → i < length bytes → i < 5 → set (filled bytes i) i (get_or bytes i 0) ≡ filled bytes (i + 1)
fill_more bytes i l f =
    let m = 5 - (i + 1) in
    let e : 5 - i ≡ suc m = omega arith in
    ap (λ (k : ℕ). set (take i bytes ++ replicate k 0) i (get_or bytes i 0)) e
    ∙ set_at (take i bytes) 0 (replicate m 0) (get_or bytes i 0) i (length-take-le i bytes (omega arith))
    ∙ sym (append_assoc (take i bytes) (get_or bytes i 0 ∷ []) (replicate m 0))
    ∙ ap (λ (t : List ℕ). t ++ replicate m 0) (sym (take-suc bytes i 0 l))
    ∙ ap (λ (k : ℕ). take k bytes ++ replicate m 0) (sym (add-one i))

-- i groups of n are split off, and rest is what is left of n
pub record Left (n rest i : ℕ) : Type 0 where
  pub counted : i + group_count rest ≡ group_count n
  pub behind : drop i (encode n) ≡ encode rest

pub all_left : (n : ℕ) → Left n n 0
all_left n = record { counted = omega arith; behind = refl }

module _ {n rest i : ℕ} (h : Left n rest i) where
  head_is : (b : ℕ) (bs : List ℕ) → encode rest ≡ b ∷ bs → (get_or (encode n) i 0 ≡ b) × (drop (i + 1) (encode n) ≡ bs)
  head_is b bs e =
      let q : drop i (encode n) ≡ b ∷ bs = h.behind ∙ e in
      let z : i ≡ i + 0 = omega arith in (
        ap (λ (k : ℕ). get_or (encode n) k 0) z ∙ sym (get_or-drop i (encode n) 0 0) ∙ ap (λ (t : List ℕ). get_or t 0 0) q,
        sym (drop-drop 1 i (encode n)) ∙ ap (drop 1) q,
      )

  pub left_within : i < length (encode n)
  left_within = omega (arith, encode-length n, count_pos rest, h.counted)

  pub left_few : n < 2 ^ 32 → i < 5
  left_few f = omega (arith, count_le n 4 (omega arith), count_pos rest, h.counted)

  -- the next byte, and what is left then
  pub left_byte : 128 ≤ rest → bit_or (bit_and rest 127) 128 ≡ get_or (encode n) i 0
  left_byte m = mark_is rest ∙ sym (head_is _ _ (encode_more rest m)).0

  pub left_more : 128 ≤ rest → Left n (rest / 128) (i + 1)
  left_more m = record { counted = omega (arith, count_more rest m, h.counted); behind = (head_is _ _ (encode_more rest m)).1 }

  -- the last byte, with which all are
  pub left_last : rest < 128 → rest ≡ get_or (encode n) i 0
  left_last m = sym (head_is _ _ (encode_last rest m)).0

  pub left_end : rest < 128 → i + 1 ≡ group_count n
  left_end m = omega (arith, count_last rest m, h.counted)

-- and those i are stored
pub record Split (n : ℕ) (bytes : List ℕ) (rest i : ℕ) : Type 0 where
  pub left : Left n rest i
  pub stored : bytes ≡ filled (encode n) i

pub none_split : (n : ℕ) → Split n (0 ∷ 0 ∷ 0 ∷ 0 ∷ 0 ∷ []) n 0
none_split n = record { left = all_left n; stored = refl }

pub split_more : {n : ℕ} {bytes : List ℕ} {rest i : ℕ} → n < 2 ^ 32 → Split n bytes rest i → 128 ≤ rest
    → Split n (set bytes i (bit_or (bit_and rest 127) 128)) (rest / 128) (i + 1)
split_more {n} {bytes} {rest} {i} f h m =
    record {
      left = left_more h.left m;
      stored =
          ap₂ (λ (t : List ℕ) (v : ℕ). set t i v) h.stored (left_byte h.left m)
          ∙ fill_more (encode n) i (left_within h.left) (left_few h.left f);
    }

pub split_last : {n : ℕ} {bytes : List ℕ} {rest i : ℕ} → n < 2 ^ 32 → Split n bytes rest i → rest < 128
    → set bytes i rest ≡ encode n ++ replicate (5 - group_count n) 0
split_last {n} {bytes} {rest} {i} f h m =
    ap₂ (λ (t : List ℕ) (v : ℕ). set t i v) h.stored (left_last h.left m)
    ∙ fill_more (encode n) i (left_within h.left) (left_few h.left f)
    ∙ ap (filled (encode n)) (left_end h.left m)
    ∙ ap (λ (t : List ℕ). t ++ replicate (5 - group_count n) 0) (take_all (group_count n) (encode n) (omega (arith, encode-length n)))
