-- The writer: a number's bytes put group by group, numbers one after another, and what they come to.
use Prim.Native.Nat.{ℕ, zero, suc, ◌+◌, ◌/◌, ◌≤◌, ◌<◌}
use mathlib.Core.Path.{◌≡◌, refl, sym, ap, ◌∙◌}
use mathlib.Core.List.{List, [], ◌∷◌, ◌++◌, append_assoc, append-nil}
use native.Mathlib.Numerals.{add-one}
use native.Mathlib.Omega.{arith}
use lib.Bits.{bit_and, bit_or}
use lib.ListN.{length, take, get_or, set, length-append}
use lib.Seq.{sets, length-sets, take-suc, take_all}
use Rattle.leb128.specs.Groups.{encode}
use Rattle.leb128.proofs.Laws.{encode-length}
use Rattle.leb128.proofs.Splits.{Left, all_left, left_within, left_byte, left_more, left_last, left_end}
use Rattle.season.proofs.Stores.{Putting, none_put, putting_length, putting_more, putting_end, run_behind}
use Rattle.sheet.specs.Numbers.{written}

-- ---- a number

-- The groups of n before place i are put from place at on, and rest is what is left of n.
pub record Grouping (n : ℕ) (l₀ : List ℕ) (at : ℕ) (l : List ℕ) (rest i : ℕ) : Type 0 where
  pub done : ℕ
  pub place : at + done ≡ i
  pub left : Left n rest done
  pub put : Putting (encode n) l₀ at done l

pub none_grouped : (n : ℕ) (l : List ℕ) (at : ℕ) → at + length (encode n) ≤ length l → Grouping n l at l n at
none_grouped n l at h = record { done = 0; place = omega arith; left = all_left n; put = none_put (encode n) l at h }

module _ {n : ℕ} {l₀ : List ℕ} {at : ℕ} {l : List ℕ} {rest i : ℕ} (g : Grouping n l₀ at l rest i) where
  pub group_length : length l ≡ length l₀
  group_length = putting_length g.put

  -- The next byte's place; where more follow, the one behind it too.
  pub next_in_lem : (at ≤ i) × (i < length l)
  next_in_lem = (omega (arith, g.place), omega (arith, g.place, left_within g.left, g.put.room, group_length))

  pub more_in : 128 ≤ rest → i + 1 < length l
  more_in m = omega (arith, g.place, left_within (left_more g.left m), g.put.room, group_length)

  byte_more : (v : ℕ) → v ≡ get_or (encode n) g.done 0 → Putting (encode n) l₀ at (g.done + 1) (set l i v)
  byte_more v e = rw (← g.place, e) (putting_more g.put (left_within g.left))

  pub group_more : 128 ≤ rest → Grouping n l₀ at (set l i (bit_or (bit_and rest 127) 128)) (rest / 128) (i + 1)
  group_more m =
      record { done = g.done + 1; place = omega (arith, g.place); left = left_more g.left m; put = byte_more _ (left_byte g.left m) }

  pub group_last : rest < 128 → (i + 1 ≡ at + length (encode n)) × (set l i rest ≡ sets l₀ at (encode n))
  group_last m = (
    omega (arith, g.place, left_end g.left m, encode-length n),
    putting_end (byte_more rest (left_last g.left m)) (omega (arith, left_end g.left m, encode-length n)),
  )

-- ---- numbers one after another

-- One number more.
written_more : (vs : List ℕ) (v : ℕ) → written (vs ++ (v ∷ [])) ≡ written vs ++ encode v
unfolding written
written_more [] v = append-nil (encode v)
written_more (w ∷ vs) v = ap (λ (t : List ℕ). encode w ++ t) (written_more vs v) ∙ sym (append_assoc (encode w) (written vs) (encode v))

-- The first numbers take no more bytes than all.
written_part : (ns : List ℕ) (k : ℕ) → length (written (take k ns)) ≤ length (written ns)
unfolding written
written_part ns zero = omega arith
written_part [] (suc k) = omega arith
written_part (n ∷ ns) (suc k) = omega (arith, length-append (encode n) (written (take k ns)), length-append (encode n) (written ns), written_part ns k)

-- The first k of some numbers are put from the start, and end before place at.
pub record Numbering (ns l₀ l : List ℕ) (at k : ℕ) : Type 0 where
  pub space : length (written ns) ≤ length l₀
  pub few : k ≤ length ns
  pub place : at ≡ length (written (take k ns))
  pub stored : l ≡ sets l₀ 0 (written (take k ns))

pub none_numbered : (ns l : List ℕ) → length (written ns) ≤ length l → Numbering ns l l 0 0
unfolding written
none_numbered ns l h = record { space = h; few = omega arith; place = refl; stored = refl }

module _ {ns l₀ l : List ℕ} {at k : ℕ} (g : Numbering ns l₀ l at k) where
  pub numbering_length : length l ≡ length l₀
  numbering_length = rw g.stored (length-sets l₀ 0 (written (take k ns)))

  number_more : k < length ns → written (take (k + 1) ns) ≡ written (take k ns) ++ encode (get_or ns k 0)
  number_more h = rw (add-one, take-suc ns k 0 h) (written_more (take k ns) (get_or ns k 0))

  pub numbering_room : k < length ns → at + length (encode (get_or ns k 0)) ≤ length l
  numbering_room h =
      omega (
        arith,
        numbering_length,
        g.space,
        g.place,
        written_part ns (k + 1),
        ap length (number_more h),
        length-append (written (take k ns)) (encode (get_or ns k 0)),
      )

  pub numbering_more : {l' : List ℕ} {at' : ℕ} → k < length ns → at' ≡ at + length (encode (get_or ns k 0)) → l' ≡ sets l at (encode (get_or ns k 0))
      → Numbering ns l₀ l' at' (k + 1)
  numbering_more {l'} {at'} h a s =
      let behind = run_behind (written (take k ns)) (encode (get_or ns k 0)) l₀ l l' at at' (omega (arith, g.place)) g.stored a s in
      record { space = g.space; few = omega arith; place = rw (number_more h) behind.0; stored = rw (number_more h) behind.1 }

  pub numbering_end : length ns ≤ k → (at ≡ length (written ns)) × (l ≡ sets l₀ 0 (written ns))
  numbering_end h = let e : take k ns ≡ ns = take_all k ns h in (rw e at g.place, rw e at g.stored)
