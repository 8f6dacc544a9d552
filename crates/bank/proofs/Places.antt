-- Numbers and parts put in their places.
use Prim.Native.Nat.{ℕ, zero, suc, ◌+◌, ◌-◌, ◌≤◌}
use mathlib.Core.Path.{◌≡◌, refl, sym, ◌∙◌}
use mathlib.Core.List.{List, [], ◌∷◌, ◌++◌, append_assoc}
use native.Mathlib.Omega.{arith}
use lib.ListN.{length, take, drop, set}
use lib.Seq.{sets, sets-eq, drop-set-lt, take-set-le, drop_at, take_at, drop-drop, length-take-le}

pub five_stored : (l : List ℕ) (at a b c d e : ℕ) → set (set (set (set (set l at a) (at + 1) b) (at + 2) c) (at + 3) d) (at + 4) e ≡ sets l at (a ∷ b ∷ c ∷ d ∷ e ∷ [])
five_stored l at a b c d e =
    let z₁ : at + 1 ≡ suc at = omega arith in
    let z₂ : at + 2 ≡ suc (suc at) = omega arith in
    let z₃ : at + 3 ≡ suc (suc (suc at)) = omega arith in
    let z₄ : at + 4 ≡ suc (suc (suc (suc at))) = omega arith in
    rw (z₁, z₂, z₃, z₄)

pub take_at_most : (k n : ℕ) (l : List ℕ) → k ≤ n → length (take k l) ≤ n
take_at_most zero n l h = omega arith
take_at_most (suc k) n [] h = omega arith
take_at_most (suc k) zero (x ∷ l) h = absurd (omega arith)
take_at_most (suc k) (suc n) (x ∷ l) h = omega (arith, take_at_most k n l (omega arith))

-- Stores before a place leave what stands from there on; stores from a place on leave what stands before.
pub drop_sets : (vs l : List ℕ) (at i : ℕ) → at + length vs ≤ i → drop i (sets l at vs) ≡ drop i l
drop_sets [] l at i h = refl
drop_sets (v ∷ vs) l at i h = drop_sets vs (set l at v) (suc at) i (omega arith) ∙ drop-set-lt i l at v (omega arith)

pub take_sets : (vs l : List ℕ) (at i : ℕ) → i ≤ at → take i (sets l at vs) ≡ take i l
take_sets [] l at i h = refl
take_sets (v ∷ vs) l at i h = take_sets vs (set l at v) (suc at) i (omega arith) ∙ take-set-le i l at v h

-- What was put at a place stands there.
pub part_sets : (vs l : List ℕ) (at n : ℕ) → at + length vs ≤ length l → length vs ≡ n → take n (drop at (sets l at vs)) ≡ vs
part_sets vs l at n h e =
    rw (sets-eq vs l at h, append_assoc (take at l) vs (drop (at + length vs) l), drop_at (take at l) (vs ++ drop (at + length vs) l) at (length-take-le at l (omega arith)))
    (take_at vs (drop (at + length vs) l) n e)

-- A part that was lent and comes back changed is put at its place.
pub part_back : (vs l : List ℕ) (at i : ℕ) → length vs ≡ i → at + i ≤ length l → take at l ++ (vs ++ drop (at + i - at) (drop at l)) ≡ sets l at vs
part_back vs l at i e h =
    let z : at + i - at ≡ length vs = omega arith in
    rw (z, drop-drop (length vs) at l) (sym (append_assoc (take at l) vs (drop (at + length vs) l)) ∙ sym (sets-eq vs l at (omega arith)))

-- Stores behind a part leave it.
part_set : (m a : ℕ) (l : List ℕ) (i v : ℕ) → a + m ≤ i → take m (drop a (set l i v)) ≡ take m (drop a l)
part_set m zero l i v h = take-set-le m l i v (omega arith)
part_set m (suc a) [] i v h = refl
part_set m (suc a) (x ∷ l) zero v h = absurd (omega arith)
part_set m (suc a) (x ∷ l) (suc i) v h = part_set m a l i v (omega arith)

pub part_sets_before : (m a : ℕ) (vs l : List ℕ) (at : ℕ) → a + m ≤ at → take m (drop a (sets l at vs)) ≡ take m (drop a l)
part_sets_before m a [] l at h = refl
part_sets_before m a (v ∷ vs) l at h = part_sets_before m a vs (set l at v) (suc at) (omega arith) ∙ part_set m a l at v h
