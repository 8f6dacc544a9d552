-- An accepted sheet's length: a byte for each number at least, and at most as many as the limits take; of a block sheet two fewer, since n is at most 275.
use Prim.Native.Nat.{ℕ, suc, ◌+◌, ◌-◌, ◌*◌, ◌^◌, ◌≤◌, ◌<◌}
use mathlib.Core.Path.{◌≡◌, refl, ap}
use mathlib.Core.List.{List, [], ◌∷◌}
use mathlib.Core.Logic.{inl, inr}
use native.Mathlib.Omega.{arith}
use lib.ListN.{length, take, drop, get_or, replicate}
use Rattle.verdict.specs.Refusals.{Accepted}
use Rattle.leb128.specs.Claims.{Bytes}
use Rattle.leb128.specs.Groups.{group_count, over_groups, over_in}
use Rattle.leb128.proofs.Steps.{lt_or_le, count_last}
use Rattle.leb128.proofs.Laws.{count_pos, count_le, count_lt}
use Rattle.season.specs.Sheet.{Within, season_days}
use Rattle.season.specs.Calendar.{month_days}
use Rattle.fields.specs.declared.Limit.{Limit}
use Rattle.sheet.specs.Numbers.{written}
use Rattle.fields.specs.Fields.{february_of, limits, lowest_outside, season_of, block_fields}
use Rattle.fields.specs.Refusals.{climate_verdict, block_verdict}
use Rattle.sheet.specs.Sheets.{climate_numbers, block_numbers, climate_of, block_of}
use Rattle.fields.proofs.Ranges.{inside, none_outside, february_within}
use Rattle.fields.proofs.Merged.{places, none_found, season_of_both}
use Rattle.fields.proofs.Verdicts.{climate_clear, block_clear, block_days}
use Rattle.sheet.proofs.Laws.{length_written, written_at_least}
use Rattle.sheet.proofs.ReadBack.{month_few}
use Rattle.sheet.proofs.Accepted.{is_climate, is_block}

-- A smaller number takes no more groups.
count_up : (v h : ℕ) → v ≤ h → group_count v ≤ group_count h
count_up v h p =
    let k = group_count h - 1 in
    let e : group_count h ≡ suc k = omega (arith, count_pos h) in
    let small : v < 128 ^ suc k = omega (arith, count_lt h (suc k) (omega arith)) in
    omega (arith, count_le v k small)

-- The bytes that numbers within some limits take at most.
unfoldable most : List Limit → ℕ
most [] = 0
most (l ∷ ls) = group_count l.1 + most ls

written_most : (i : ℕ) (ls : List Limit) (vs : List ℕ) → length vs ≤ length ls → lowest_outside (suc i) ls vs ≡ 0 → length (written vs) ≤ most ls
unfolding most written
written_most i [] [] h e = omega arith
written_most i [] (v ∷ vs) h e = absurd (omega arith)
written_most i (l ∷ ls) [] h e = omega arith
written_most i (l ∷ ls) (v ∷ vs) h e =
    let s = none_outside i l ls v vs e in
    omega (arith, length_written v vs, count_up v l.1 (inside l v s.0).high, written_most (i + 1) ls vs (omega arith) s.1)

-- A stage of 128 days or more takes two bytes.
stage_most : (v : ℕ) → v ≤ 200 → 128 * group_count v ≤ v + 128
stage_most v h =
    elim (lt_or_le v 128) [ inl l ↦ omega (arith, count_last v l) | inr m ↦ omega (arith, count_le v 1 (omega arith)) ]

-- A climate's numbers, by their limits.
pub climate_written_length : (c : List ℕ) → length c ≡ 24 → climate_verdict c ≡ Accepted → (24 ≤ length (written c)) × (length (written c) ≤ 60)
unfolding most group_count over_groups over_in
climate_written_length c n a =
    (omega (arith, written_at_least c), written_most 9 (take 24 (drop 9 (limits 28 1))) c (omega arith) (climate_clear c a))

-- A block's, number by number to the stages' end, and the rest by their limits.
block_at_most : (february : ℕ) → Within 28 29 february → (v : List ℕ) → 16 ≤ length v → length v ≤ 17 → lowest_outside 1 (places february (get_or v 0 0)) v ≡ 0
    → get_or v 2 0 + get_or v 3 0 + get_or v 4 0 + get_or v 5 0 ≤ 275 → length (written v) ≤ 27
unfolding most group_count over_groups over_in
block_at_most february w [] n o e y = absurd (omega arith)
block_at_most february w (a ∷ []) n o e y = absurd (omega arith)
block_at_most february w (a ∷ b ∷ []) n o e y = absurd (omega arith)
block_at_most february w (a ∷ b ∷ c ∷ []) n o e y = absurd (omega arith)
block_at_most february w (a ∷ b ∷ c ∷ d ∷ []) n o e y = absurd (omega arith)
block_at_most february w (a ∷ b ∷ c ∷ d ∷ g ∷ []) n o e y = absurd (omega arith)
block_at_most february w (a ∷ b ∷ c ∷ d ∷ g ∷ h ∷ rest) n o e y =
    let ls = places february a in
    let s₁ = none_outside 0 (1, 12) (drop 1 ls) a (b ∷ c ∷ d ∷ g ∷ h ∷ rest) e in
    let s₂ = none_outside 1 (1, month_days february a) (drop 2 ls) b (c ∷ d ∷ g ∷ h ∷ rest) s₁.1 in
    let s₃ = none_outside 2 (1, 200) (drop 3 ls) c (d ∷ g ∷ h ∷ rest) s₂.1 in
    let s₄ = none_outside 3 (1, 200) (drop 4 ls) d (g ∷ h ∷ rest) s₃.1 in
    let s₅ = none_outside 4 (1, 200) (drop 5 ls) g (h ∷ rest) s₄.1 in
    let s₆ = none_outside 5 (1, 200) (drop 6 ls) h rest s₅.1 in
    let month : group_count a ≡ 1 = count_last a (omega (arith, (inside _ a s₁.0).high)) in
    let day : group_count b ≡ 1 = count_last b (omega (arith, (inside _ b s₂.0).high, month_few february a w)) in
    let behind : length (written rest) ≤ 19 = written_most 6 (drop 6 ls) rest (omega arith) s₆.1 in
    omega (
      arith,
      length_written a (b ∷ c ∷ d ∷ g ∷ h ∷ rest),
      length_written b (c ∷ d ∷ g ∷ h ∷ rest),
      length_written c (d ∷ g ∷ h ∷ rest),
      length_written d (g ∷ h ∷ rest),
      length_written g (h ∷ rest),
      length_written h rest,
      month,
      day,
      stage_most c (inside _ c s₃.0).high,
      stage_most d (inside _ d s₄.0).high,
      stage_most g (inside _ g s₅.0).high,
      stage_most h (inside _ h s₆.0).high,
      behind,
    )

pub block_written_length : (b : List ℕ) → 16 ≤ length b → length b ≤ 17 → block_verdict b ≡ Accepted → (16 ≤ length (written b)) × (length (written b) ≤ 27)
block_written_length b n m a =
    let nine : 9 ≤ length b = omega arith in
    let february = february_of (block_fields b) in
    let days : season_days (season_of (block_fields b)) ≡ get_or b 2 0 + get_or b 3 0 + get_or b 4 0 + get_or b 5 0 = ap season_days (season_of_both (replicate 24 0) b refl nine) in (
      omega (arith, written_at_least b),
      block_at_most february (february_within (block_fields b)) b n m (none_found february (get_or b 0 0) b nine (block_clear b a)) (omega (arith, days, block_days b a)),
    )

pub climate_length : (climate : List ℕ) → Bytes climate → (climate_of climate).verdict ≡ Accepted → (24 ≤ length climate) × (length climate ≤ 60)
climate_length climate bytes e =
    let a = is_climate climate e in
    rw (a.as_written bytes) (climate_written_length (climate_numbers climate).fields a.count a.verdict)

pub block_length : (block : List ℕ) → Bytes block → (block_of block).verdict ≡ Accepted → (16 ≤ length block) × (length block ≤ 27)
block_length block bytes e =
    let a = is_block block e in
    rw (a.as_written bytes) (block_written_length (block_numbers block).fields a.count.0 a.count.1 a.verdict)
