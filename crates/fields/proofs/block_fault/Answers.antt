-- The loop is `Searched` of proofs/Lowest.antt over a block's places, whose fields are `found_at` of proofs/Merged.antt.
use Prim.Native.Nat.{ℕ, ◌+◌, ◌≤◌, ◌<◌}
use mathlib.Core.Bool.{Bool, true, false, cond}
use lib.Dec.{ltb}
use mathlib.Core.Path.{◌≡◌, sym, subst, ◌∙◌}
use mathlib.Core.List.{List}
use native.Mathlib.Omega.{arith}
use lib.ListN.{length, get_or}
use Rattle.fields.specs.declared.Limit.{Limit}
use Rattle.fields.specs.Fields.{february_of, outside, block_field, block_fields}
use Rattle.fields.proofs.Lowest.{Searched, search_start, search_found, search_on, search_none}
use Rattle.fields.proofs.Merged.{places, places_are, found_at, found_none}
use Rattle.fields.proofs.block_fault.Goals as goal
use Rattle.fields.proofs.block_fault.Goals.{else-block-gt16-via-then-block-gt16+else-is_outside-2, else-block-gt16-via-else-block-gt16}

-- a field has a number from 1 on
field_some : (k : ℕ) → 0 < block_field k
field_some k = go (ltb k 9)
  where
    go : (b : Bool) → 0 < cond b (k + 1) (k + 25)
    go true = omega arith
    go false = omega arith

-- the loop has come to place 16
at-sixteen : {i k : ℕ} {ls : List Limit} {b : List ℕ} → Searched i ls b k × (k ≤ 16) → 16 ≤ k → Searched i ls b 16
at-sixteen {i} {k} {ls} {b} h m = let e : k ≡ 16 = omega (arith, h.1) in subst (Searched i ls b) e h.0

pub bounds-block-0 : goal.bounds-block-0
bounds-block-0 c = omega (arith, c.requires.0)

pub loop-place-init : goal.loop-place-init
loop-place-init c = (search_start 1 _ _ c.requires.1, omega arith)

pub offset_bounds-by_place-place : goal.offset_bounds-by_place-place
offset_bounds-by_place-place c = omega (arith, c.loop-place-test.true)

pub bounds-by_place-place : goal.bounds-by_place-place
bounds-by_place-place c = omega (arith, c.loop-place-test.true)

pub offset_bounds-block-place : goal.offset_bounds-block-place
offset_bounds-block-place c = omega (arith, c.loop-place-test.true, c.requires.0)

pub bounds-block-place : goal.bounds-block-place
bounds-block-place c = omega (arith, c.loop-place-test.true, c.requires.0)

pub block_field-requires : goal.block_field-requires
block_field-requires c = omega (arith, c.loop-place-test.true)

pub returns-then-is_outside : goal.returns-then-is_outside
returns-then-is_outside c =
    let few : (c.loop-place.place < length c.args.block.now) = omega (arith, c.loop-place-test.true, c.requires.0) in
    let answer : (let b = c.args.block.now in outside (get_or (places (february_of (block_fields b)) (get_or b 0 0)) c.loop-place.place (0, 0)) (get_or b c.loop-place.place 0) ≡ c.is_outside.result) = let b = c.args.block.now in
    sym (c.is_outside.ensures ∙ rw (places_are b _ _ c.february_of.ensures c.block_limits-by_place.ensures)) in
    let b = c.args.block.now in
    (omega (arith, c.block_field.ensures, field_some c.loop-place.place), c.block_field.ensures ∙ sym (found_at (february_of (block_fields b)) (get_or b 0 0) b (omega (arith, c.requires.0)) c.loop-place.place (search_found c.loop-place.invariant.0 (0, 0) few (answer ∙ c.if-is_outside.true))))

pub loop-place-preserved : goal.loop-place-preserved
loop-place-preserved c =
    let few : (c.loop-place.place < length c.args.block.now) = omega (arith, c.loop-place-test.true, c.requires.0) in
    let answer : (let b = c.args.block.now in outside (get_or (places (february_of (block_fields b)) (get_or b 0 0)) c.loop-place.place (0, 0)) (get_or b c.loop-place.place 0) ≡ c.is_outside.result) = let b = c.args.block.now in
    sym (c.is_outside.ensures ∙ rw (places_are b _ _ c.february_of.ensures c.block_limits-by_place.ensures)) in
    (search_on c.loop-place.invariant.0 (0, 0) few (answer ∙ c.if-is_outside.false), omega (arith, c.loop-place-test.true))

pub returns-then-is_outside-2 : goal.returns-then-is_outside-2
returns-then-is_outside-2 c =
    let last : let b = c.args.block.now in outside (get_or (places (february_of (block_fields b)) (get_or b 0 0)) 16 (0, 0)) (get_or b 16 0) ≡ c.is_outside-then-block-gt16.result = let b = c.args.block.now in
    sym (c.is_outside-then-block-gt16.ensures ∙ rw (places_are b _ _ c.february_of.ensures c.block_limits-by_place.ensures)) in
    let b = c.args.block.now in
    (omega arith, sym (found_at (february_of (block_fields b)) (get_or b 0 0) b (omega (arith, c.requires.0)) 16 (search_found (at-sixteen c.loop-place.invariant c.loop-place-test.false) (0, 0) c.if-block-gt16.true (last ∙ c.if-is_outside-2.true))))

pub returns : goal.returns
returns c = let b = c.args.block.now in
    found_none (february_of (block_fields b)) (get_or b 0 0) b (omega (arith, c.requires.0))
    (elim c.else-block-gt16.branch [
      | else-block-gt16-via-then-block-gt16+else-is_outside-2 w ↦
          let last : outside (get_or (places (february_of (block_fields b)) (get_or b 0 0)) 16 (0, 0)) (get_or b 16 0) ≡ w.is_outside-then-block-gt16.result =
          sym (w.is_outside-then-block-gt16.ensures ∙ rw (places_are b _ _ c.february_of.ensures c.block_limits-by_place.ensures)) in
          search_none (search_on (at-sixteen c.loop-place.invariant c.loop-place-test.false) (0, 0) w.if-block-gt16.true (last ∙ w.if-is_outside-2.false)) (omega (arith, c.requires.1))
      | else-block-gt16-via-else-block-gt16 w ↦ search_none c.loop-place.invariant.0 (omega (arith, w.if-block-gt16.false, c.loop-place-test.false))
    ])
