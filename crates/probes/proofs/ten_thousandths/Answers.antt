-- `probes::ten_thousandths` meets its contract: masks and shifts take the pattern's fields, and `by_bits` says what they are worth.
use mathlib.Core.Path.{◌≡◌, sym, ap, ◌∙◌, subst}
use Prim.Native.Nat.{ℕ, ◌+◌, ◌-◌, ◌*◌, ◌/◌, ◌%◌, ◌^◌, ◌≤◌, ◌<◌}
use native.Mathlib.Omega.{arith}
use lib.Dec.{T}
use lib.Bits.{bit_and, bit_or, and_mask, or_shifted_r}
use lib.Ieee.{binary32, fits, to_bits}
use Rattle.probes.specs.Contents.{ten_thousandths}
use Rattle.probes.proofs.Bits.{ByField, content_within, by_bits, at_most_ten_thousand}
use Rattle.probes.proofs.ten_thousandths.Goals as goal

-- the fields, as masks and shifts take them
field_is : (b : ℕ) → bit_and b 2147483647 / 8388608 ≡ b % 2147483648 / 8388608
field_is b = ap (λ (y : ℕ). y / 8388608) (and_mask b 31)

digits-is : (b : ℕ) → bit_or (bit_and b 8388607) 8388608 ≡ 8388608 + b % 8388608
digits-is b = ap (λ (y : ℕ). bit_or y 8388608) (and_mask b 23) ∙ or_shifted_r 1 23 (b % 8388608) (omega arith)

pub float_to_bits-bits : goal.float_to_bits-bits
float_to_bits-bits c = (content_within c.args.x c.requires).number

pub returns-then-field-lt87 : goal.returns-then-field-lt87
returns-then-field-lt87 c =
    let held : T (fits binary32 c.args.x) = subst T (sym c.well_formed.0.1) tt in
    let by : ByField c.args.x (to_bits binary32 c.args.x % 2147483648 / 8388608) (to_bits binary32 c.args.x % 8388608) = by_bits c.args.x held c.requires in
    let b = to_bits binary32 c.args.x in
    sym (by.small (subst (λ (y : ℕ). y < 87) (field_is b) c.if-field-lt87.true))

pub overflow_cast-top : goal.overflow_cast-top
overflow_cast-top c = omega (arith, digits-is (to_bits binary32 c.args.x))

pub overflow_mul-top : goal.overflow_mul-top
overflow_mul-top c = omega (arith, digits-is (to_bits binary32 c.args.x))

pub overflow_sub-result : goal.overflow_sub-result
overflow_sub-result c =
    let held : T (fits binary32 c.args.x) = subst T (sym c.well_formed.0.1) tt in
    let by : ByField c.args.x (to_bits binary32 c.args.x % 2147483648 / 8388608) (to_bits binary32 c.args.x % 8388608) = by_bits c.args.x held c.requires in
    omega (arith, field_is (to_bits binary32 c.args.x), by.field_at_most)

pub overflow_cast-result-2 : goal.overflow_cast-result-2
overflow_cast-result-2 c =
    let held : T (fits binary32 c.args.x) = subst T (sym c.well_formed.0.1) tt in
    let by : ByField c.args.x (to_bits binary32 c.args.x % 2147483648 / 8388608) (to_bits binary32 c.args.x % 8388608) = by_bits c.args.x held c.requires in
    let shifted : bit_or (bit_and (to_bits binary32 c.args.x) 8388607) 8388608 * 10000 / 2 ^ (150 - bit_and (to_bits binary32 c.args.x) 2147483647 / 8388608) ≡ ten_thousandths c.args.x = let b = to_bits binary32 c.args.x in
    ap (λ (y : ℕ). y * 10000 / 2 ^ (150 - bit_and b 2147483647 / 8388608)) (digits-is b)
    ∙ ap (λ (y : ℕ). (8388608 + b % 8388608) * 10000 / 2 ^ (150 - y)) (field_is b)
    ∙ sym (by.large (subst (λ (y : ℕ). 87 ≤ y) (field_is b) c.if-field-lt87.false)) in
    omega (arith, shifted, at_most_ten_thousand c.args.x c.requires)

pub returns : goal.returns
returns c =
    let held : T (fits binary32 c.args.x) = subst T (sym c.well_formed.0.1) tt in
    let by : ByField c.args.x (to_bits binary32 c.args.x % 2147483648 / 8388608) (to_bits binary32 c.args.x % 8388608) = by_bits c.args.x held c.requires in
    let shifted : bit_or (bit_and (to_bits binary32 c.args.x) 8388607) 8388608 * 10000 / 2 ^ (150 - bit_and (to_bits binary32 c.args.x) 2147483647 / 8388608) ≡ ten_thousandths c.args.x = let b = to_bits binary32 c.args.x in
    ap (λ (y : ℕ). y * 10000 / 2 ^ (150 - bit_and b 2147483647 / 8388608)) (digits-is b)
    ∙ ap (λ (y : ℕ). (8388608 + b % 8388608) * 10000 / 2 ^ (150 - y)) (field_is b)
    ∙ sym (by.large (subst (λ (y : ℕ). 87 ≤ y) (field_is b) c.if-field-lt87.false)) in
    shifted
