-- `probes::pair_of` meets its contract, by its two tests; two contents of at most 10,000 add up.
use mathlib.Core.Path.{◌≡◌, sym, ap, ◌∙◌}
use mathlib.Core.Bool.{true}
use Prim.Native.Nat.{ℕ, ◌+◌, ◌/◌}
use native.Mathlib.Omega.{arith}
use Rattle.probes.specs.Contents.{Content, is_content, ten_thousandths, pair_of}
use Rattle.probes.proofs.Bits.{at_most_ten_thousand}
use Rattle.probes.proofs.pair_of.Goals as goal
use Rattle.probes.proofs.pair_of.Goals.{else-is_content-via-then-is_content+else-is_content-2, else-is_content-via-else-is_content}

pub ten_thousandths-requires : goal.ten_thousandths-requires
ten_thousandths-requires c =
    let shallow-is : is_content c.args.p.shallow ≡ true = sym c.is_content.ensures ∙ c.if-is_content.true in
    shallow-is

pub ten_thousandths-requires-then-is_content-2 : goal.ten_thousandths-requires-then-is_content-2
ten_thousandths-requires-then-is_content-2 c =
    let deep_is : is_content c.args.p.deep ≡ true = sym c.is_content-then-is_content.ensures ∙ c.if-is_content-2.true in
    deep_is

pub overflow_add-result : goal.overflow_add-result
overflow_add-result c =
    let shallow-is : is_content c.args.p.shallow ≡ true = sym c.is_content.ensures ∙ c.if-is_content.true in
    let deep_is : is_content c.args.p.deep ≡ true = sym c.is_content-then-is_content.ensures ∙ c.if-is_content-2.true in
    let p = c.args.p in
    omega (arith, c.ten_thousandths-then-is_content-2.ensures, c.ten_thousandths.ensures, at_most_ten_thousand p.shallow shallow-is, at_most_ten_thousand p.deep deep_is)

pub returns-then-is_content-2 : goal.returns-then-is_content-2
unfolding pair_of
returns-then-is_content-2 c =
    let shallow-is : is_content c.args.p.shallow ≡ true = sym c.is_content.ensures ∙ c.if-is_content.true in
    let deep_is : is_content c.args.p.deep ≡ true = sym c.is_content-then-is_content.ensures ∙ c.if-is_content-2.true in
    let p = c.args.p in
    ap (λ (v : ℕ). Content ((v + c.ten_thousandths-then-is_content-2.result) / 2)) c.ten_thousandths.ensures
    ∙ ap (λ (v : ℕ). Content ((ten_thousandths p.shallow + v) / 2)) c.ten_thousandths-then-is_content-2.ensures
    ∙ sym (rw (shallow-is, deep_is))

pub returns : goal.returns
unfolding pair_of
returns c =
    elim c.else-is_content.branch [
      | else-is_content-via-then-is_content+else-is_content-2 w ↦
          sym (rw (sym c.is_content.ensures ∙ w.if-is_content.true, sym w.is_content-then-is_content.ensures ∙ w.if-is_content-2.false))
      | else-is_content-via-else-is_content w ↦ sym (rw (sym c.is_content.ensures ∙ w.if-is_content.false))
    ]
