-- Sixteen where the last is 28.
use Prim.Native.Nat.{ℕ, ◌≤◌}
use mathlib.Core.Path.{◌≡◌, sym, ap, ◌∙◌}
use mathlib.Core.List.{List}
use native.Mathlib.Omega.{arith}
use lib.ListN.{length}
use lib.Seq.{length-take-le}
use Rattle.sheet.proofs.Answers.{fields_plain, fields_leap}
use borrow.Author.Rules.{rules}
use Rattle.sheet.proofs.sheet_count.Goals as goal

long : (f : List ℕ) → length f ≡ 17 → 16 ≤ length f
long f n = omega arith

pub returns-then-fields-eq28 : goal.returns-then-fields-eq28
returns-then-fields-eq28 c = sym (ap length (fields_plain c.args.fields c.if-fields-eq28.true) ∙ length-take-le 16 c.args.fields (long c.args.fields (search rules)))

pub returns-else-fields-eq28 : goal.returns-else-fields-eq28
returns-else-fields-eq28 c = sym (ap length (fields_leap c.args.fields c.if-fields-eq28.false) ∙ search rules)
