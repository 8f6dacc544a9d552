-- The sheet's numbers are the tablet's first so many.
use Prim.Native.Nat.{ℕ, ◌≤◌}
use mathlib.Core.Path.{◌≡◌, sym, ap, ◌∙◌}
use mathlib.Core.List.{List}
use native.Mathlib.Omega.{arith}
use lib.ListN.{length}
use Rattle.sheet.specs.Writing.{sheet_fields, fields_written}
use Rattle.sheet.proofs.Answers.{fields_count, fields_taken}
use borrow.Author.Rules.{rules}
use Rattle.sheet.proofs.write_block.Goals as goal

few : (f : List ℕ) (count : ℕ) → length f ≡ 17 → count ≡ length (sheet_fields f) → count ≤ length f
few f count n e = omega (arith, (fields_count f n).1)

pub slice_bounds-fields-end : goal.slice_bounds-fields-end
slice_bounds-fields-end c = few c.args.fields c.sheet_count-count.result (search rules) c.sheet_count-count.ensures

pub slice_bounds-write_fields-end : goal.slice_bounds-write_fields-end
slice_bounds-write_fields-end c = let t = c.args.fields in
    c.sheet_count-count.ensures ∙ sym (ap length (fields_taken t c.sheet_count-count.result (search rules) c.sheet_count-count.ensures))

pub write_fields-requires : goal.write_fields-requires
write_fields-requires c = let t = c.args.fields in
    rw (fields_taken t c.sheet_count-count.result (search rules) c.sheet_count-count.ensures) (fields_count t (search rules))

pub returns : goal.returns
returns c = let t = c.args.fields in
    c.write_fields.ensures
    ∙ ap (λ (f : List ℕ). fields_written f c.args.sheet.now) (fields_taken t c.sheet_count-count.result (search rules) c.sheet_count-count.ensures)
