-- The bytes are put in place, or copied from the array that they were made in (proofs/Answers.antt).
use mathlib.Core.Path.{◌≡◌, refl, ◌∙◌}
use native.Mathlib.Omega.{arith}
use lib.ListN.{take, replicate}
use Rattle.sheet.specs.Numbers.{written}
use Rattle.sheet.proofs.Answers.{short_written, put_written, copied_written, bytes_taken}
use Rattle.sheet.proofs.write_numbers.Goals as goal

pub returns-then-most-sheet : goal.returns-then-most-sheet
returns-then-most-sheet c = put_written (written c.args.numbers.now) c.args.sheet.now (omega (arith, c.requires.0, c.if-most-sheet.true)) c.put_numbers.ensures.0 c.put_numbers.ensures.1

pub returns-then-sheet-count : goal.returns-then-sheet-count
returns-then-sheet-count c = short_written (written c.args.numbers.now) c.args.sheet.now (omega (arith, c.if-sheet-count.true, c.put_numbers-count.ensures.0))

pub returns : goal.returns
returns c =
    let taken : take c.put_numbers-count.result c.put_numbers-count.new.bytes ≡ written c.args.numbers.now = bytes_taken (written c.args.numbers.now) (replicate 60 0) _ _ (omega (arith, c.requires.0, c.requires.1)) c.put_numbers-count.ensures.0 c.put_numbers-count.ensures.1 in
    copied_written (written c.args.numbers.now) c.args.sheet.now (omega (arith, c.if-sheet-count.false, c.put_numbers-count.ensures.0)) c.put_numbers-count.ensures.0 (c.copy_from_slice.ensures.after ∙ taken) refl
