-- The buffer is short, or it is filled.
use mathlib.Core.Path.{sym}
use native.Mathlib.Omega.{arith}
use Rattle.decades.proofs.Count.{rows_at_most}
use Rattle.decades.proofs.Answers.{tabled_short, tabled_whole}
use Rattle.decades.proofs.table.Goals as goal

pub overflow_mul-count : goal.overflow_mul-count
overflow_mul-count c = record { fits = rw c.row_count-count.ensures (omega (arith, rows_at_most _ c.requires)) }

pub returns-then-out-count : goal.returns-then-out-count
returns-then-out-count c = sym (tabled_short _ _ (rw (← c.row_count-count.ensures) c.if-out-count.true))

pub returns : goal.returns
returns c = rw (c.row_count-count.ensures, c.fill_rows.ensures)
    (sym (tabled_whole _ _ (rw (← c.row_count-count.ensures) c.if-out-count.false)))
