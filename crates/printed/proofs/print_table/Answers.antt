-- The text is too short; or the input is cut where its climate sheet ends, and the table's numbers, or the refusal's two, are written a cell at a time.
use Prim.Native.Nat.{◌^◌, ◌<◌}
use mathlib.Core.Path.{refl, sym, ◌∙◌}
use mathlib.Core.List.{◌++◌}
use native.Mathlib.Omega.{arith}
use lib.ListN.{length-append}
use lib.Seq.{length-take-le}
use Rattle.season.proofs.Stores.{run_behind}
use Rattle.printed.specs.Text.{cell}
use Rattle.printed.proofs.Texts.{cell_of_word}
use Rattle.printed.proofs.Answers.{rows_printed, refusal_printed, of_parts, ends_within, too_short, stored}
use Rattle.printed.proofs.print_table.Goals as goal

pub returns-then-text-lt4096 : goal.returns-then-text-lt4096
returns-then-text-lt4096 c =
    let r = too_short c.args.input.now c.args.text.now c.if-text-lt4096.true in
    record { text_after = r.0; upper_bound = r.1 }

pub slice_bounds-table-end : goal.slice_bounds-table-end
slice_bounds-table-end c = sym (length-take-le c.climate_end-at.result c.args.input.now (ends_within _ _ c.climate_end-at.ensures))

pub slice_bounds-table-count : goal.slice_bounds-table-count
slice_bounds-table-count c = ends_within _ _ c.climate_end-at.ensures

pub slice_bounds-table-start : goal.slice_bounds-table-start
slice_bounds-table-start c = ends_within _ _ c.climate_end-at.ensures

pub overflow_mul-count : goal.overflow_mul-count
overflow_mul-count c =
    let rows-answered = rows_printed _ _ _ refl c.in-Ok.is c.table.ensures in
    record { fits = omega (arith, rows-answered.few) }

pub put_cells-requires : goal.put_cells-requires
put_cells-requires c =
    let rows-answered = rows_printed _ _ _ refl c.in-Ok.is c.table.ensures in
    let few = rows-answered.few in
    (omega (arith, few, c.table.auto.rows), omega (arith, few, c.if-text-lt4096.false))

pub put_cell-next-requires : goal.put_cell-next-requires
put_cell-next-requires c =
    let f : c.number.result < 2 ^ 64 = omega arith in
    omega (arith, c.if-text-lt4096.false, cell_of_word _ 32 f)

pub put_cell-requires : goal.put_cell-requires
put_cell-requires c =
    let f : c.number.result < 2 ^ 64 = omega arith in
    let h : c.in-Err.refusal.value < 2 ^ 64 = omega arith in
    omega (arith, c.if-text-lt4096.false, c.put_cell-next.ensures.0, c.put_cell-next.auto.text, cell_of_word _ 32 f, cell_of_word _ 10 h)

pub returns-in-Ok : goal.returns-in-Ok
returns-in-Ok c =
    let rows = rows_printed _ _ _ refl c.in-Ok.is c.table.ensures in
    let r = stored c.args.input.now _ c.args.text.now _ _ c.if-text-lt4096.false (rows.text ∙ of_parts c.args.input.now _ c.climate_end-at.ensures)
    (omega (arith, rows.few, c.put_cells.ensures.0, c.put_cells.ensures.2, c.if-text-lt4096.false)) c.put_cells.ensures.0 c.put_cells.ensures.1 in
    record { text_after = r.0; upper_bound = r.1 }

pub returns-in-Err : goal.returns-in-Err
returns-in-Err c =
    let f : c.number.result < 2 ^ 64 = omega arith in
    let h : c.in-Err.refusal.value < 2 ^ 64 = omega arith in
    let x = cell c.number.result 32 in
    let y = cell c.in-Err.refusal.value 10 in
    let two = run_behind x y c.args.text.now _ _ _ _ c.put_cell-next.ensures.0 c.put_cell-next.ensures.1 c.put_cell.ensures.0 c.put_cell.ensures.1 in
    let r = stored c.args.input.now (x ++ y) c.args.text.now _ _ c.if-text-lt4096.false
    (refusal_printed _ _ _ refl c.in-Err.is c.number.ensures c.table.ensures ∙ of_parts c.args.input.now _ c.climate_end-at.ensures)
    (omega (arith, c.if-text-lt4096.false, length-append x y, cell_of_word c.number.result 32 f, cell_of_word c.in-Err.refusal.value 10 h))
    two.0 two.1 in
    record { text_after = r.0; upper_bound = r.1 }
