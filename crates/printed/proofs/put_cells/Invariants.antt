-- `printed::put_cells` meets its contract: the loop is `Printing` of proofs/Texts.antt.
use lib.ListN.{take}
use Rattle.printed.proofs.Texts.{Printing}
use Rattle.printed.proofs.put_cells.Given as goal

abbrev pub invariant-loop-i : goal.invariant-loop-i
invariant-loop-i l = Printing l.initial.text (take l.fn.count l.fn.rows) l.text l.at l.i
