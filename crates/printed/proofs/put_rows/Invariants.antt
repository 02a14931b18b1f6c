use Rattle.printed.proofs.Printing.{RowsWritten}
use Rattle.printed.specs.Printing.{sheet_from}
use Rattle.printed.proofs.put_rows.Given as goal

abbrev pub invariant-loop-i : goal.invariant-loop-i
invariant-loop-i l = RowsWritten (sheet_from l.claims l.fills l.lines) l.list l.listed l.initial.out l.at l.i l.out l.next
