use Rattle.printed.proofs.Printing.{Widths}
use Rattle.printed.specs.Printing.{sheet_from}
use Rattle.printed.proofs.rows_width.Given as goal

abbrev pub invariant-loop-i : goal.invariant-loop-i
invariant-loop-i l = Widths (sheet_from l.claims l.fills l.lines) l.list l.listed l.i l.width
