use Rattle.said.specs.Said.{SheetReading}
use Rattle.said.proofs.read_lines.Given as goal

abbrev pub invariant-loop-i : goal.invariant-loop-i
invariant-loop-i l = SheetReading l.sheet l.lines l.said l.at l.i
