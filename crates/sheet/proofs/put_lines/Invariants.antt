use Rattle.sheet.specs.Written.{Putting}
use Rattle.sheet.proofs.put_lines.Given as goal

abbrev pub invariant-loop-i : goal.invariant-loop-i
invariant-loop-i l = Putting l.initial.out l.claims l.fills l.lines l.out l.at l.i
