use Rattle.sheet.specs.Written.{Summing}
use Rattle.sheet.proofs.sheet_width.Given as goal

abbrev pub invariant-loop-i : goal.invariant-loop-i
invariant-loop-i l = Summing l.claims l.fills l.lines l.sum l.i
