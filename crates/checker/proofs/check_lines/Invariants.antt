use Rattle.checker.specs.Beside.{LinesChecking}
use Rattle.checker.proofs.check_lines.Given as goal

abbrev pub invariant-loop-i : goal.invariant-loop-i
invariant-loop-i l = LinesChecking l.claims l.said l.lines l.i
