use Rattle.fairness.specs.Pairs.{FairSoFar}
use Rattle.fairness.proofs.keeps_rule.Given as goal

abbrev pub invariant-loop-j : goal.invariant-loop-j
invariant-loop-j l = FairSoFar l.portions l.i l.j l.kept

abbrev pub invariant-lines : goal.invariant-lines
invariant-lines l = FairSoFar l.portions l.i 0 l.kept
