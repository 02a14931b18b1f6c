use Rattle.fairness.specs.Pairs.{Summing}
use Rattle.fairness.proofs.total.Given as goal

abbrev pub invariant-loop-portion : goal.invariant-loop-portion
invariant-loop-portion l = Summing l.portions l.portion-index l.sum
