use Rattle.sharing.specs.Turns.{emptied, Made}
use Rattle.sharing.proofs.empty.Given as goal

abbrev pub invariant-loop-portion : goal.invariant-loop-portion
invariant-loop-portion l = Made emptied l.initial.portions l.portion-index l.portions
