use Rattle.sharing.specs.Turns.{full, Made}
use Rattle.sharing.proofs.fill.Given as goal

abbrev pub invariant-loop-portion : goal.invariant-loop-portion
invariant-loop-portion l = Made full l.initial.portions l.portion-index l.portions
