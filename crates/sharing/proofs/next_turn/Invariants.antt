use Rattle.sharing.specs.Turns.{Scanning}
use Rattle.sharing.proofs.next_turn.Given as goal

abbrev pub invariant-loop-i : goal.invariant-loop-i
invariant-loop-i l = Scanning l.portions l.i l.best
