use Rattle.sharing.specs.Turns.{Giving}
use Rattle.sharing.proofs.give_in_turn.Given as goal

abbrev pub invariant-loop : goal.invariant-loop
invariant-loop l = Giving l.contracts l.initial.portions l.portions l.counter
