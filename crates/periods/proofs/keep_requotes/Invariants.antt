use Rattle.periods.specs.Periods.{Marking}
use Rattle.periods.proofs.keep_requotes.Given as goal

abbrev pub invariant-loop-y : goal.invariant-loop-y
invariant-loop-y l = Marking l.initial.periods l.y l.r.row l.periods
