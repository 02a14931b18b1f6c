use Rattle.excuses.specs.Excuses.{Sweeping}
use Rattle.excuses.proofs.quoted.Given as goal

abbrev pub invariant-loop-m : goal.invariant-loop-m
invariant-loop-m l = Sweeping l.initial.orders l.orders l.chains l.sent l.initial.last l.bid l.offer l.last l.i

abbrev pub decreases-loop-m : goal.decreases-loop-m
decreases-loop-m l = l.i
