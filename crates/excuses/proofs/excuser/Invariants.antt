use Prim.Native.Nat.{◌+◌, ◌-◌, ◌*◌}
use Rattle.quotes.specs.Tables.{many_series}
use Rattle.excuses.specs.Excuses.{Looking}
use Rattle.excuses.proofs.excuser.Given as goal

abbrev pub invariant-loop-m : goal.invariant-loop-m
invariant-loop-m l = Looking l.orders l.sent ((l.exchange - 1) * many_series + l.series) l.side l.time l.i

abbrev pub decreases-loop-m : goal.decreases-loop-m
decreases-loop-m l = l.i
