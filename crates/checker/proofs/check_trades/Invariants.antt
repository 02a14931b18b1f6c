use Rattle.checker.specs.Check.{TradesChecking}
use Rattle.checker.proofs.check_trades.Given as goal

abbrev pub invariant-loop-m : goal.invariant-loop-m
invariant-loop-m l = TradesChecking l.claims l.trades l.lines l.said l.traded l.m
