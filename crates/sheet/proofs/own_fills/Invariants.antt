use Rattle.sheet.specs.Tables.{Filling}
use Rattle.sheet.proofs.own_fills.Given as goal

abbrev pub invariant-loop-m : goal.invariant-loop-m
invariant-loop-m l = Filling l.claims l.trades l.traded l.lines l.initial.fills l.fills l.m
