use Rattle.checker.specs.Beside.{FillsGathering}
use Rattle.checker.proofs.gather_fills.Given as goal

abbrev pub invariant-loop-i : goal.invariant-loop-i
invariant-loop-i l = FillsGathering l.claims l.said l.m l.k l.i l.initial.portions l.portions
