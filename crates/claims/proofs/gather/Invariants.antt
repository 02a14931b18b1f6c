use Rattle.claims.specs.Lines.{Gathering}
use Rattle.claims.proofs.gather.Given as goal

abbrev pub invariant-loop-i : goal.invariant-loop-i
invariant-loop-i l = Gathering l.claims l.m l.k l.i l.portions
