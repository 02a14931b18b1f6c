use Rattle.sheet.specs.Tables.{Scattering}
use Rattle.sheet.proofs.scatter.Given as goal

abbrev pub invariant-loop-i : goal.invariant-loop-i
invariant-loop-i l = Scattering l.claims l.m l.portions l.initial.fills l.fills l.i
