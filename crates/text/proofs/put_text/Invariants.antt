use Rattle.text.proofs.Lent.{Copied}
use Rattle.text.proofs.put_text.Given as goal

abbrev pub invariant-loop-i : goal.invariant-loop-i
invariant-loop-i l = Copied l.initial.out l.text l.at l.out l.i
