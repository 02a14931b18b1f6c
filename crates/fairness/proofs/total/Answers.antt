use Rattle.fairness.proofs.Words.{sum_laws}
use Rattle.std.proofs.Common.{rules}
use Rattle.fairness.proofs.total.Goals as goal

pub loop-portion-init : goal.loop-portion-init
loop-portion-init c = search (sum_laws, rules)

pub overflow_add-sum : goal.overflow_add-sum
overflow_add-sum c = search (sum_laws, rules)

pub loop-portion-preserved : goal.loop-portion-preserved
loop-portion-preserved c = search (sum_laws, rules)

pub returns : goal.returns
returns c = search (sum_laws, rules)
