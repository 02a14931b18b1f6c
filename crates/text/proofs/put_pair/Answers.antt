use Rattle.text.proofs.Decimal.{pair_laws}
use Rattle.std.proofs.Common.{rules}
use Rattle.text.proofs.put_pair.Goals as goal

pub bounds-out-at : goal.bounds-out-at
bounds-out-at c = search (pair_laws, rules)

pub bounds-out-at-2 : goal.bounds-out-at-2
bounds-out-at-2 c = search (pair_laws, rules)

pub returns : goal.returns
returns c = search (pair_laws, rules)
