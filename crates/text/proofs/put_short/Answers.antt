use Rattle.text.proofs.Decimal.{short_laws}
use Rattle.std.proofs.Common.{rules}
use Rattle.text.proofs.put_short.Goals as goal

pub bounds-out-at : goal.bounds-out-at
bounds-out-at c = search (short_laws, rules)

pub returns-then-x-lt10 : goal.returns-then-x-lt10
returns-then-x-lt10 c = search (short_laws, rules)

pub put_pair-requires : goal.put_pair-requires
put_pair-requires c = search (short_laws, rules)

pub returns : goal.returns
returns c = search (short_laws, rules)
