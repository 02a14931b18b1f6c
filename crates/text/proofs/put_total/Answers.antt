use Rattle.text.proofs.Decimal.{hundreds_laws}
use Rattle.std.proofs.Common.{rules}
use Rattle.text.proofs.put_total.Goals as goal

pub put_short-p-requires : goal.put_short-p-requires
put_short-p-requires c = search (hundreds_laws, rules)

pub put_pair-requires : goal.put_pair-requires
put_pair-requires c = search (hundreds_laws, rules)

pub returns-then-x-lt10000 : goal.returns-then-x-lt10000
returns-then-x-lt10000 c = search (hundreds_laws, rules)
