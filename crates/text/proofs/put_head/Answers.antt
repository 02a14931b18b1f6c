use Rattle.text.proofs.Lines.{head_laws}
use Rattle.std.proofs.Common.{rules}
use Rattle.text.proofs.put_head.Goals as goal

pub put_decimal-p-requires : goal.put_decimal-p-requires
put_decimal-p-requires c = search (head_laws, rules)

pub bounds-out-p : goal.bounds-out-p
bounds-out-p c = search (head_laws, rules)

pub bounds-out-p-2 : goal.bounds-out-p-2
bounds-out-p-2 c = search (head_laws, rules)

pub returns : goal.returns
returns c = search (head_laws, rules)
