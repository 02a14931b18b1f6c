use Rattle.text.proofs.Lines.{part_laws}
use Rattle.std.proofs.Common.{rules}
use Rattle.text.proofs.put_refused.Goals as goal

pub put_text-p-requires : goal.put_text-p-requires
put_text-p-requires c = search (part_laws, rules)

pub put_decimal-requires : goal.put_decimal-requires
put_decimal-requires c = search (part_laws, rules)

pub returns : goal.returns
returns c = search (part_laws, rules)
