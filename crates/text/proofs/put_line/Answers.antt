use Rattle.text.proofs.Lines.{part_laws}
use Rattle.std.proofs.Common.{rules}
use Rattle.text.proofs.put_line.Goals as goal

pub put_head-p-requires : goal.put_head-p-requires
put_head-p-requires c = search (part_laws, rules)

pub put_tail-requires : goal.put_tail-requires
put_tail-requires c = search (part_laws, rules)

pub returns : goal.returns
returns c = search (part_laws, rules)
