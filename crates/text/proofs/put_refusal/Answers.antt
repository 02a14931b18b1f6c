use Rattle.text.proofs.Lines.{part_laws}
use Rattle.std.proofs.Common.{rules}
use Rattle.text.proofs.put_refusal.Goals as goal

pub put_refused-p-requires : goal.put_refused-p-requires
put_refused-p-requires c = search (part_laws, rules)

pub put_place-requires : goal.put_place-requires
put_place-requires c = search (part_laws, rules)

pub returns : goal.returns
returns c = search (part_laws, rules)
