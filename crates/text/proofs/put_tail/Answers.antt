use Rattle.text.proofs.Lines.{tail_laws}
use Rattle.std.proofs.Common.{rules}
use Rattle.text.proofs.put_tail.Goals as goal

pub put_field-after_a-requires : goal.put_field-after_a-requires
put_field-after_a-requires c = search (tail_laws, rules)

pub put_field-after_b-requires : goal.put_field-after_b-requires
put_field-after_b-requires c = search (tail_laws, rules)

pub put_field-after_c-requires : goal.put_field-after_c-requires
put_field-after_c-requires c = search (tail_laws, rules)

pub bounds-out-after_c : goal.bounds-out-after_c
bounds-out-after_c c = search (tail_laws, rules)

pub returns : goal.returns
returns c = search (tail_laws, rules)
