use Rattle.text.proofs.Lines.{field_laws}
use Rattle.std.proofs.Common.{rules}
use Rattle.text.proofs.put_field.Goals as goal

pub bounds-out-at : goal.bounds-out-at
bounds-out-at c = search (field_laws, rules)

pub put_decimal-requires : goal.put_decimal-requires
put_decimal-requires c = search (field_laws, rules)

pub returns : goal.returns
returns c = search (field_laws, rules)
