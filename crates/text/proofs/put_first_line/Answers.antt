use Rattle.text.proofs.Lines.{first_line_laws}
use Rattle.std.proofs.Common.{rules}
use Rattle.text.proofs.put_first_line.Goals as goal

pub put_text-requires : goal.put_text-requires
put_text-requires c = search (first_line_laws, rules)

pub returns : goal.returns
returns c = search (first_line_laws, rules)
