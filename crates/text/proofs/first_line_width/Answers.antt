use Rattle.text.proofs.Lines.{first_line_laws}
use Rattle.std.proofs.Common.{rules}
use Rattle.text.proofs.first_line_width.Goals as goal

pub returns : goal.returns
returns c = search (first_line_laws, rules)
