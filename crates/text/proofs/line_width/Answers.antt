use Rattle.text.proofs.Lines.{takes_laws}
use Rattle.std.proofs.Common.{rules}
use Rattle.text.proofs.line_width.Goals as goal

pub returns : goal.returns
returns c = search (takes_laws, rules)
