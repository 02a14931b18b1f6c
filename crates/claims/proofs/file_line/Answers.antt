use Rattle.claims.proofs.Lines.{line_laws}
use Rattle.std.proofs.Common.{rules}
use Rattle.claims.proofs.file_line.Goals as goal

pub returns : goal.returns
returns c = search (line_laws, rules)
