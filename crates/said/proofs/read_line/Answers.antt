use Rattle.said.proofs.Reading.{line_read_laws}
use Rattle.std.proofs.Common.{rules}
use Rattle.said.proofs.read_line.Goals as goal

pub returns-in_default : goal.returns-in_default
returns-in_default c = search (line_read_laws, rules)

pub returns-in_default-read_at : goal.returns-in_default-read_at
returns-in_default-read_at c = search (line_read_laws, rules)

pub returns-in_default-read_at-2 : goal.returns-in_default-read_at-2
returns-in_default-read_at-2 c = search (line_read_laws, rules)

pub returns : goal.returns
returns c = search (line_read_laws, rules)
