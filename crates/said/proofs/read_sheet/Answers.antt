use Rattle.said.proofs.Reading.{sheet_read_laws}
use Rattle.std.proofs.Common.{rules}
use Rattle.said.proofs.read_sheet.Goals as goal

pub returns-then-reach-lines : goal.returns-then-reach-lines
returns-then-reach-lines c = search (sheet_read_laws, rules)

pub returns : goal.returns
returns c = search (sheet_read_laws, rules)
