use Rattle.sheet.proofs.Written.{write_laws}
use Rattle.std.proofs.Common.{rules}
use Rattle.sheet.proofs.write_own.Goals as goal

pub returns-then-out-sheet_width : goal.returns-then-out-sheet_width
returns-then-out-sheet_width c = search (write_laws, rules)

pub returns : goal.returns
returns c = search (write_laws, rules)
