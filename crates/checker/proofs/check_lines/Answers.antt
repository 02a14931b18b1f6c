use Rattle.checker.proofs.Lines.{lines_laws}
use Rattle.std.proofs.Common.{rules}
use Rattle.checker.proofs.check_lines.Goals as goal

pub loop-i-init : goal.loop-i-init
loop-i-init c = search (lines_laws, rules)

pub returns-in_err-check_line : goal.returns-in_err-check_line
returns-in_err-check_line c = search (lines_laws, rules)

pub loop-i-preserved : goal.loop-i-preserved
loop-i-preserved c = search (lines_laws, rules)

pub returns : goal.returns
returns c = search (lines_laws, rules)
