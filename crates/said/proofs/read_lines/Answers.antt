use Rattle.said.proofs.Reading.{lines_read_laws}
use Rattle.std.proofs.Common.{rules}
use Rattle.said.proofs.read_lines.Goals as goal

pub loop-i-init : goal.loop-i-init
loop-i-init c = search (lines_read_laws, rules)

pub returns-in-Err : goal.returns-in-Err
returns-in-Err c = search (lines_read_laws, rules)

pub loop-i-preserved : goal.loop-i-preserved
loop-i-preserved c = search (lines_read_laws, rules)
