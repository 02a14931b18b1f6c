use Rattle.sheet.proofs.Written.{put_laws}
use Rattle.std.proofs.Common.{rules}
use Rattle.sheet.proofs.put_lines.Goals as goal

pub loop-i-init : goal.loop-i-init
loop-i-init c = search (put_laws, rules)

pub loop-i-preserved : goal.loop-i-preserved
loop-i-preserved c = search (put_laws, rules)
