use Rattle.sheet.proofs.Written.{width_laws}
use Rattle.std.proofs.Common.{rules}
use Rattle.sheet.proofs.sheet_width.Goals as goal

pub loop-i-init : goal.loop-i-init
loop-i-init c = search (width_laws, rules)

pub loop-i-preserved : goal.loop-i-preserved
loop-i-preserved c = search (width_laws, rules)
