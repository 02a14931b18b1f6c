use Rattle.claims.proofs.TradeLines.{gather_laws}
use Rattle.std.proofs.Common.{rules}
use Rattle.claims.proofs.gather.Goals as goal

pub loop-i-init : goal.loop-i-init
loop-i-init c = search (gather_laws, rules)

pub loop-i-preserved : goal.loop-i-preserved
loop-i-preserved c = search (gather_laws, rules)
