use Rattle.checker.proofs.Fills.{fills_laws}
use Rattle.std.proofs.Common.{rules}
use Rattle.checker.proofs.gather_fills.Goals as goal

pub loop-i-init : goal.loop-i-init
loop-i-init c = search (fills_laws, rules)

pub loop-i-preserved : goal.loop-i-preserved
loop-i-preserved c = search (fills_laws, rules)
