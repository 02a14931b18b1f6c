use Rattle.sharing.proofs.Shares.{scan_laws}
use Rattle.std.proofs.Common.{rules}
use Rattle.sharing.proofs.next_turn.Goals as goal

pub loop-i-init : goal.loop-i-init
loop-i-init c = search (scan_laws, rules)

pub loop-i-preserved : goal.loop-i-preserved
loop-i-preserved c = search (scan_laws, rules)

pub returns-then-best-portions : goal.returns-then-best-portions
returns-then-best-portions c = search (scan_laws, rules)

pub returns-else-best-portions : goal.returns-else-best-portions
returns-else-best-portions c = search (scan_laws, rules)
