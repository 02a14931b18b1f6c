use Rattle.trades.proofs.Cap.{cap_laws}
use Rattle.std.proofs.Common.{rules}
use Rattle.trades.proofs.is_capped.Goals as goal

pub loop-y-init : goal.loop-y-init
loop-y-init c = search (cap_laws, rules)

pub returns-then-caps_trade : goal.returns-then-caps_trade
returns-then-caps_trade c = search (cap_laws, rules)

pub loop-y-preserved : goal.loop-y-preserved
loop-y-preserved c = search (cap_laws, rules)

pub returns : goal.returns
returns c = search (cap_laws, rules)
