use Rattle.checker.proofs.Trades.{trade_laws}
use Rattle.std.proofs.Common.{rules}
use Rattle.checker.proofs.check_trade.Goals as goal

pub returns-then-filled-due : goal.returns-then-filled-due
returns-then-filled-due c = search (trade_laws, rules)

pub returns-then-not-keeps_rule : goal.returns-then-not-keeps_rule
returns-then-not-keeps_rule c = search (trade_laws, rules)

pub returns : goal.returns
returns c = search (trade_laws, rules)
