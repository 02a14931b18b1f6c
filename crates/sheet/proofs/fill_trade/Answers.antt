use Rattle.sheet.proofs.OwnFills.{fill_laws}
use Rattle.std.proofs.Common.{rules}
use Rattle.sheet.proofs.fill_trade.Goals as goal

pub returns : goal.returns
returns c = search (fill_laws, rules)
