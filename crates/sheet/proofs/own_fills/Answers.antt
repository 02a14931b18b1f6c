use Rattle.sheet.proofs.OwnFills.{fill_laws}
use Rattle.std.proofs.Common.{rules}
use Rattle.sheet.proofs.own_fills.Goals as goal

pub loop-m-preserved : goal.loop-m-preserved
loop-m-preserved c = search (fill_laws, rules)

pub returns : goal.returns
returns c = search (fill_laws, rules)
