use Rattle.sharing.proofs.Shares.{give_laws}
use Rattle.std.proofs.Common.{rules}
use Rattle.sharing.proofs.give_in_turn.Goals as goal

pub loop-init : goal.loop-init
loop-init c = search (give_laws, rules)

pub returns-in_default : goal.returns-in_default
returns-in_default c = search (give_laws, rules)

pub loop-preserved : goal.loop-preserved
loop-preserved c = search (give_laws, rules)
