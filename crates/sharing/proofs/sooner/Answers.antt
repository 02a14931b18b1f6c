use Rattle.sharing.proofs.Turns.{sooner_laws}
use Rattle.std.proofs.Common.{rules}
use Rattle.sharing.proofs.sooner.Goals as goal

pub returns-then-portion : goal.returns-then-portion
returns-then-portion c = search (sooner_laws, rules)

pub returns-then-from : goal.returns-then-from
returns-then-from c = search (sooner_laws, rules)

pub returns : goal.returns
returns c = search (sooner_laws, rules)
