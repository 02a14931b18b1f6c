use Rattle.trades.proofs.Snaps.{snap_laws}
use Rattle.std.proofs.Common.{rules}
use Rattle.trades.proofs.excuse.Goals as goal

pub returns-then-side-eq-NEITHER : goal.returns-then-side-eq-NEITHER
returns-then-side-eq-NEITHER c = search (snap_laws, rules)

pub returns-in-Some : goal.returns-in-Some
returns-in-Some c = search (snap_laws, rules)

pub returns-in-None : goal.returns-in-None
returns-in-None c = search (snap_laws, rules)
