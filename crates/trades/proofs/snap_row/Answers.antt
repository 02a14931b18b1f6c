use Rattle.trades.proofs.Snaps.{snap_laws}
use Rattle.std.proofs.Common.{rules}
use Rattle.trades.proofs.snap_row.Goals as goal

pub returns : goal.returns
returns c = search (snap_laws, rules)
