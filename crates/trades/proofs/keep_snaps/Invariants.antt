use Rattle.trades.specs.Trades.{Snapping}
use Rattle.trades.proofs.keep_snaps.Given as goal

abbrev pub invariant-loop-y : goal.invariant-loop-y
invariant-loop-y l = Snapping l.quotes l.statuses l.orders l.sent l.n l.series l.price l.time l.initial.shown l.shown l.exchanges l.y
