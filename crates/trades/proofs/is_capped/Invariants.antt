use Rattle.trades.specs.Trades.{NoCap}
use Rattle.trades.proofs.is_capped.Given as goal

abbrev pub invariant-loop-y : goal.invariant-loop-y
invariant-loop-y l = NoCap l.shown l.n l.home l.exchanges l.sizes l.size l.y
