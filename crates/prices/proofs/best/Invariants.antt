use Rattle.prices.specs.Prices.{BestOf}
use Rattle.prices.proofs.best.Given as goal

abbrev pub invariant-loop-y : goal.invariant-loop-y
invariant-loop-y g l = BestOf (λ best price r. goal.B-post g l.better best price r) l.quotes l.series l.word l.y l.best
