use native.Mathlib.Omega.{arith}
use Rattle.prices.proofs.BestPrices.{best_more, best_all}
use Rattle.prices.proofs.best.Goals as goal

pub loop-y-preserved : goal.loop-y-preserved
loop-y-preserved g c = best_more _ _ _ _ _ _ c.loop-y.invariant _ c.place.ensures _ c.better-best.ensures

pub returns : goal.returns
returns g c = best_all _ _ _ _ _ _ c.loop-y.invariant _ (omega arith) (omega arith)
