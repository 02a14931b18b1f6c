use Prim.Native.Nat.{ℕ}
use Rattle.home.specs.Home.{Tests}
use Rattle.home.proofs.HomeQuotes.{Passed}
use Rattle.home.proofs.lowest_named.Given as goal

abbrev pub invariant-loop-y : goal.invariant-loop-y
invariant-loop-y g l = (kind : ℕ) → Tests (λ a b r. goal.T-post g l.test a b r) kind → Passed l.quotes l.exchanges l.home kind l.quote l.y
