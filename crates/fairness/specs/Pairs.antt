-- The steps of the share rule over the lines in memory: their sum, one pair of them, and the pairs passed.
use Rattle.std.specs.Prelude.{◌≡◌, Bool, true, not, List, ℕ, ◌*◌, ◌<◌, ◌≤◌, length, take}
use Rattle.rules.specs.Basics.{sum}
use Rattle.rules.specs.Due.{Share, fair}
use Rattle.fairness.specs.Lines.{fills_in, Gathered, share_at}
use Rattle.fairness.specs.declared.Portion.{Portion}

pub record Summing (portions : List Portion) (i sum_so_far : ℕ) : Type 0 where
  pub is : sum_so_far ≡ sum (take i (fills_in portions))
  pub small : sum_so_far ≤ i * 4294967295
  pub low : i ≤ length portions

pub record Breaks (portion other : Portion) (broken : Bool) : Type 0 where
  pub is : (a b : Share) → a.filled ≡ portion.filled → a.line.claim ≡ portion.claim → a.line.customers ≡ portion.customers
      → b.filled ≡ other.filled → b.line.customers ≡ other.customers → broken ≡ not (fair a b)

-- the lines below i are fair to every line, line i to the lines below j
pub record FairSoFar (portions : List Portion) (i j : ℕ) (kept : Bool) : Type 0 where
  pub still : kept ≡ true
  pub lines : (ss : List Share) → Gathered ss portions → (a b : ℕ) → a < i → b < length portions → fair (share_at ss a) (share_at ss b) ≡ true
  pub line : (ss : List Share) → Gathered ss portions → (b : ℕ) → b < j → fair (share_at ss i) (share_at ss b) ≡ true
  pub low : i ≤ length portions
  pub others_low : j ≤ length portions
