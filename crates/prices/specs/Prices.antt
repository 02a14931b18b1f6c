-- The paper's tests of prices by names that stay shut, so that a proof's search finds their arguments, and the best prices.
use Rattle.std.specs.Prelude.{◌≡◌, Bool, List, [], ◌∷◌, ◌++◌, get_or, ℕ, zero, suc, ◌+◌, ◌-◌, ◌*◌, ◌≤◌}
use Rattle.std.specs.List.{FoldsTo}
use Rattle.rules.specs.Header.{Header}
use Rattle.rules.specs.Record.{Quote}
use Rattle.rules.specs.Journal.{History}
use Rattle.rules.specs.Prices.{◌is_above◌, ◌equals◌, lower, best_bid, best_offer}
use Rattle.quotes.specs.Tables.{many_series, quote_words, Quoted}

unfoldable pub above_of : ℕ → ℕ → Bool
above_of a b = a is_above b

unfoldable pub equal_of : ℕ → ℕ → Bool
equal_of a b = a equals b

unfoldable pub lower_of : ℕ → ℕ → ℕ
lower_of a b = lower a b

unfoldable pub bid_of : Quote → ℕ
bid_of k = k.bid

unfoldable pub offer_of : Quote → ℕ
offer_of k = k.offer

-- where the row of exchange y + 1 in a series begins
pub record PlaceIs (y series k : ℕ) : Type 0 where
  pub is : k ≡ (y * many_series + series) * 8
  pub small : k ≤ quote_words - 8

-- the numbers at one place of the rows of the first exchanges in a series
abbrev pub words_of : List ℕ → ℕ → ℕ → ℕ → List ℕ
words_of quotes series word zero = []
words_of quotes series word (suc y) = words_of quotes series word y ++ (get_or quotes ((y * many_series + series) * 8 + word) 0 ∷ [])

-- the best of them, from 0 on: each was set against the best of those before it by a step of `better`
pub record BestOf (better : ℕ → ℕ → ℕ → Type 0) (quotes : List ℕ) (series word n r : ℕ) : Type 0 where
  pub folds : FoldsTo better 0 (words_of quotes series word n) r

-- ---- the answers, of every history that the table holds

pub record BidIs (quotes : List ℕ) (exchanges series r : ℕ) : Type 0 where
  pub so : (h : Header) (past : History) → h.exchanges ≡ exchanges → Quoted past quotes → r ≡ best_bid h series past

pub record OfferIs (quotes : List ℕ) (exchanges series r : ℕ) : Type 0 where
  pub so : (h : Header) (past : History) → h.exchanges ≡ exchanges → Quoted past quotes → r ≡ best_offer h series past
