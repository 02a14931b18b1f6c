-- Trades: what is promised of every history that the table of quotes holds.
use Rattle.std.specs.Prelude.{◌≡◌, Bool, not, ◌&&◌, List, [], ℕ, ◌+◌, ◌*◌, ◌≤◌, length, get_or, ◌==◌}
use Rattle.rules.specs.Basics.{◌at_least◌, within, ◌when◌, ◌¦◌, first_of}
use Rattle.rules.specs.Limits.{most_exchanges}
use Rattle.rules.specs.Header.{Header}
use Rattle.rules.specs.Record as paper
use Rattle.rules.specs.Journal.{History}
use Rattle.rules.specs.Prices.{◌is_above◌, ◌is_below◌}
use Rattle.rules.specs.Verdicts.{the_bid, the_offer, neither, throughs, is_block}
use Rattle.rows.specs.Rows.{word, Reads, TradeOk}
use Rattle.rows.specs.declared.Rec.{Rec}
use Rattle.quotes.specs.Tables.{many_series, Quoted}
use Rattle.through.specs.declared.Trade.{Trade}

pub record TradeIs (r : Rec) (trade : Trade) : Type 0 where
  pub series : trade.series ≡ word r 0
  pub price : trade.price ≡ word r 1
  pub size : trade.size ≡ word r 2
  pub form : trade.form ≡ word r 3

-- the paper's trade has these numbers
pub record SameTrade (trade : Trade) (k : paper.Trade) : Type 0 where
  pub series : k.series ≡ trade.series
  pub price : k.price ≡ trade.price
  pub size : k.size ≡ trade.size
  pub form : k.form ≡ trade.form

-- ---- the paper's words by names that stay shut

-- the side of a quote, of which these are the prices, that a price trades through
unfoldable pub through_of : ℕ → ℕ → ℕ → ℕ
through_of bid offer price = first_of (the_bid when bid is_above price ¦ the_offer when offer is_below price ¦ [])

-- whether the exchange of row y is one other than home that is traded through
abbrev pub through_in : List ℕ → ℕ → Trade → ℕ → Bool
through_in quotes home trade y =
    let k = (y * many_series + trade.series) * 8 in
    not (y + 1 == home) && not (through_of (get_or quotes (k + 2) 0) (get_or quotes (k + 5) 0) trade.price == neither)

unfoldable pub form_of : ℕ → Bool
form_of form = within paper.cross_form paper.other_form form

-- what makes a block of a trade, but for its price against the best
abbrev pub large_of : Trade → Bool
large_of trade = trade.size at_least 500 && trade.price * trade.size at_least 150_000 && form_of trade.form

-- ---- the answers

pub record CountIs (quotes : List ℕ) (exchanges home : ℕ) (trade : Trade) (r : ℕ) : Type 0 where
  pub so : (h : Header) (past : History) (k : paper.Trade) → h.exchanges ≡ exchanges → h.home ≡ home → SameTrade trade k → Quoted past quotes
      → r ≡ length (throughs h past k)
  pub few : r ≤ exchanges

pub record BlockIs (quotes : List ℕ) (exchanges : ℕ) (trade : Trade) (r : Bool) : Type 0 where
  pub so : (h : Header) (past : History) (k : paper.Trade) → h.exchanges ≡ exchanges → SameTrade trade k → Quoted past quotes → r ≡ is_block h past k

-- ---- a record of any kind

-- a record that has its place in the tables, if it is a trade
pub record TradePlaced (r : Rec) : Type 0 where
  pub trade : r.kind ≡ paper.trade_kind → TradeOk most_exchanges r

pub record BlockFound (quotes : List ℕ) (exchanges : ℕ) (r : Rec) (b : Bool) : Type 0 where
  pub so : (h : Header) (e : paper.Event) (past : History) → h.exchanges ≡ exchanges → Reads e r → Quoted past quotes → e.kind ≡ paper.trade_kind
      → b ≡ is_block h past (paper.trade e)
