-- What is kept of a trade, so that its later Satisfaction Orders can be judged: "Prices, customer contracts and statuses are
-- those at the trade." A row of eight words for each trade, and one for each trade and exchange.
use Rattle.std.specs.Prelude.{◌≡◌, Bool, false, not, ◌&&◌, List, [], ◌∷◌, ℕ, ◌+◌, ◌*◌, ◌<◌, ◌≤◌, min, get_or, length, if◌then◌else◌, ◌==◌}
use Rattle.rules.specs.Basics.{◌more_than◌, any, keep, bit}
use Rattle.rules.specs.Limits.{most_exchanges, most_trades, last_time}
use Rattle.rules.specs.Header.{Header}
use Rattle.rules.specs.Record.{buy, sell, Event, Trade, trade, is_trade, trade_kind}
use Rattle.rules.specs.Journal.{History, count, trade_at, before_trade, closing_begun}
use Rattle.rules.specs.Prices.{standing, status_of, up_to}
use Rattle.rules.specs.Verdicts.{the_bid, neither, through, side_through, is_block}
use Rattle.rules.specs.Reasons.{report}
use Rattle.rules.specs.Due.{customer_firm_size, capped}
use Rattle.rows.specs.Rows.{Reads, TradeOk}
use Rattle.rows.specs.declared.Rec.{Rec}
use Rattle.quotes.specs.Tables.{Quoted, Statuses}
use Rattle.orders.specs.Orders.{Heads}
use Rattle.excuses.specs.Excuses.{excuser_of, Excused}

-- ---- what is kept of exchange y + 1 at a trade in a series, at this price and time: the side traded through, the price and the
-- customer contracts there, its status, which sent order excuses home, the series

unfoldable pub price_on : ℕ → ℕ → ℕ → ℕ
price_on side bid offer = if side == the_bid then bid else offer

unfoldable pub customers_on : ℕ → ℕ → ℕ → ℕ
customers_on side bids offers = if side == neither then 0 else if side == the_bid then bids else offers

-- "sell for a bid, buy for an offer"
unfoldable pub excusing_side : ℕ → ℕ
excusing_side side = if side == the_bid then sell else buy

-- one above the number of the sent order that excuses, 0 where none does; asked of an exchange traded through alone
unfoldable pub excuser_at : ℕ → ℕ → ℕ → ℕ → History → ℕ
excuser_at side exchange series now past = if side == neither then 0 else excuser_of exchange series (excusing_side side) now past

unfoldable pub snap : History → ℕ → ℕ → ℕ → ℕ → List ℕ
snap past y series price now =
    let quote = standing (y + 1) series past in
    let side = through quote price in
    side ∷ price_on side quote.bid quote.offer ∷ customers_on side quote.bid_customers quote.offer_customers
    ∷ status_of (y + 1) past ∷ excuser_at side (y + 1) series now past ∷ series ∷ []

-- how many words a snapshot has
abbrev pub snap_words : ℕ
snap_words = 6

abbrev pub snap_at : Event → History → ℕ → List ℕ
snap_at e before y = snap before y (trade e).series (trade e).price e.time

-- ---- what is kept of the trade itself: price, size, whether it is a block, complex, initiator, report, whether its due total is
-- capped, whether the closing window had begun

unfoldable pub trade_row : Header → Event → History → List ℕ
trade_row h e before =
    (trade e).price ∷ (trade e).size ∷ bit (is_block h before (trade e)) ∷ (trade e).complex ∷ (trade e).initiator
    ∷ report e ∷ bit (capped h before (trade e)) ∷ bit (closing_begun before) ∷ []

-- ---- the tables' sizes

abbrev pub trade_words : ℕ
trade_words = most_trades * 8

abbrev pub shown_words : ℕ
shown_words = most_trades * most_exchanges * 8

-- ---- the tables beside the history

pub record Traded (h : Header) (past : History) (trades shown : List ℕ) (traded : ℕ) : Type 0 where
  pub numbered : traded ≡ count is_trade past
  pub rows : (m i : ℕ) → m < traded → i < 8 → get_or trades (m * 8 + i) 0 ≡ get_or (trade_row h (trade_at m past) (before_trade m past)) i 0
  pub snaps : (m y i : ℕ) → m < traded → y < h.exchanges → i < snap_words
      → get_or shown ((m * most_exchanges + y) * 8 + i) 0 ≡ get_or (snap_at (trade_at m past) (before_trade m past) y) i 0

-- ---- the cap

-- among the first i exchanges
unfoldable pub capped_to : Header → History → Trade → ℕ → Bool
capped_to h before t i =
    any (λ exchange. t.size more_than customer_firm_size h exchange)
    (keep (λ exchange. not (side_through before t exchange == neither)) (keep (λ exchange. not (exchange == h.home)) (up_to i)))

-- an exchange, traded through at this side, caps a trade of this size
unfoldable pub caps : ℕ → ℕ → ℕ → ℕ → ℕ → ℕ → Bool
caps exchange home side size ours theirs = not (exchange == home) && not (side == neither) && size more_than min ours theirs

-- ---- contracts

pub record ExcuseIs (orders : List ℕ) (sent side exchange series now r : ℕ) : Type 0 where
  pub so : (past : History) → Excused past orders sent → r ≡ excuser_at side exchange series now past

pub record Snapped (quotes statuses orders : List ℕ) (sent y series price now : ℕ) (row : List ℕ) : Type 0 where
  pub is : (past : History) → Quoted past quotes → Statuses past statuses → Excused past orders sent
      → (i : ℕ) → i < snap_words → get_or row i 0 ≡ get_or (snap past y series price now) i 0

-- the first k exchanges are kept for trade n; every other row is as it was
pub record Snaps (quotes statuses orders : List ℕ) (sent n series price now : ℕ) (before after : List ℕ) (k : ℕ) : Type 0 where
  pub here : (past : History) → Quoted past quotes → Statuses past statuses → Excused past orders sent
      → (y i : ℕ) → y < k → i < snap_words → get_or after ((n * most_exchanges + y) * 8 + i) 0 ≡ get_or (snap past y series price now) i 0
  pub others : (m y i : ℕ) → y < most_exchanges → i < 8 → (m ≡ n → ⊥) → get_or after ((m * most_exchanges + y) * 8 + i) 0 ≡ get_or before ((m * most_exchanges + y) * 8 + i) 0
  pub long : length after ≡ length before

pub record Snapping (quotes statuses orders : List ℕ) (sent n series price now : ℕ) (before after : List ℕ) (exchanges k : ℕ) : Type 0 where
  pub snaps : Snaps quotes statuses orders sent n series price now before after k
  pub low : k ≤ exchanges

-- the sides kept for trade n are those of this trade
pub record SidesAre (h : Header) (before : History) (t : Trade) (shown : List ℕ) (n : ℕ) : Type 0 where
  pub side : (y : ℕ) → y < h.exchanges → get_or shown ((n * most_exchanges + y) * 8 + 0) 0 ≡ side_through before t (y + 1)

pub record CapIs (shown : List ℕ) (n home exchanges : ℕ) (sizes : List ℕ) (size : ℕ) (r : Bool) : Type 0 where
  pub so : (h : Header) (before : History) (t : Trade) → Heads h exchanges home sizes → SidesAre h before t shown n
      → t.size ≡ size → r ≡ capped h before t

pub record NoCap (shown : List ℕ) (n home exchanges : ℕ) (sizes : List ℕ) (size i : ℕ) : Type 0 where
  pub so : (h : Header) (before : History) (t : Trade) → Heads h exchanges home sizes → SidesAre h before t shown n
      → t.size ≡ size → capped_to h before t i ≡ false
  pub low : i ≤ exchanges

-- a record that has its place in the tables, if it is a trade
pub record FitsTrades (r : Rec) (traded : ℕ) : Type 0 where
  pub time : r.time ≤ last_time
  pub trade : r.kind ≡ trade_kind → TradeOk most_exchanges r
  pub room : r.kind ≡ trade_kind → traded < most_trades

-- a record of any kind
pub record TradesStep (r : Rec) (home exchanges : ℕ) (sizes : List ℕ) (block closing : Bool) (quotes statuses orders : List ℕ) (sent : ℕ)
    (trades shown : List ℕ) (traded : ℕ) (trades2 shown2 : List ℕ) (traded2 : ℕ) : Type 0 where
  pub so : (h : Header) (e : Event) (past : History) → Heads h exchanges home sizes → Reads e r
      → (e.kind ≡ trade_kind → block ≡ is_block h past (trade e)) → closing ≡ closing_begun past → Quoted past quotes → Statuses past statuses → Excused past orders sent
      → Traded h past trades shown traded → Traded h (e ∷ past) trades2 shown2 traded2
  pub few : traded2 ≤ most_trades
