-- All tables at once: what they say of a history, and what a record of any kind does to them.
use Rattle.std.specs.Prelude.{◌≡◌, Bool, List, ◌∷◌, ℕ, ◌≤◌}
use Rattle.rules.specs.Limits.{most_trades}
use Rattle.rules.specs.Header.{Header}
use Rattle.rules.specs.Record.{Event}
use Rattle.rules.specs.Journal.{History, closing_begun}
use Rattle.rules.proofs.Journals.{Arrived}
use Rattle.rows.specs.Rows.{Reads}
use Rattle.rows.specs.declared.Rec.{Rec}
use Rattle.quotes.specs.Tables as quotes
use Rattle.orders.specs.Orders.{Heads}
use Rattle.through.specs.Trades.{BlockFound}
use Rattle.excuses.specs.Excuses as excuses
use Rattle.trades.specs.Trades as trades
use Rattle.claims.specs.Lines as claims
use Rattle.rows.specs.declared.Seat.{Seat}
use Rattle.counted.specs.declared.Counts.{Counts}

-- a day's tables, each as its words
pub record Tables : Type 0 where
  pub quotes : List ℕ
  pub statuses : List ℕ
  pub orders : List ℕ
  pub chains : List ℕ
  pub trades : List ℕ
  pub shown : List ℕ
  pub claims : List ℕ

abbrev pub tables : List ℕ → List ℕ → List ℕ → List ℕ → List ℕ → List ℕ → List ℕ → Tables
tables quotes statuses orders chains trades shown claims =
    record { quotes = quotes; statuses = statuses; orders = orders; chains = chains; trades = trades; shown = shown; claims = claims }

-- so many sent orders, trades and Satisfaction Orders there are, and each table has what the history says
pub record Holds (h : Header) (past : History) (t : Tables) (many_orders many_trades many_lines : ℕ) : Type 0 where
  pub quoted : quotes.Quoted past t.quotes
  pub statuses : quotes.Statuses past t.statuses
  pub excused : excuses.Excused past t.orders many_orders
  pub traded : trades.Traded h past t.trades t.shown many_trades
  pub lined : claims.Lined h past t.claims many_lines

-- what holds of the tables alone
pub record Orderly (t : Tables) (sent traded lines : ℕ) : Type 0 where
  pub chains : excuses.Chains t.orders t.chains sent
  pub filing : claims.Filing t.claims lines
  pub few : traded ≤ most_trades

-- a record that has its place in each table
pub record FitsTables (r : Rec) (claimed : List ℕ) (exchanges sent traded lines : ℕ) : Type 0 where
  pub quote : quotes.FitsQuotes r
  pub order : excuses.FitsOrders r sent
  pub trade : trades.FitsTrades r traded
  pub claim : claims.FitsClaims r claimed traded exchanges lines

-- a record of any kind; how many of each there are after it the history tells
pub record TablesStep (r : Rec) (seat : Seat) (sizes : List ℕ) (before : Tables) (counts : Counts) (after : Tables) (block : Bool) : Type 0 where
  pub sent : ℕ
  pub traded : ℕ
  pub lines : ℕ
  pub orderly : Orderly after sent traded lines
  pub found : BlockFound before.quotes seat.exchanges r block
  pub so : (h : Header) (e : Event) (past : History) → Arrived h past → Heads h seat.exchanges seat.home sizes → h.close ≡ seat.close → Reads e r
      → counts.closing ≡ closing_begun past
      → Holds h past before counts.orders counts.trades counts.satisfactions → Holds h (e ∷ past) after sent traded lines
