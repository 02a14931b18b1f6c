-- What the walk of a whole journal leaves behind for its sheets: the table of trades and the table of lines, and nothing else.
use Rattle.std.specs.Prelude.{◌≡◌, List, ℕ, ◌<◌, get_or, length}
use Rattle.rules.specs.Limits.{most_satisfaction_orders}
use Rattle.rules.specs.Journal.{Journal}
use Rattle.rules.specs.Due.{lines}
use Rattle.rules.specs.OwnSheet.{own_fill}
use Rattle.rules.specs.GoodSheet as sheet
use Rattle.rules.proofs.Journals.{Arrived}
use Rattle.trades.specs.Trades.{Traded}
use Rattle.claims.specs.Lines.{Lined, Filing}

-- the tables of trades and of claims of an accepted journal with so many trades and so many Satisfaction Orders
pub record Books (j : Journal) (trades claims : List ℕ) (many_trades lines : ℕ) : Type 0 where
  pub snaps : List ℕ
  pub traded : Traded j.header j.history trades snaps many_trades
  pub lined : Lined j.header j.history claims lines
  pub filing : Filing claims lines
  pub arrived : Arrived j.header j.history

-- what our own sheet fills on each line
pub record OwnFilled (j : Journal) (fills : List ℕ) : Type 0 where
  pub fill_of : (i : ℕ) → i < length (lines j) → get_or fills i 0 ≡ own_fill j (sheet.line_at (lines j) i)
  pub long : length fills ≡ most_satisfaction_orders
