-- What the tables of quotes and statuses say of a history, and what a record of any kind does to them.
-- The row of exchange y + 1 in a series is y * many_series + series, and holds the record's own eight fields; the word of its status is y.
use Rattle.std.specs.Prelude.{◌≡◌, List, ◌∷◌, ℕ, ◌+◌, ◌-◌, ◌*◌, ◌<◌, ◌≤◌, get_or, length}
use Rattle.rules.specs.Limits.{most_exchanges, last_series}
use Rattle.rules.specs.Record.{Event, quote_kind, status_kind}
use Rattle.rules.specs.Journal.{History}
use Rattle.rules.specs.Prices.{standing, status_of}
use Rattle.rows.specs.Rows.{Reads, QuoteOk, StatusOk}
use Rattle.rows.specs.declared.Rec.{Rec}

-- "series: 0 to 31"
abbrev pub many_series : ℕ
many_series = last_series + 1

-- a row of eight words for each exchange and series
abbrev pub quote_words : ℕ
quote_words = most_exchanges * many_series * 8

pub record Quoted (past : History) (quotes : List ℕ) : Type 0 where
  pub bid : (y series : ℕ) → y < most_exchanges → series < many_series
      → get_or quotes ((y * many_series + series) * 8 + 2) 0 ≡ (standing (y + 1) series past).bid
  pub bid_customers : (y series : ℕ) → y < most_exchanges → series < many_series
      → get_or quotes ((y * many_series + series) * 8 + 4) 0 ≡ (standing (y + 1) series past).bid_customers
  pub offer : (y series : ℕ) → y < most_exchanges → series < many_series
      → get_or quotes ((y * many_series + series) * 8 + 5) 0 ≡ (standing (y + 1) series past).offer
  pub offer_customers : (y series : ℕ) → y < most_exchanges → series < many_series
      → get_or quotes ((y * many_series + series) * 8 + 7) 0 ≡ (standing (y + 1) series past).offer_customers
  pub long : length quotes ≡ quote_words

pub record Statuses (past : History) (statuses : List ℕ) : Type 0 where
  pub status : (y : ℕ) → y < most_exchanges → get_or statuses y 0 ≡ status_of (y + 1) past
  pub long : length statuses ≡ most_exchanges

-- ---- where a record goes

-- an exchange and a series that have a row
pub record Within (exchange series : ℕ) : Type 0 where
  pub from_one : 1 ≤ exchange
  pub to_eight : exchange ≤ most_exchanges
  pub low : series < many_series

pub record RowIs (exchange series row : ℕ) : Type 0 where
  pub is : row ≡ (exchange - 1) * many_series + series
  pub small : row < most_exchanges * many_series

-- a record that has its place in the tables, if it is of their kinds
pub record FitsQuotes (r : Rec) : Type 0 where
  pub quote : r.kind ≡ quote_kind → QuoteOk most_exchanges r
  pub status : r.kind ≡ status_kind → StatusOk most_exchanges r

-- ---- one record, of any kind

pub record QuotesStep (r : Rec) (quotes quotes2 : List ℕ) : Type 0 where
  pub so : (e : Event) (past : History) → Reads e r → Quoted past quotes → Quoted (e ∷ past) quotes2

pub record StatusesStep (r : Rec) (statuses statuses2 : List ℕ) : Type 0 where
  pub so : (e : Event) (past : History) → Reads e r → Statuses past statuses → Statuses (e ∷ past) statuses2
