-- Orders: the code's order and answers as the paper's records and numbers, and what is promised of every history that the tables hold.
use Rattle.std.specs.Prelude.{◌≡◌, Option, Some, None, Bool, List, ℕ, ◌≤◌, take}
use Rattle.rules.specs.Limits.{most_exchanges}
use Rattle.rules.specs.Header.{Header, sizes_of}
use Rattle.rules.specs.Record as paper
use Rattle.rules.specs.Journal.{History}
use Rattle.rules.specs.Prices.{standing}
use Rattle.rules.specs.Verdicts.{Verdict, verdict, execute_none, execute_whole, execute_at_least, shown, best, worse, sent_order, no_duty, firm_size}
use Rattle.rows.specs.Rows.{word}
use Rattle.rows.specs.declared.Rec.{Rec}
use Rattle.quotes.specs.Tables.{Quoted, Statuses}
use Rattle.orders.specs.declared.Order.{Order}
use Rattle.orders.specs.declared.Sent.{Sent}
use Rattle.orders.specs.declared.Sent.TheVariants as sent
use Rattle.orders.specs.declared.Reason.{Reason}
use Rattle.orders.specs.declared.Reason.TheVariants.{AbsentOrWorse, NotBest, NonFirm, TooSoon}
use Rattle.orders.specs.declared.Duty.{Duty}
use Rattle.orders.specs.declared.Duty.TheVariants.{NoDuty, Whole, AtLeast}

-- ---- the header's numbers

-- exchange `home` of so many, each with its place in the tables
pub record Headed (exchanges home : ℕ) : Type 0 where
  pub few : exchanges ≤ most_exchanges
  pub from_one : 1 ≤ home
  pub to_n : home ≤ exchanges

-- a header that has these numbers: its sizes are the first of the list, two for each exchange
pub record Heads (h : Header) (many own : ℕ) (words : List ℕ) : Type 0 where
  pub exchanges : h.exchanges ≡ many
  pub home : h.home ≡ own
  pub sizes : h.sizes ≡ take (sizes_of many) words

-- ---- an order

unfoldable pub as_order : Order → paper.Order
as_order order =
    record { type = order.kind; other = order.other; series = order.series; side = order.side; price = order.price; size = order.size }

pub record OrderIs (r : Rec) (order : Order) : Type 0 where
  pub type : order.kind ≡ word r 0
  pub other : order.other ≡ word r 1
  pub series : order.series ≡ word r 2
  pub side : order.side ≡ word r 3
  pub price : order.price ≡ word r 4
  pub size : order.size ≡ word r 5

-- ---- the paper's words by names that stay shut

unfoldable pub worse_of : ℕ → ℕ → ℕ → Bool
worse_of side there price = worse side there price

-- what an exchange shows to an order of this side
unfoldable pub shown_at : ℕ → ℕ → ℕ → History → ℕ
shown_at side exchange series past = shown side (standing exchange series past)

unfoldable pub best_at : Header → ℕ → ℕ → History → ℕ
best_at h side series past = best h side series past

-- ---- the answers

-- S
unfoldable pub sent_as : Sent → ℕ
sent_as sent.Fine = 0
sent_as sent.NotShown = 1
sent_as sent.NotBest = 2

-- the numbers of the reasons
abbrev pub reason_number : Reason → ℕ
reason_number AbsentOrWorse = 1
reason_number NotBest = 2
reason_number NonFirm = 3
reason_number TooSoon = 4

-- "reason or 0"
abbrev pub reason_as : Option Reason → ℕ
reason_as None = 0
reason_as (Some reason) = reason_number reason

-- R: "0 none, 1 whole, 2 at least; contracts, 0 for none; reason or 0"
unfoldable pub duty_as : Duty → Verdict
duty_as (NoDuty reason) = verdict execute_none 0 (reason_number reason)
duty_as (Whole contracts) = verdict execute_whole contracts 0
duty_as (AtLeast contracts) = verdict execute_at_least contracts 0

pub record ShownIs (quotes : List ℕ) (exchange series side r : ℕ) : Type 0 where
  pub so : (past : History) → Quoted past quotes → r ≡ shown_at side exchange series past

pub record BestIs (quotes : List ℕ) (exchanges series side r : ℕ) : Type 0 where
  pub so : (h : Header) (past : History) → h.exchanges ≡ exchanges → Quoted past quotes → r ≡ best_at h side series past

pub record SentIs (quotes : List ℕ) (exchanges : ℕ) (order : Order) (r : Sent) : Type 0 where
  pub so : (h : Header) (past : History) → h.exchanges ≡ exchanges → Quoted past quotes → sent_as r ≡ sent_order h past (as_order order)

pub record NoDutyIs (quotes statuses : List ℕ) (exchanges home : ℕ) (order : Order) (r : Option Reason) : Type 0 where
  pub so : (h : Header) (past : History) → h.exchanges ≡ exchanges → h.home ≡ home → Quoted past quotes → Statuses past statuses → reason_as r ≡ no_duty h past (as_order order)

pub record FirmIs (exchanges home : ℕ) (sizes : List ℕ) (order : Order) (r : ℕ) : Type 0 where
  pub so : (h : Header) → Heads h exchanges home sizes → r ≡ firm_size h (as_order order)
