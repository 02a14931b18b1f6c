-- The table of periods beside the history, and what is promised of a received order and of a home quote.
use Rattle.std.specs.Prelude.{◌≡◌, Bool, not, ◌&&◌, ◌||◌, List, ◌∷◌, ℕ, ◌+◌, ◌-◌, ◌*◌, ◌<◌, ◌≤◌, get_or, length, if◌then◌else◌, ◌==◌}
use Rattle.rules.specs.Basics.{◌at_most◌}
use Rattle.rules.specs.Limits.{most_exchanges}
use Rattle.rules.specs.Header.{Header}
use Rattle.rules.specs.Record.{Event, field, principal_order, buy, quote_kind}
use Rattle.rules.specs.Journal.{History}
use Rattle.rules.specs.Verdicts.{verdict, execute_whole, execute_at_least, Execution, Period, no_period, begun, best_there, too_soon, still_limited, order_in, period_of, received_order}
use Rattle.rows.specs.Rows.{Reads}
use Rattle.rows.specs.declared.Rec.{Rec}
use Rattle.quotes.specs.Tables.{many_series, Quoted, Statuses}
use Rattle.orders.specs.Orders.{Heads, as_order, duty_as}
use Rattle.orders.specs.declared.Order.{Order}
use Rattle.orders.specs.declared.Duty.{Duty}

-- ---- the table: row y is of exchange y + 1

abbrev pub period_word : List ℕ → ℕ → ℕ → ℕ
period_word periods y k = get_or periods (y * 8 + k) 0

-- the period that stands in row y
unfoldable pub period_at : List ℕ → ℕ → Period
period_at periods y =
    if period_word periods y 0 == 0 then no_period
    else
    begun
    (record {
      time = period_word periods y 1;
      series = period_word periods y 2;
      side = period_word periods y 3;
      price = period_word periods y 4;
      requoted = not (period_word periods y 5 == 0);
    })

abbrev pub period_words : ℕ
period_words = most_exchanges * 8

pub record Periods (h : Header) (past : History) (periods : List ℕ) : Type 0 where
  pub stands : (y : ℕ) → y < most_exchanges → period_at periods y ≡ period_of h (y + 1) past

-- what holds of the table alone
pub record Tidy (periods : List ℕ) : Type 0 where
  pub series_low : (y : ℕ) → y < most_exchanges → period_word periods y 2 < many_series
  pub long : length periods ≡ period_words

-- ---- an order in a period

pub record BestThereIs (quotes : List ℕ) (exchanges home series side : ℕ) (b : Bool) : Type 0 where
  pub so : (h : Header) (past : History) (execution : Execution) → h.exchanges ≡ exchanges → h.home ≡ home → execution.series ≡ series → execution.side ≡ side
      → Quoted past quotes → b ≡ best_there h past execution

pub record SoonIs (periods quotes : List ℕ) (exchanges home from time : ℕ) (b : Bool) : Type 0 where
  pub so : (h : Header) (past : History) → h.exchanges ≡ exchanges → h.home ≡ home → Quoted past quotes
      → b ≡ too_soon h past (period_at periods (from - 1)) time

pub record LimitedIs (periods : List ℕ) (from time : ℕ) (b : Bool) : Type 0 where
  pub so : b ≡ still_limited (period_at periods (from - 1)) time

pub record OwedIs (size firm : ℕ) (d : Duty) : Type 0 where
  pub so : duty_as d ≡ (if size at_most firm then verdict execute_whole size 0 else verdict execute_at_least firm 0)

pub record InPeriod (quotes statuses periods : List ℕ) (exchanges home : ℕ) (sizes : List ℕ) (time : ℕ) (order : Order) (d : Duty) : Type 0 where
  pub so : (h : Header) (past : History) → Heads h exchanges home sizes → Quoted past quotes → Statuses past statuses
      → duty_as d ≡ order_in h past (period_at periods (order.other - 1)) time (as_order order)

-- ---- a received order, and the table after it

-- whether a period begins with an order of this type and answer
unfoldable pub initial_of : ℕ → Duty → Bool
initial_of type d = type == principal_order && (duty_as d).a == execute_whole

pub record ReceivedIs (quotes statuses periods : List ℕ) (exchanges home : ℕ) (sizes : List ℕ) (r : Rec) (periods2 : List ℕ) (d : Duty) : Type 0 where
  pub tidy : Tidy periods2
  pub so : (h : Header) (e : Event) (past : History) → Heads h exchanges home sizes → Reads e r → Quoted past quotes → Statuses past statuses → Periods h past periods
      → duty_as d ≡ received_order h past e
  pub kept : (h : Header) (e : Event) (past : History) → Heads h exchanges home sizes → Reads e r → Quoted past quotes → Statuses past statuses → Periods h past periods
      → Periods h (e ∷ past) periods2

-- ---- a home quote

-- what a quote of these eight numbers shows to an order of this side
unfoldable pub shown_by : List ℕ → ℕ → ℕ
shown_by row side = if side == buy then get_or row 5 0 else get_or row 2 0

-- a period after a home quote
unfoldable pub marked_by : List ℕ → Period → Period
marked_by row no_period = no_period
marked_by row (begun execution) =
    begun
    (record {
      time = execution.time;
      series = execution.series;
      side = execution.side;
      price = execution.price;
      requoted = execution.requoted || (get_or row 1 0 == execution.series && not (shown_by row execution.side == execution.price));
    })

pub record Marked (periods : List ℕ) (y : ℕ) (row : List ℕ) (periods2 : List ℕ) : Type 0 where
  pub here : period_at periods2 y ≡ marked_by row (period_at periods y)
  pub others : (m : ℕ) → (m ≡ y → ⊥) → period_at periods2 m ≡ period_at periods m
  pub series : (m : ℕ) → period_word periods2 m 2 ≡ period_word periods m 2
  pub long : length periods2 ≡ length periods

-- rows below y are marked
pub record Marking (periods : List ℕ) (y : ℕ) (row : List ℕ) (periods2 : List ℕ) : Type 0 where
  pub done : (m : ℕ) → m < y → period_at periods2 m ≡ marked_by row (period_at periods m)
  pub others : (m : ℕ) → y ≤ m → period_at periods2 m ≡ period_at periods m
  pub tidy : Tidy periods2
  pub low : y ≤ most_exchanges

pub record Requoted (r : Rec) (periods periods2 : List ℕ) : Type 0 where
  pub tidy : Tidy periods2
  pub kept : (h : Header) (e : Event) (past : History) → Reads e r → e.kind ≡ quote_kind → field e 0 ≡ h.home → Periods h past periods
      → Periods h (e ∷ past) periods2
