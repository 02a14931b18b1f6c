-- What is printed of a record: the code's answer as lines of the printed day, and what is promised of every history that the tables hold.
use Rattle.std.specs.Prelude.{◌≡◌, List, [], ◌∷◌, ℕ}
use Rattle.rules.specs.Header.{Header}
use Rattle.rules.specs.Record.{Event, is_sent, is_trade}
use Rattle.rules.specs.Journal.{History, count}
use Rattle.rules.specs.Verdicts.{verdict}
use Rattle.rules.specs.PrintedDay.{Printed, one_line, judged}
use Rattle.rows.specs.Rows.{Reads}
use Rattle.rows.specs.declared.Rec.{Rec}
use Rattle.quotes.specs.Tables.{Quoted, Statuses}
use Rattle.orders.specs.Orders.{Heads, sent_as, duty_as}
use Rattle.periods.specs.Periods.{Periods, Tidy}
use Rattle.home.specs.Home.{against_as}
use Rattle.market.specs.declared.Judged.{Judged}
use Rattle.market.specs.declared.Judged.TheVariants.{Nothing, Q, S, R, T}
use Rattle.home.specs.declared.Against.{Against}
use Rattle.orders.specs.declared.Sent.{Sent}
use Rattle.orders.specs.declared.Duty.{Duty}

-- the lines of an event, by its number
unfoldable pub judged_as : ℕ → Judged → List Printed
judged_as event Nothing = []
judged_as event (Q a b c) = one_line event "Q" (verdict a b c)
judged_as event (S a b c) = one_line event "S" (verdict a b c)
judged_as event (R a b c) = one_line event "R" (verdict a b c)
judged_as event (T a b c) = one_line event "T" (verdict a b c)

-- ---- a verdict as a line

pub record QuoteSays (against : Against) (r : Judged) : Type 0 where
  pub so : (event : ℕ) → judged_as event r ≡ one_line event "Q" (against_as against)

pub record SentSays (answer : Sent) (number : ℕ) (r : Judged) : Type 0 where
  pub so : (event : ℕ) → judged_as event r ≡ one_line event "S" (verdict (sent_as answer) number 0)

pub record DutySays (duty : Duty) (r : Judged) : Type 0 where
  pub so : (event : ℕ) → judged_as event r ≡ one_line event "R" (duty_as duty)

-- ---- a record of any kind

pub record JudgedIs (quotes statuses periods : List ℕ) (exchanges home : ℕ) (sizes : List ℕ) (sent traded : ℕ) (r : Rec) (periods2 : List ℕ) (a : Judged) : Type 0 where
  pub tidy : Tidy periods2
  pub so : (h : Header) (e : Event) (past : History) → Heads h exchanges home sizes → Reads e r → Quoted past quotes → Statuses past statuses → Periods h past periods
      → sent ≡ count is_sent past → traded ≡ count is_trade past → (event : ℕ) → judged_as event a ≡ judged h event past e
  pub kept : (h : Header) (e : Event) (past : History) → Heads h exchanges home sizes → Reads e r → Quoted past quotes → Statuses past statuses → Periods h past periods
      → Periods h (e ∷ past) periods2

-- a quote: neither statuses nor sizes, orders or trades before it decide
pub record QuoteJudged (quotes periods : List ℕ) (exchanges home : ℕ) (r : Rec) (periods2 : List ℕ) (a : Judged) : Type 0 where
  pub so : (statuses sizes : List ℕ) (sent traded : ℕ) → JudgedIs quotes statuses periods exchanges home sizes sent traded r periods2 a
