-- The step over all tables is the steps over each; the start; where a record that the reader has passed goes.
use mathlib.Core.Path.{◌≡◌}
use mathlib.Core.Bool.{Bool, false}
use mathlib.Core.List.{List, []}
use Prim.Native.Nat.{ℕ, ◌<◌, ◌≤◌}
use native.Mathlib.Omega.{arith}
use lib.ListN.{replicate}
use Rattle.rules.specs.Limits.{most_exchanges, most_trades, most_sent_orders, most_satisfaction_orders, most_trade_lines}
use Rattle.rules.specs.Header.{Header}
use Rattle.rules.specs.Record.{quote_kind, trade_kind, sent_kind, response_kind, satisfaction_kind, naming_kind, cancellation_kind}
use Rattle.rows.specs.Rows.{word, RecOk}
use Rattle.rows.specs.declared.Rec.{Rec}
use Rattle.quotes.specs.Tables.{quote_words, QuotesStep, StatusesStep}
use Rattle.quotes.proofs.QuoteLaws as quote_laws
use Rattle.quotes.proofs.StatusLaws as status_laws
use Rattle.through.specs.Trades.{BlockFound}
use Rattle.through.proofs.TradeVerdicts.{block_none}
use Rattle.excuses.specs.Excuses.{order_words, chain_words, ExcusesStep}
use Rattle.excuses.proofs.Steps as excuse_laws
use Rattle.trades.specs.Trades.{trade_words, shown_words, TradesStep}
use Rattle.trades.proofs.TradeLaws as trade_laws
use Rattle.claims.specs.Lines.{line_words, many_of, Cancellable, ClaimsStep}
use Rattle.claims.proofs.Lines as line_laws
use Rattle.claims.proofs.Due as due_laws
use Rattle.rows.specs.declared.Seat.{Seat}
use Rattle.counted.specs.declared.Counts.{Counts}
use Rattle.tables.specs.Tables.{Tables, tables, Holds, Orderly, FitsTables, TablesStep}

pub all_kept : (r : Rec) (seat : Seat) (sizes : List ℕ) (block : Bool) (before : Tables) (counts : Counts) (after : Tables) (sent traded lines : ℕ)
    → BlockFound before.quotes seat.exchanges r block
    → ClaimsStep r seat.home seat.exchanges seat.close before.trades before.shown counts.trades before.claims counts.satisfactions after.claims lines
    → TradesStep r seat.home seat.exchanges sizes block counts.closing before.quotes before.statuses before.orders counts.orders before.trades before.shown counts.trades after.trades after.shown traded
    → ExcusesStep r before.orders counts.orders after.orders after.chains sent → QuotesStep r before.quotes after.quotes
    → StatusesStep r before.statuses after.statuses → TablesStep r seat sizes before counts after block
all_kept r seat sizes block before counts after sent traded lines found by_claim by_trade_lem by_order by_quote by_status =
    record {
      sent = sent;
      traded = traded;
      lines = lines;
      orderly = record { chains = by_order.chains; filing = by_claim.filing; few = by_trade_lem.few };
      found = found;
      so =
          λ h e past arrived is ec rd closes held. record {
            quoted = by_quote.so e past rd held.quoted;
            statuses = by_status.so e past rd held.statuses;
            excused = by_order.so e past rd held.excused;
            traded = by_trade_lem.so h e past is rd (found.so h e past is.exchanges rd held.quoted) closes held.quoted held.statuses held.excused held.traded;
            lined = by_claim.so h sizes e past arrived is ec rd held.traded held.lined;
          };
    }

-- a quote, of which the other tables keep nothing
pub quote_kept : (r : Rec) (seat : Seat) (sizes : List ℕ) (before : Tables) (counts : Counts) (quotes orders chains : List ℕ) → r.kind ≡ quote_kind
    → Orderly before counts.orders counts.trades counts.satisfactions → QuotesStep r before.quotes quotes
    → ExcusesStep r before.orders counts.orders orders chains counts.orders
    → TablesStep r seat sizes before counts (tables quotes before.statuses orders chains before.trades before.shown before.claims) false
quote_kept r seat sizes before counts quotes orders chains k orderly by_quote by_order =
    all_kept r seat sizes false before counts (tables quotes before.statuses orders chains before.trades before.shown before.claims) counts.orders counts.trades counts.satisfactions
    (block_none before.quotes seat.exchanges r (λ z. omega (arith, z, k)))
    (line_laws.no_order r seat.home seat.exchanges seat.close before.trades before.shown counts.trades before.claims counts.satisfactions orderly.filing (λ z. omega (arith, z, k)) (λ z. omega (arith, z, k)) (λ z. omega (arith, z, k)))
    (trade_laws.no_trade r seat.home seat.exchanges sizes false counts.closing before.quotes before.statuses before.orders counts.orders before.trades before.shown counts.trades orderly.few (λ z. omega (arith, z, k)))
    by_order
    by_quote
    (status_laws.statuses_kept r before.statuses (λ z. omega (arith, z, k)))

-- what refusals 7 and 8 have left
pub record Room (r : Rec) (claims : List ℕ) (sent traded lines : ℕ) : Type 0 where
  pub order : r.kind ≡ sent_kind → sent < most_sent_orders
  pub response : r.kind ≡ response_kind → word r 0 < sent
  pub trade : r.kind ≡ trade_kind → traded < most_trades
  pub line : r.kind ≡ satisfaction_kind → lines < most_satisfaction_orders
  pub known : r.kind ≡ satisfaction_kind → word r 0 < traded
  pub line_left : r.kind ≡ satisfaction_kind → many_of claims (word r 0) < most_trade_lines
  pub cancelled : r.kind ≡ naming_kind → word r 0 < lines
  pub cancellable : r.kind ≡ naming_kind → Cancellable claims (word r 0)
  pub withdrawn : r.kind ≡ cancellation_kind → word r 0 < lines

pub record_placed : (exchanges home : ℕ) (r : Rec) (claims : List ℕ) (sent traded lines : ℕ) → RecOk exchanges home r → exchanges ≤ most_exchanges
    → Room r claims sent traded lines → FitsTables r claims exchanges sent traded lines
record_placed exchanges home r claims sent traded lines ok few room =
    record {
      quote = quote_laws.record_placed exchanges home r ok few;
      order = excuse_laws.record_placed exchanges home sent r ok few room.order room.response;
      trade = trade_laws.record_placed exchanges home traded r ok few room.trade;
      claim = line_laws.record_placed exchanges home r claims traded lines ok room.known room.line_left room.line room.cancelled room.cancellable room.withdrawn;
    }

-- ---- the start

abbrev pub no_tables : Tables
no_tables =
    tables (replicate quote_words 0) (replicate most_exchanges 0) (replicate order_words 0) (replicate chain_words 0) (replicate trade_words 0) (replicate shown_words 0) (replicate line_words 0)

pub holds_none : (h : Header) → Holds h [] no_tables 0 0 0
holds_none h =
    record {
      quoted = quote_laws.quotes_none;
      statuses = status_laws.statuses_none;
      excused = excuse_laws.excuses_none;
      traded = trade_laws.trades_none h (replicate trade_words 0) (replicate shown_words 0);
      lined = due_laws.lines_none h;
    }

pub orderly_none : Orderly no_tables 0 0 0
orderly_none = record { chains = excuse_laws.no_chains; filing = due_laws.nothing_filed; few = omega arith }
