-- What is printed of a record: the kind decides, one law for each.
use mathlib.Core.Path.{◌≡◌, refl, ◌∙◌, sym, ap}
use mathlib.Core.Bool.{Bool, true, false, not, and-false, true≢false}
use mathlib.Core.List.{List}
use Prim.Native.Nat.{ℕ, ◌<◌}
use native.Mathlib.Omega.{arith}
use mir.Val.{Fits}
use mir.Syntax.{w32}
use lib.Dec.{eqb}
use borrow.Author.Tests.{eq-eqb, ne_eqb, eqb-true, not-true, not-false}
use Rattle.std.specs.Int.{from_bool}
use Rattle.rules.specs.Basics.{bit}
use Rattle.rules.specs.Header.{Header}
use Rattle.rules.specs.Record as paper
use Rattle.rules.specs.Record.{Event, field, is_sent, is_trade, quote_kind, trade_kind, sent_kind, received_kind}
use Rattle.rules.specs.Journal.{History, count}
use Rattle.rules.specs.Verdicts.{verdict, sent_order}
use Rattle.rules.specs.PrintedDay.{one_line, judged}
use Rattle.rows.specs.Rows.{Reads, RecOk}
use Rattle.rows.specs.declared.Rec.{Rec}
use Rattle.quotes.specs.Tables.{many_series, Quoted, Statuses, Within}
use Rattle.orders.specs.Orders.{Headed, Heads, OrderIs, sent_as, reason_number, duty_as, SentIs}
use Rattle.orders.proofs.OrderVerdicts.{order_is, order_from, order_to, order_series}
use Rattle.periods.specs.Periods.{Tidy, ReceivedIs, Requoted}
use Rattle.periods.proofs.Keeping.{periods_stay}
use Rattle.home.specs.Home.{homes_of, QuoteIs, SameQuote, against_as, AgainstIs}
use Rattle.through.proofs.TradeVerdicts.{trade_is, series_low}
use Rattle.through.specs.Trades.{TradeIs, CountIs, BlockIs}
use Rattle.market.specs.Judged.{judged_as, QuoteSays, SentSays, DutySays, JudgedIs, QuoteJudged}
use Rattle.market.specs.declared.Judged.{Judged}
use Rattle.market.specs.declared.Judged.TheVariants.{Nothing, Q, S, R, T}
use Rattle.home.specs.declared.HomeQuote.{HomeQuote}
use Rattle.home.specs.declared.Against.{Against}
use Rattle.home.specs.declared.Against.TheVariants.{Clear, Locked, Crossed}
use Rattle.orders.specs.declared.Order.{Order}
use Rattle.orders.specs.declared.Sent.{Sent}
use Rattle.orders.specs.declared.Reason.{Reason}
use Rattle.orders.specs.declared.Duty.{Duty}
use Rattle.orders.specs.declared.Duty.TheVariants.{NoDuty, Whole, AtLeast}
use Rattle.through.specs.declared.Trade.{Trade}

-- ---- a verdict as a line

module _ (against : Against) where
  pub says_clear : against ≡ Clear → QuoteSays against (Q 0 0 0)
  unfolding judged_as against_as
  says_clear e = record { so = λ event. rw e }

  module _ (exchange side : ℕ) where
    pub says_locked : against ≡ Locked exchange side → QuoteSays against (Q 1 exchange side)
    unfolding judged_as against_as
    says_locked e = record { so = λ event. rw e }

    pub says_crossed : against ≡ Crossed exchange side → QuoteSays against (Q 2 exchange side)
    unfolding judged_as against_as
    says_crossed e = record { so = λ event. rw e }

pub says_sent : (answer : Sent) (number n : ℕ) → n ≡ sent_as answer → SentSays answer number (S n number 0)
unfolding judged_as
says_sent answer number n e = record { so = λ event. rw e }

module _ (duty : Duty) where
  pub says_none : (reason : Reason) → duty ≡ NoDuty reason → (n : ℕ) → n ≡ reason_number reason → DutySays duty (R 0 0 n)
  unfolding judged_as duty_as
  says_none reason e n en = record { so = λ event. rw (e, en) }

  module _ (number : ℕ) where
    pub says_whole : duty ≡ Whole number → DutySays duty (R 1 number 0)
    unfolding judged_as duty_as
    says_whole e = record { so = λ event. rw e }

    pub says_least : duty ≡ AtLeast number → DutySays duty (R 2 number 0)
    unfolding judged_as duty_as
    says_least e = record { so = λ event. rw e }

-- ---- what the code took out of a record is what the paper names

module _ (r : Rec) (e : Event) (reads : Reads e r) where
  pub quote_is : (quote : HomeQuote) → QuoteIs r quote → SameQuote quote (paper.quote e)
  quote_is quote is =
      record {
        series = sym (is.series ∙ reads.fields 1);
        bid = sym (is.bid ∙ reads.fields 2);
        offer = sym (is.offer ∙ reads.fields 5);
      }

  kind_is : (k : ℕ) → r.kind ≡ k → eqb e.kind k ≡ true
  kind_is k z = eq-eqb e.kind k (reads.kind ∙ z)

  kind_not : (k : ℕ) → (r.kind ≡ k → ⊥) → eqb e.kind k ≡ false
  kind_not k ne = ne_eqb e.kind k (λ z. ne (sym reads.kind ∙ z))

  -- of one kind, and so of no other
  kind_other : (k j : ℕ) → r.kind ≡ k → (k ≡ j → ⊥) → eqb e.kind j ≡ false
  kind_other k j z ne = kind_not j (λ y. ne (sym z ∙ y))

bit_is : (b : Bool) → from_bool b ≡ bit b
bit_is true = refl
bit_is false = refl

-- ---- the kind decides

module _ (quotes statuses periods : List ℕ) (exchanges home : ℕ) (sizes : List ℕ) (sent traded : ℕ) (r : Rec) where
  module _ (tidy : Tidy periods) where
    -- a record that is neither a home quote nor a received order leaves the periods
    leaves_periods : (r.kind ≡ received_kind → ⊥) → ((h : Header) (e : Event) → Heads h exchanges home sizes → Reads e r → e.kind ≡ quote_kind → field e 0 ≡ h.home → ⊥) → (a : Judged)
        → ((h : Header) (e : Event) (past : History) → Heads h exchanges home sizes → Reads e r → Quoted past quotes → Statuses past statuses → sent ≡ count is_sent past → traded ≡ count is_trade past
        → (event : ℕ) → judged_as event a ≡ judged h event past e)
        → JudgedIs quotes statuses periods exchanges home sizes sent traded r periods a
    leaves_periods n6 away a so =
        record {
          tidy = tidy;
          so = λ h e past hd reads held hs stands es et event. so h e past hd reads held hs es et event;
          kept = λ h e past hd reads held hs stands. periods_stay h e past periods (λ z. n6 (sym reads.kind ∙ z)) (away h e hd reads) stands;
        }

    no_quote_lem : (r.kind ≡ quote_kind → ⊥) → (h : Header) (e : Event) → Heads h exchanges home sizes → Reads e r → e.kind ≡ quote_kind → field e 0 ≡ h.home → ⊥
    no_quote_lem n1 h e hd reads k _ = n1 (sym reads.kind ∙ k)

  module _ (k1 : r.kind ≡ quote_kind) (b : Bool) (eb : b ≡ homes_of r home) where
    -- the same test, of the event
    home_is : (h : Header) (e : Event) → Heads h exchanges home sizes → Reads e r → eqb (field e 0) h.home ≡ b
    unfolding homes_of
    home_is h e hd reads = rw (← reads.fields 0, hd.home, eb)

    pub judged_away : not b ≡ true → Tidy periods → JudgedIs quotes statuses periods exchanges home sizes sent traded r periods Nothing
    unfolding judged judged_as
    judged_away z tidy =
        leaves_periods tidy (λ y. omega (arith, y, k1))
        (λ h e hd reads k mine. true≢false (sym (eq-eqb (field e 0) h.home mine) ∙ home_is h e hd reads ∙ not-true b z)) Nothing
        (λ h e past hd reads held hs es et event.
        rw (home_is h e hd reads ∙ not-true b z, and-false (eqb e.kind 1), kind_other r e reads 1 4 k1 (λ z. omega arith), kind_other r e reads 1 6 k1 (λ z. omega arith), kind_other r e reads 1 3 k1 (λ z. omega arith)))

    pub judged_home : not b ≡ false → (v : Against) (a : Judged) → QuoteSays v a → (w : HomeQuote) → AgainstIs quotes exchanges home w v → QuoteIs r w → (periods2 : List ℕ) → Requoted r periods periods2
        → JudgedIs quotes statuses periods exchanges home sizes sent traded r periods2 a
    unfolding judged
    judged_home z v a says w against is periods2 marked =
        record {
          tidy = marked.tidy;
          so = λ h e past hd reads held hs stands es et event.
              rw (kind_is r e reads 1 k1, home_is h e hd reads ∙ not-false b z)
              (says.so event ∙ ap (one_line event "Q") (against.so h past (paper.quote e) hd.exchanges hd.home (quote_is r e reads w is) held));
          kept = λ h e past hd reads held hs stands.
              marked.kept h e past reads (reads.kind ∙ k1) (eqb-true (field e 0) h.home (home_is h e hd reads ∙ not-false b z)) stands;
        }

  pub judged_sent : r.kind ≡ sent_kind → Tidy periods → (v : Sent) (a : Judged) → SentSays v sent a → (order : Order) → SentIs quotes exchanges order v → OrderIs r order
      → JudgedIs quotes statuses periods exchanges home sizes sent traded r periods a
  unfolding judged
  judged_sent k tidy v a says order is taken =
      leaves_periods tidy (λ y. omega (arith, y, k)) (no_quote_lem tidy (λ y. omega (arith, y, k))) a
      (λ h e past hd reads held hs es et event.
      rw (kind_other r e reads 4 1 k (λ z. omega arith), kind_is r e reads 4 k, ← es)
      (says.so event ∙ ap (λ y. one_line event "S" (verdict y sent 0)) (is.so h past hd.exchanges held ∙ ap (sent_order h past) (order_is r e reads order taken))))

  pub judged_received : r.kind ≡ received_kind → (v : Duty) (a : Judged) → DutySays v a → (periods2 : List ℕ) → ReceivedIs quotes statuses periods exchanges home sizes r periods2 v
      → JudgedIs quotes statuses periods exchanges home sizes sent traded r periods2 a
  unfolding judged
  judged_received k v a says periods2 is =
      record {
        tidy = is.tidy;
        so = λ h e past hd reads held hs stands es et event.
            rw (kind_other r e reads 6 1 k (λ z. omega arith), kind_other r e reads 6 4 k (λ z. omega arith), kind_is r e reads 6 k)
            (says.so event ∙ ap (one_line event "R") (is.so h e past hd reads held hs stands));
        kept = is.kept;
      }

  pub judged_trade : r.kind ≡ trade_kind → Tidy periods → (c y : ℕ) (trade : Trade) → CountIs quotes exchanges home trade c → (b : Bool) → BlockIs quotes exchanges trade b → y ≡ from_bool b → TradeIs r trade
      → JudgedIs quotes statuses periods exchanges home sizes sent traded r periods (T traded c y)
  unfolding judged judged_as
  judged_trade k tidy c y trade counted b block ey is =
      leaves_periods tidy (λ z. omega (arith, z, k)) (no_quote_lem tidy (λ z. omega (arith, z, k))) (T traded c y)
      (λ h e past hd reads held hs es et event.
      let same = trade_is r e reads trade is in
      rw (kind_other r e reads 3 1 k (λ z. omega arith), kind_other r e reads 3 4 k (λ z. omega arith), kind_other r e reads 3 6 k (λ z. omega arith), kind_is r e reads 3 k, ← et, ← counted.so h past (paper.trade e) hd.exchanges hd.home same held, ← block.so h past (paper.trade e) hd.exchanges same held, ey ∙ bit_is b))

  pub judged_other : (r.kind ≡ quote_kind → ⊥) → (r.kind ≡ sent_kind → ⊥) → (r.kind ≡ received_kind → ⊥) → (r.kind ≡ trade_kind → ⊥) → Tidy periods
      → JudgedIs quotes statuses periods exchanges home sizes sent traded r periods Nothing
  unfolding judged judged_as
  judged_other n1 n4 n6 n3 tidy =
      leaves_periods tidy n6 (no_quote_lem tidy n1) Nothing
      (λ h e past hd reads held hs es et event.
      rw (kind_not r e reads 1 n1, kind_not r e reads 4 n4, kind_not r e reads 6 n6, kind_not r e reads 3 n3))

-- ---- a quote by itself

module _ (quotes periods : List ℕ) (exchanges home : ℕ) (r : Rec) (k : r.kind ≡ quote_kind) where
  pub home_judged : homes_of r home ≡ true → (v : Against) (a : Judged) → QuoteSays v a → (w : HomeQuote) → AgainstIs quotes exchanges home w v → QuoteIs r w → (periods2 : List ℕ) → Requoted r periods periods2
      → QuoteJudged quotes periods exchanges home r periods2 a
  home_judged z v a says w against is periods2 marked =
      record { so = λ statuses sizes sent traded. judged_home quotes statuses periods exchanges home sizes sent traded r k (homes_of r home) refl (rw z) v a says w against is periods2 marked }

  pub away_judged : (b : Bool) → b ≡ homes_of r home → not b ≡ true → Tidy periods → QuoteJudged quotes periods exchanges home r periods Nothing
  away_judged b eb z tidy = record { so = λ statuses sizes sent traded. judged_away quotes statuses periods exchanges home sizes sent traded r k b eb z tidy }

  pub judged_as_quote : (statuses sizes : List ℕ) (sent traded : ℕ) (periods2 : List ℕ) (a : Judged) → QuoteJudged quotes periods exchanges home r periods2 a → JudgedIs quotes statuses periods exchanges home sizes sent traded r periods2 a
  judged_as_quote statuses sizes sent traded periods2 a is = is.so statuses sizes sent traded

pub it_is_home : (r : Rec) (home : ℕ) (b : Bool) → b ≡ homes_of r home → not b ≡ false → homes_of r home ≡ true
it_is_home r home b eb n = sym eb ∙ not-false b n

-- ---- what the callees require

module _ (exchanges home : ℕ) (r : Rec) (ok : RecOk exchanges home r) where
  pub quote_series : (quote : HomeQuote) → QuoteIs r quote → r.kind ≡ quote_kind → quote.series < many_series
  quote_series quote is k = let g = ok.quote k in omega (arith, g.series, is.series)

  pub count_fits_lem : (quotes : List ℕ) (trade : Trade) (c : ℕ) → CountIs quotes exchanges home trade c → Headed exchanges home → Fits w32 c
  count_fits_lem quotes trade c is hd = record { fits = omega (arith, is.few, hd.few) }

  pub trade_series : (trade : Trade) → TradeIs r trade → r.kind ≡ trade_kind → trade.series < many_series
  trade_series trade is k = series_low exchanges r trade (ok.trade k) is

  pub sent_within : (order : Order) → OrderIs r order → r.kind ≡ sent_kind → Headed exchanges home → Within order.other order.series
  sent_within order is k hd =
      let g = ok.sent k in
      record {
        from_one = order_from exchanges home r g order is;
        to_eight = omega (arith, order_to exchanges home r g order is, hd.few);
        low = order_series exchanges home r g order is;
      }

pub ruleset judge_laws = (says_clear, says_locked, says_crossed, says_sent, says_none, says_whole, says_least, home_judged, judged_away, it_is_home, judged_as_quote, judged_sent, judged_received, judged_trade, judged_other, quote_series, count_fits_lem, trade_series, sent_within)
