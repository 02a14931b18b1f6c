-- Trades against the table of quotes: the exchanges traded through, counted one by one, and blocks.
use mathlib.Core.Path.{◌≡◌, refl, sym, ap, ◌∙◌}
use mathlib.Core.Bool.{Bool, true, false, not, ◌&&◌, ◌||◌, and-false, and-true}
use mathlib.Core.List.{List, [], ◌∷◌, ◌++◌, append-nil}
use Prim.Native.Nat.{ℕ, zero, suc, ◌+◌, ◌*◌, ◌<◌, ◌≤◌}
use native.Mathlib.Omega.{arith}
use native.Mathlib.Numerals.{add-one}
use lib.Dec.{eqb}
use lib.ListN.{length, length-append}
use borrow.Author.Tests.{not-true, not-false}
use Rattle.std.specs.Prelude.{count_by, filter, ◌==◌, if◌then◌else◌}
use Rattle.std.specs.List.{range_with_len}
use Rattle.std.proofs.lemmas.List.FromFn.{length-range_with_len}
use Rattle.std.proofs.lemmas.List.Sums.{sum_by-append, length-filter, count_by-le-length}
use Rattle.rules.specs.Basics.{◌at_least◌, keep}
use Rattle.rules.specs.Limits.{most_exchanges}
use Rattle.rules.specs.Header.{Header}
use Rattle.rules.specs.Record as paper
use Rattle.rules.specs.Journal.{History}
use Rattle.rules.specs.Prices.{standing, up_to, everyone, away, best_bid, best_offer}
use Rattle.rules.specs.Verdicts.{through, side_through, throughs, is_block}
use Rattle.rules.proofs.Tests.{by_test, keep_more}
use Rattle.rows.specs.Rows.{Reads, TradeOk, RecOk}
use Rattle.rows.specs.declared.Rec.{Rec}
use Rattle.quotes.specs.Tables.{many_series, Quoted}
use Rattle.prices.specs.Prices.{above_of, bid_of, offer_of, PlaceIs, BidIs, OfferIs}
use Rattle.through.specs.Trades.{SameTrade, through_of, through_in, form_of, large_of, TradeIs, CountIs, BlockIs, TradePlaced, BlockFound}
use Rattle.through.specs.declared.Trade.{Trade}
use Rattle.prices.proofs.BestPrices.{others, bid_shown, offer_shown}

-- ---- one exchange

-- the code's side, of a quote's two prices, is the paper's
pub through_is : (k : paper.Quote) (price : ℕ) → through_of k.bid k.offer price ≡ through k price
unfolding through through_of
through_is k price = refl

-- ---- the exchanges counted, row by row

-- one more exchange
length_more : (f : ℕ → ℕ) (home x : ℕ) (xs : List ℕ)
    → length (keep (λ y. not (f y == 0)) (keep (others home) (xs ++ (x ∷ []))))
    ≡ length (keep (λ y. not (f y == 0)) (keep (others home) xs)) + (if others home x && not (f x == 0) then 1 else 0)
unfolding keep
length_more f home x xs =
    by_test (eqb x home)
    (λ e. rw (keep_more (others home) xs x, e, append-nil) (omega arith))
    (λ e. rw (keep_more (others home) xs x, e, keep_more (λ y. not (f y == 0)) (keep (others home) xs) x, length-append)
    (by_test (eqb (f x) 0) (λ z. rw z (omega arith)) (λ z. rw z (omega arith))))

range_more : (a n j : ℕ) → a + n ≡ j → range_with_len a (suc n) ≡ range_with_len a n ++ (j ∷ [])
range_more a zero j e = let k : a ≡ j = omega arith in rw k
range_more a (suc n) j e = ap (λ l. a ∷ l) (range_more (a + 1) n j (omega arith))

count_more : (p : ℕ → Bool) (n : ℕ) → count_by p (range_with_len 0 (suc n)) ≡ count_by p (range_with_len 0 n) + (if p n then 1 else 0)
count_more p n = rw (range_more 0 n n (omega arith), sum_by-append (λ x. if p x then 1 else 0)) (omega arith)

module _ (quotes : List ℕ) (home : ℕ) (trade : Trade) (low : trade.series < many_series) (past : History) (held : Quoted past quotes) where
  -- the test of one exchange is the paper's
  test_is : (y : ℕ) → y < most_exchanges
      → through_in quotes home trade y ≡ (others home (suc y) && not (through (standing (suc y) trade.series past) trade.price == 0))
  unfolding through through_of bid_of offer_of
  test_is y few =
      let p : PlaceIs y trade.series ((y * many_series + trade.series) * 8) = record { is = refl; small = omega arith } in
      rw (add-one y, bid_shown quotes past held y trade.series _ few low p, offer_shown quotes past held y trade.series _ few low p)

  counted : (n : ℕ) → n ≤ most_exchanges
      → length (keep (λ exchange. not (through (standing exchange trade.series past) trade.price == 0)) (keep (others home) (up_to n)))
      ≡ count_by (through_in quotes home trade) (range_with_len 0 n)
  unfolding up_to keep
  counted zero few = refl
  counted (suc n) few =
      length_more (λ exchange. through (standing exchange trade.series past) trade.price) home (suc n) (up_to n)
      ∙ rw (counted n (omega arith), ← test_is n (omega arith)) (sym (count_more (through_in quotes home trade) n))

-- ---- the count c of the away exchanges traded through, up to y, and of all

pub record Counted (quotes : List ℕ) (exchanges home : ℕ) (trade : Trade) (y c : ℕ) : Type 0 where
  pub few : y ≤ exchanges
  pub small : c ≤ y
  pub so : (past : History) → Quoted past quotes
      → c ≡ length (keep (λ exchange. not (through (standing exchange trade.series past) trade.price == 0)) (keep (others home) (up_to y)))

module _ (quotes : List ℕ) (exchanges home : ℕ) (trade : Trade) where
  module _ (y c : ℕ) (a : Counted quotes exchanges home trade y c) where
    pub counted_all : exchanges ≤ y → CountIs quotes exchanges home trade c
    unfolding throughs side_through away everyone
    counted_all l =
        record {
          so = λ h past k en eh same held.
              let z : h.exchanges ≡ y = omega (arith, a.few) in simp (z, eh, same.series, same.price) (a.so past held);
          few = omega (arith, a.small, a.few);
        }

module _ (quotes : List ℕ) (exchanges home : ℕ) (trade : Trade) (few : exchanges ≤ most_exchanges) (low : trade.series < many_series) where
  counted_so_far : (y c : ℕ) → y ≤ exchanges → c ≡ length (filter (through_in quotes home trade) (range_with_len 0 y)) → Counted quotes exchanges home trade y c
  counted_so_far y c l e =
      let rows = range_with_len 0 y in
      let by : c ≡ count_by (through_in quotes home trade) rows = e ∙ length-filter (through_in quotes home trade) rows in
      record {
        few = l;
        small = omega (arith, by, count_by-le-length (through_in quotes home trade) rows, length-range_with_len 0 y);
        so = λ past held. by ∙ sym (counted quotes home trade low past held y (omega arith));
      }

  pub count_found : (c : ℕ) → c ≡ length (filter (through_in quotes home trade) (range_with_len 0 exchanges)) → CountIs quotes exchanges home trade c
  count_found c e = counted_all quotes exchanges home trade exchanges c (counted_so_far exchanges c (omega arith) e) (omega arith)

-- ---- blocks

-- the paper asks for the form last, the code before the prices
form_first : (size value prices form : Bool) → (size && value && prices && form) ≡ ((size && value && form) && prices)
form_first false value prices form = refl
form_first true false prices form = refl
form_first true true true form = sym (and-true form)
form_first true true false form = sym (and-false form)

block_is : (h : Header) (past : History) (trade : Trade) (k : paper.Trade) → SameTrade trade k
    → is_block h past k
    ≡ (large_of trade && (above_of (best_bid h trade.series past) trade.price || above_of trade.price (best_offer h trade.series past)))
unfolding is_block form_of above_of
block_is h past trade k same =
    rw (same.size, same.price, same.series, same.form)
    (form_first (trade.size at_least 500) (trade.price * trade.size at_least 150_000)
    (above_of (best_bid h trade.series past) trade.price || above_of trade.price (best_offer h trade.series past)) (form_of trade.form))

module _ (quotes : List ℕ) (exchanges : ℕ) (trade : Trade) (g : Bool) (eg : g ≡ large_of trade) where
  pub block_small : not g ≡ true → BlockIs quotes exchanges trade false
  block_small y = record { so = λ h past k en same held. rw (block_is h past trade k same, ← eg, not-true g y) }

  module _ (large : not g ≡ false) (bid : ℕ) (eb : BidIs quotes exchanges trade.series bid) (b : Bool) (below : b ≡ above_of bid trade.price) where
    pub block_below : b ≡ true → BlockIs quotes exchanges trade true
    block_below y =
        record {
          so = λ h past k en same held. rw (block_is h past trade k same, ← eg, not-false g large, ← eb.so h past en held, ← below, y);
        }

    pub block_above : b ≡ false → (offer : ℕ) → OfferIs quotes exchanges trade.series offer → (r : Bool) → r ≡ above_of trade.price offer → BlockIs quotes exchanges trade r
    block_above y offer eo r er =
        record {
          so = λ h past k en same held.
              rw (block_is h past trade k same, ← eg, not-false g large, ← eb.so h past en held, ← eo.so h past en held, ← below, y, ← er);
        }

-- ---- a record of any kind

pub trade_is : (r : Rec) (e : paper.Event) → Reads e r → (trade : Trade) → TradeIs r trade → SameTrade trade (paper.trade e)
trade_is r e reads trade is =
    record {
      series = sym (is.series ∙ reads.fields 0);
      price = sym (is.price ∙ reads.fields 1);
      size = sym (is.size ∙ reads.fields 2);
      form = sym (is.form ∙ reads.fields 3);
    }

pub series_low : (m : ℕ) (r : Rec) (trade : Trade) → TradeOk m r → TradeIs r trade → trade.series < many_series
series_low m r trade ok is = omega (arith, ok.series, is.series)

pub record_placed : (exchanges home : ℕ) (r : Rec) → RecOk exchanges home r → exchanges ≤ most_exchanges → TradePlaced r
record_placed exchanges home r ok few =
    record {
      trade = λ k. let g = ok.trade k in
          record {
            series = g.series;
            price = g.price;
            price_from_one = g.price_from_one;
            size = g.size;
            size_from_one = g.size_from_one;
            form = g.form;
            complex = g.complex;
            initiator = omega (arith, g.initiator);
            delay = g.delay;
          };
    }

module _ (quotes : List ℕ) (exchanges : ℕ) (r : Rec) where
  pub trade_series : (trade : Trade) → TradeIs r trade → TradePlaced r → r.kind ≡ paper.trade_kind → trade.series < many_series
  trade_series trade is ok k = series_low most_exchanges r trade (ok.trade k) is

  pub block_none : (r.kind ≡ paper.trade_kind → ⊥) → BlockFound quotes exchanges r false
  block_none ne = record { so = λ h e past en reads held k. absurd (ne (sym reads.kind ∙ k)) }

  pub block_found : (b : Bool) (trade : Trade) → BlockIs quotes exchanges trade b → TradeIs r trade → BlockFound quotes exchanges r b
  block_found b trade block is = record { so = λ h e past en reads held k. block.so h past (paper.trade e) en (trade_is r e reads trade is) held }

pub ruleset trade_laws = (block_small, block_below, block_above, trade_series, block_none, block_found)
