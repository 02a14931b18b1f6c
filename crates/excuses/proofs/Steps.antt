-- A sent order, a response, and a record of any kind, as the code takes them.
use mathlib.Core.Path.{◌≡◌, refl, sym, ap, ◌∙◌}
use mathlib.Core.Bool.{and-false}
use mathlib.Core.List.{List, [], ◌∷◌}
use Prim.Native.Nat.{ℕ, zero, suc, ◌+◌, ◌*◌, ◌<◌, ◌≤◌}
use native.Mathlib.Omega.{arith}
use lib.Dec.{eqb}
use lib.ListN.{get_or, length, set, replicate, length-replicate}
use borrow.Author.Tests.{eq-eqb, ne_eqb, eqb-true, eqb-false}
use Rattle.rules.specs.Basics.{keep, bit}
use Rattle.rules.specs.Limits.{most_exchanges, most_sent_orders}
use Rattle.rules.specs.Record.{Event, field, order, is_sent, quote_kind, sent_kind, response_kind}
use Rattle.rules.specs.Journal.{History, count, sent_at}
use Rattle.rules.proofs.Tests.{by_test, replicate_at}
use Rattle.rows.specs.Rows.{Reads, word, Put, QuoteOk, OrderOk, RecOk}
use Rattle.rows.specs.declared.Rec.{Rec}
use Rattle.quotes.specs.Tables.{Within, RowIs}
use Rattle.quotes.proofs.QuoteLaws.{record_placed as quotes_placed}
use Rattle.excuses.specs.Excuses.{order_words, many_chains, chain_words, stands, Excused, chain_of, OrderRow, Chains, FitsOrders, ResponseKept, ExcusesStep}
use Rattle.excuses.proofs.OrderLaws.{kind_not, stands_older, stands_kept, fill_ends, other_fill_ends_none, excused_after, excused_alone, excused_sent}
use Rattle.excuses.proofs.ChainLaws.{cleared_here, cleared_word, cleared_other, chains_cleared, chains_more, chains_none}

-- ---- where a record goes

pub record_placed : (exchanges home sent : ℕ) (r : Rec) → RecOk exchanges home r → exchanges ≤ most_exchanges
    → (r.kind ≡ sent_kind → sent < most_sent_orders) → (r.kind ≡ response_kind → word r 0 < sent) → FitsOrders r sent
record_placed exchanges home sent r ok few room known =
    record {
      quote = (quotes_placed exchanges home r ok few).quote;
      sent = λ k. let g = ok.sent k in
          record {
            type_from_one = g.type_from_one;
            type = g.type;
            other =
                record {
                  from_one = g.other.from_one;
                  to_n = omega (arith, g.other.to_n);
                  not_home = λ z. omega (arith, g.other.from_one);
                };
            series = g.series;
            side_from_one = g.side_from_one;
            side = g.side;
            price = g.price;
            price_from_one = g.price_from_one;
            size = g.size;
            size_from_one = g.size_from_one;
          };
      room = room;
      response = known;
    }

module _ (r : Rec) (sent : ℕ) (pl : FitsOrders r sent) where
  pub quote_in_range : r.kind ≡ quote_kind → QuoteOk most_exchanges r
  quote_in_range k = pl.quote k

  pub order_in_range : r.kind ≡ sent_kind → OrderOk most_exchanges 0 r
  order_in_range k = pl.sent k

  pub room_left : r.kind ≡ sent_kind → sent < most_sent_orders
  room_left k = pl.room k

  pub order_known : r.kind ≡ response_kind → word r 0 < sent
  order_known k = pl.response k

pub quote_within : (r : Rec) → QuoteOk most_exchanges r → (exchange series : ℕ) → exchange ≡ word r 0 → series ≡ word r 1 → Within exchange series
quote_within r g exchange series ex es =
    record { from_one = omega (arith, g.exchange.from_one); to_eight = omega (arith, g.exchange.to_n); low = omega (arith, g.series) }

pub order_within : (r : Rec) → OrderOk most_exchanges 0 r → (exchange series : ℕ) → exchange ≡ word r 1 → series ≡ word r 2 → Within exchange series
order_within r g exchange series ex es =
    record { from_one = omega (arith, g.other.from_one); to_eight = omega (arith, g.other.to_n); low = omega (arith, g.series) }

-- ---- a sent order

module _ (r : Rec) (orders orders2 chains : List ℕ) (sent : ℕ) (g : OrderOk most_exchanges 0 r) (k4 : r.kind ≡ sent_kind) (room : sent < most_sent_orders) (c : Chains orders chains sent)
    (put : Put orders orders2 (word r 0 ∷ word r 1 ∷ word r 2 ∷ word r 3 ∷ word r 4 ∷ word r 5 ∷ r.time ∷ 1 ∷ []) sent 8) where
  new_row : OrderRow orders2 sent
  new_row =
      record {
        from_one = rw (put.here 1 (omega arith)) g.other.from_one;
        to_eight = rw (put.here 1 (omega arith)) g.other.to_n;
        series = rw (put.here 2 (omega arith)) (omega (arith, g.series));
        price = rw (put.here 4 (omega arith)) g.price_from_one;
        flag = rw (put.here 7 (omega arith)) (omega arith);
      }

  new_chain : (exchange series k : ℕ) → RowIs exchange series k → exchange ≡ word r 1 → series ≡ word r 2 → chain_of orders2 sent ≡ k
  unfolding chain_of
  new_chain exchange series k at ex es = rw (put.here 1 (omega arith), put.here 2 (omega arith), ← ex, ← es) (sym at.is)

  six : (i : ℕ) → i < 6
      → get_or (word r 0 ∷ word r 1 ∷ word r 2 ∷ word r 3 ∷ word r 4 ∷ word r 5 ∷ r.time ∷ 1 ∷ []) i 0 ≡ word r i
  six zero h = refl
  six (suc zero) h = refl
  six (suc (suc zero)) h = refl
  six (suc (suc (suc zero))) h = refl
  six (suc (suc (suc (suc zero)))) h = refl
  six (suc (suc (suc (suc (suc zero))))) h = refl
  six (suc (suc (suc (suc (suc (suc i)))))) h = let z : ⊥ = omega arith in elim z [ ]

  pub order_taken : (exchange series k w : ℕ) → RowIs exchange series k → exchange ≡ word r 1 → series ≡ word r 2 → w ≡ sent + 1
      → ExcusesStep r orders sent orders2 (set (set chains (many_chains + sent) (get_or chains k 0)) k w) (sent + 1)
  order_taken exchange series k w at ex es ew =
      record {
        chains = chains_more orders orders2 chains sent k w c room at.small ew put.others new_row (new_chain exchange series k at ex es) put.long;
        so = λ e past rd held. excused_sent past orders sent e held r orders2 _ rd k4 put six refl refl;
      }

-- ---- a response

module _ (r : Rec) (orders : List ℕ) (sent m : ℕ) (known : word r 0 < sent) (k5 : r.kind ≡ response_kind) where
  module _ (em : m ≡ word r 0) (e : Event) (past : History) (rd : Reads e r) (held : Excused past orders sent) where
    is_known : m < sent
    is_known = omega arith

    ek : e.kind ≡ response_kind
    ek = rd.kind ∙ k5

    names : field e 0 ≡ m
    names = sym (rd.fields 0) ∙ sym em

    older : (a : ℕ) → a < sent → a < count is_sent past
    older a h = omega (arith, held.numbered)

    size_is : get_or orders (m * 8 + 5) 0 ≡ (order (sent_at m past)).size
    size_is = held.fields m 5 is_known (omega arith)

    others_stand : (a : ℕ) → a < sent → (a ≡ m → ⊥) → stands a (e ∷ past) ≡ stands a past
    others_stand a h ne = stands_kept a e past (older a h) (other_fill_ends_none a _ e ek (λ q. ne (sym q ∙ names)))

    after_fill : (sent ≤ most_sent_orders) → length orders ≡ order_words → get_or orders (m * 8 + 5) 0 ≡ word r 1 → Excused (e ∷ past) (set orders (m * 8 + 7) 0) sent
    after_fill few long full =
        let hm : m < most_sent_orders = omega (arith, is_known) in
        excused_after past orders sent e held (kind_not e ek (λ z. omega arith)) (set orders (m * 8 + 7) 0) (λ a i ha hi. cleared_word orders m hm long a i hi)
        (λ a ha. by_test (eqb a m)
        (λ q. rw (
          eqb-true a m q,
          stands_older m e past (older m is_known),
          fill_ends m (order (sent_at m past)) e ek names,
          eq-eqb (field e 1) (order (sent_at m past)).size (sym (rd.fields 1) ∙ sym full ∙ size_is),
          and-false (stands m past),
        )
        (cleared_here orders m hm long))
        (λ q. let ne = eqb-false a m q in cleared_other orders m hm long a ne ∙ held.flags a ha ∙ ap bit (sym (others_stand a ha ne))))

    after_part : (get_or orders (m * 8 + 5) 0 ≡ word r 1 → ⊥) → Excused (e ∷ past) orders sent
    after_part part =
        excused_after past orders sent e held (kind_not e ek (λ z. omega arith)) orders (λ a i ha hi. refl)
        (λ a ha. held.flags a ha ∙ ap bit (sym (by_test (eqb a m)
        (λ q. let z = eqb-true a m q in
        stands_kept a e past (older a ha)
        (rw z (fill_ends m (order (sent_at m past)) e ek names ∙ ne_eqb (field e 1) (order (sent_at m past)).size (λ w. part (size_is ∙ sym w ∙ sym (rd.fields 1))))))
        (λ q. others_stand a ha (eqb-false a m q)))))

  pub filled_in_full : get_or orders (m * 8 + 5) 0 ≡ word r 1 → m ≡ word r 0 → sent ≤ most_sent_orders → length orders ≡ order_words
      → ResponseKept r orders sent (set orders (m * 8 + 7) 0)
  filled_in_full full em few long =
      let hm : m < most_sent_orders = omega (arith, em) in
      record {
        chains = λ chains c. chains_cleared orders m hm long chains sent c;
        so = λ e past rd held. after_fill em e past rd held few long full;
      }

  pub filled_in_part : (get_or orders (m * 8 + 5) 0 ≡ word r 1 → ⊥) → m ≡ word r 0 → ResponseKept r orders sent orders
  filled_in_part part em = record { chains = λ chains c. c; so = λ e past rd held. after_part em e past rd held part }

-- ---- a record of any kind

pub response_taken : (r : Rec) (orders orders2 chains : List ℕ) (sent : ℕ) → Chains orders chains sent → ResponseKept r orders sent orders2 → ExcusesStep r orders sent orders2 chains sent
response_taken r orders orders2 chains sent c f = record { chains = f.chains chains c; so = f.so }

pub excuses_alone : (r : Rec) (orders chains : List ℕ) (sent : ℕ) → Chains orders chains sent → (r.kind ≡ quote_kind → ⊥) → (r.kind ≡ sent_kind → ⊥) → (r.kind ≡ response_kind → ⊥)
    → ExcusesStep r orders sent orders chains sent
excuses_alone r orders chains sent c k1 k4 k5 =
    record {
      chains = c;
      so =
          λ e past rd held. excused_alone past orders sent e held (λ z. k1 (sym rd.kind ∙ z)) (λ z. k4 (sym rd.kind ∙ z)) (λ z. k5 (sym rd.kind ∙ z));
    }

pub ruleset step_laws = (quote_in_range, order_in_range, quote_within, order_within, room_left, order_known, order_taken, filled_in_full, filled_in_part, response_taken, excuses_alone)

-- ---- the start

pub excuses_none : Excused [] (replicate order_words 0) 0
unfolding count keep
excuses_none =
    record {
      numbered = refl;
      fields = λ m i hm hi. absurd (omega arith);
      times = λ m hm. absurd (omega arith);
      flags = λ m hm. absurd (omega arith);
    }

pub no_chains : Chains (replicate order_words 0) (replicate chain_words 0) 0
no_chains = chains_none (replicate order_words 0) (replicate chain_words 0) (length-replicate {A = ℕ} order_words 0) (length-replicate {A = ℕ} chain_words 0) (λ k. replicate_at {A = ℕ} chain_words k 0)
