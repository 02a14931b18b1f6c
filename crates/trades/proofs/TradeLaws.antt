-- What one more record does to the tables of trades.
use mathlib.Core.Path.{◌≡◌, refl, sym, ap, ◌∙◌}
use mathlib.Core.Bool.{Bool, true, false}
use mathlib.Core.List.{List, [], ◌∷◌}
use Prim.Native.Nat.{ℕ, ◌+◌, ◌*◌, ◌<◌, ◌≤◌}
use native.Mathlib.Omega.{arith}
use mir.Val.{bool_byte}
use lib.Dec.{eqb}
use lib.ListN.{get_or, length}
use borrow.Author.Tests.{eq-eqb, ne_eqb, eqb-true, eqb-false}
use Rattle.rules.specs.Basics.{keep, bit}
use Rattle.rules.specs.Limits.{most_exchanges, most_trades}
use Rattle.rules.specs.Header.{Header}
use Rattle.rules.specs.Record.{Event, trade, is_trade, trade_kind}
use Rattle.rules.specs.Journal.{History, count, trade_at, before_trade, closing_begun}
use Rattle.rules.specs.Verdicts.{side_through, is_block}
use Rattle.rules.specs.Due.{capped}
use Rattle.rules.proofs.Tests.{by_test}
use Rattle.rules.proofs.Histories.{count_cons, count_skip, trade_at_older, trade_at_new, before_trade_older, before_trade_new}
use Rattle.rows.specs.Rows.{Reads, word, Put, RecOk}
use Rattle.rows.specs.declared.Rec.{Rec}
use Rattle.quotes.specs.Tables.{many_series}
use Rattle.orders.specs.Orders.{Headed}
use Rattle.trades.specs.Trades.{snap, snap_at, snap_words, trade_row, trade_words, Traded, Snaps, SidesAre, CapIs, FitsTrades, TradesStep}

-- ---- a record of another kind

module _ (h : Header) (past : History) (trades shown : List ℕ) (traded : ℕ) (e : Event) (held : Traded h past trades shown traded) where
  pub trades_alone : (e.kind ≡ trade_kind → ⊥) → Traded h (e ∷ past) trades shown traded
  trades_alone ne =
      record {
        numbered = held.numbered ∙ sym (count_skip is_trade e past (ne_eqb e.kind trade_kind ne));
        rows = λ m i hm hi. rw (trade_at_older m e past (older m hm), before_trade_older m e past (older m hm)) (held.rows m i hm hi);
        snaps = λ m y i hm hy hi. rw (trade_at_older m e past (older m hm), before_trade_older m e past (older m hm)) (held.snaps m y i hm hy hi);
      }
    where
      older : (m : ℕ) → m < traded → m < count is_trade past
      older m hm = omega (arith, held.numbered)

-- ---- a trade

-- a truth as a word is a bit
pub bit_from : (b : Bool) (n : ℕ) → n ≡ bool_byte b → n ≡ bit b
bit_from true n e = e
bit_from false n e = e

row_is : (r : Rec) (h : Header) (e : Event) (past : History) (b c d : Bool) → Reads e r → b ≡ is_block h past (trade e) → c ≡ capped h past (trade e) → d ≡ closing_begun past
    → (word r 1 ∷ word r 2 ∷ bit b ∷ word r 4 ∷ word r 5 ∷ (r.time + word r 6) ∷ bit c ∷ bit d ∷ []) ≡ trade_row h e past
unfolding trade_row
row_is r h e past b c d rd eb ec ed =
    rw (rd.fields 1, rd.fields 2, rd.fields 4, rd.fields 5, rd.fields 6, ← rd.time, eb, ec, ed)

side_is : (past : History) (e : Event) (y : ℕ) → get_or (snap_at e past y) 0 0 ≡ side_through past (trade e) (y + 1)
unfolding snap side_through
side_is past e y = refl

module _ (r : Rec) (home exchanges : ℕ) (sizes : List ℕ) (block closing : Bool) (quotes statuses orders : List ℕ) (sent : ℕ) (trades shown : List ℕ) (n : ℕ) where
  pub trade_taken : Headed exchanges home → FitsTrades r n → r.kind ≡ trade_kind → (trades2 shown2 : List ℕ)
      → Snaps quotes statuses orders sent n (word r 0) (word r 1) r.time shown shown2 exchanges → (large : Bool) → CapIs shown2 n home exchanges sizes (word r 2) large
      → (b c d : ℕ) → b ≡ bit block → c ≡ bit large → d ≡ bit closing
      → Put trades trades2 (word r 1 ∷ word r 2 ∷ b ∷ word r 4 ∷ word r 5 ∷ (r.time + word r 6) ∷ c ∷ d ∷ []) n 8
      → TradesStep r home exchanges sizes block closing quotes statuses orders sent trades shown n trades2 shown2 (n + 1)
  trade_taken ok pl kind trades2 shown2 k large cis b c d eb ec ed put =
      record {
        so =
            λ h e past is rd blocks closes qs ss os held.
            let ek : e.kind ≡ trade_kind = rd.kind ∙ kind in
            let is_t : is_trade e ≡ true = eq-eqb e.kind trade_kind ek in
            let new_t : trade_at n (e ∷ past) ≡ e = trade_at_new n e past is_t held.numbered in
            let new_b : before_trade n (e ∷ past) ≡ past = before_trade_new n e past is_t held.numbered in
            let there : (y i : ℕ) → y < h.exchanges → i < snap_words → get_or shown2 ((n * most_exchanges + y) * 8 + i) 0 ≡ get_or (snap_at e past y) i 0 =
            λ y i hy hi. (let hx : y < exchanges = (let z = is.exchanges in omega arith) in
            rw (rd.fields 0, rd.fields 1, ← rd.time) at (k.here past qs ss os y i hx hi)) in
            let sides : SidesAre h past (trade e) shown2 n =
            record { side = λ y hy. there y 0 hy (omega arith) ∙ side_is past e y } in
            let row : (word r 1 ∷ word r 2 ∷ b ∷ word r 4 ∷ word r 5 ∷ (r.time + word r 6) ∷ c ∷ d ∷ []) ≡ trade_row h e past =
            rw (eb, ec, ed) (row_is r h e past block large closing rd (blocks ek) (cis.so h past (trade e) is sides (sym (rd.fields 2))) closes) in
            record {
              numbered = omega (arith, held.numbered, count_cons is_trade e past is_t);
              rows =
                  λ m i hm hi. by_test (eqb m n)
                  (λ z. rw (eqb-true m n z, new_t, new_b)
                  (put.here i hi ∙ ap (λ (l : List ℕ). get_or l i 0) row))
                  (λ z. let ne = eqb-false m n z in
                  let old : m < count is_trade past = omega (arith, ne, held.numbered) in
                  rw (trade_at_older m e past old, before_trade_older m e past old) (put.others m i hi ne ∙ held.rows m i (omega (arith, ne)) hi));
              snaps =
                  λ m y i hm hy hi. by_test (eqb m n)
                  (λ z. rw (eqb-true m n z, new_t, new_b) (there y i hy hi))
                  (λ z. let ne = eqb-false m n z in
                  let old : m < count is_trade past = omega (arith, ne, held.numbered) in
                  rw (trade_at_older m e past old, before_trade_older m e past old)
                  (k.others m y i (omega (arith, ok.few, is.exchanges)) (omega arith) ne ∙ held.snaps m y i (omega (arith, ne)) hy hi));
            };
        few = omega (arith, pl.room kind);
      }

  pub no_trade : n ≤ most_trades → (r.kind ≡ trade_kind → ⊥) → TradesStep r home exchanges sizes block closing quotes statuses orders sent trades shown n trades shown n
  no_trade few ne =
      record {
        so = λ h e past is rd blocks closes qs ss os held. trades_alone h past trades shown n e held (λ z. ne (sym rd.kind ∙ z));
        few = few;
      }

-- what the code of a trade needs of its record
module _ (r : Rec) (n : ℕ) (pl : FitsTrades r n) (kind : r.kind ≡ trade_kind) where
  pub trade_has_room : n < most_trades
  trade_has_room = pl.room kind

  pub kept_row_fits : (trades : List ℕ) → length trades ≡ trade_words → n * 8 + 8 ≤ length trades
  kept_row_fits trades long = omega (arith, trade_has_room, long)

  pub series_known : word r 0 < many_series
  series_known = omega (arith, (pl.trade kind).series)

  pub report_fits : r.time + word r 6 < 4294967296
  report_fits = omega (arith, pl.time, (pl.trade kind).delay)

pub ruleset trade_laws = (no_trade, trade_has_room, kept_row_fits, series_known, report_fits)

pub record_placed : (exchanges home n : ℕ) (r : Rec) → RecOk exchanges home r → exchanges ≤ most_exchanges → (r.kind ≡ trade_kind → n < most_trades) → FitsTrades r n
record_placed exchanges home n r ok few room =
    record {
      time = ok.time;
      trade = λ k. let g = ok.trade k in
          record {
            series = g.series;
            price = g.price;
            price_from_one = g.price_from_one;
            size = g.size;
            size_from_one = g.size_from_one;
            form = g.form;
            complex = g.complex;
            initiator = omega (arith, g.initiator);
            delay = g.delay;
          };
      room = room;
    }

-- the start
pub trades_none : (h : Header) (trades shown : List ℕ) → Traded h [] trades shown 0
unfolding count keep
trades_none h trades shown = record { numbered = refl; rows = λ m i hm hi. absurd (omega arith); snaps = λ m y i hm hy hi. absurd (omega arith) }
