-- The table of periods beside the history: a home quote is marked in it, a whole execution begins a row anew, any other record leaves it.
use mathlib.Core.Path.{◌≡◌, refl, sym, ap, ◌∙◌}
use mathlib.Core.Bool.{Bool, true, false, not, ◌&&◌, and-false, or-false, or-true}
use mathlib.Core.List.{List, [], ◌∷◌}
use Prim.Native.Nat.{ℕ, ◌+◌, ◌-◌, ◌*◌, ◌<◌, ◌≤◌}
use native.Mathlib.Omega.{arith}
use lib.ListN.{get_or, length, set, length-set, replicate, length-replicate, get_or-replicate}
use lib.Seq.{get_or-set_same, get_or-set_other}
use borrow.Author.Tests.{eq-eqb, ne_eqb, eqb-true, eqb-false}
use Rattle.std.specs.Prelude.{◌==◌}
use Rattle.rules.specs.Limits.{most_exchanges}
use Rattle.rules.specs.Header.{Header}
use Rattle.rules.specs.Record as paper
use Rattle.rules.specs.Record.{Event, field, principal_order, quote_kind, received_kind}
use Rattle.rules.specs.Journal.{History}
use Rattle.rules.specs.Prices.{quotes}
use Rattle.rules.specs.Verdicts.{Execution, Period, no_period, begun, requotes, order_in, executes_whole, executed, goes_on, period_of, received_order}
use Rattle.rules.proofs.Tests.{by_test}
use Rattle.rows.specs.Rows.{Reads, Put, RecOk}
use Rattle.rows.specs.declared.Rec.{Rec}
use Rattle.quotes.specs.Tables.{many_series, Quoted, Statuses}
use Rattle.orders.specs.Orders.{Headed, Heads, as_order, OrderIs, shown_at, duty_as, ShownIs}
use Rattle.orders.specs.declared.Order.{Order}
use Rattle.orders.specs.declared.Duty.{Duty}
use Rattle.orders.proofs.OrderVerdicts.{order_is, order_from, order_to, order_series, home_within}
use Rattle.periods.specs.Periods.{period_words, period_word, period_at, Periods, Tidy, InPeriod, initial_of, ReceivedIs, shown_by, marked_by, Marked, Marking, Requoted}

-- ---- the empty table

pub periods_none : (h : Header) → Periods h [] (replicate period_words 0)
unfolding period_at period_of
periods_none h =
    record {
      stands = λ y l.
          let zero : period_word (replicate period_words 0) y 0 ≡ 0 = get_or-replicate period_words (y * 8 + 0) 0 0 (omega arith) in
          rw zero;
    }

pub tidy_none : Tidy (replicate period_words 0)
tidy_none =
    record {
      series_low = λ y l.
          let zero : period_word (replicate period_words 0) y 2 ≡ 0 = get_or-replicate period_words (y * 8 + 2) 0 0 (omega arith) in
          omega (arith, zero);
      long = length-replicate {A = ℕ} period_words 0;
    }

-- ---- what a quote shows

module _ (row : List ℕ) (side : ℕ) where
  pub shown_by_buy : side ≡ 1 → get_or row 5 0 ≡ shown_by row side
  unfolding shown_by
  shown_by_buy e = rw (eq-eqb _ _ e)

  pub shown_by_sell : (side ≡ 1 → ⊥) → get_or row 2 0 ≡ shown_by row side
  unfolding shown_by
  shown_by_sell e = rw (ne_eqb _ _ e)

-- ---- one row

-- rows of the same words tell the same period
same_row : (periods periods2 : List ℕ) (y : ℕ) → ((k : ℕ) → k < 6 → period_word periods2 y k ≡ period_word periods y k) → period_at periods2 y ≡ period_at periods y
unfolding period_at
same_row periods periods2 y same =
    rw (same 0 (omega arith), same 1 (omega arith), same 2 (omega arith), same 3 (omega arith), same 4 (omega arith), same 5 (omega arith))

module _ (periods : List ℕ) (y : ℕ) (row : List ℕ) where
  left_alone : (get_or row 1 0 == period_word periods y 2 && not (shown_by row (period_word periods y 3) == period_word periods y 4)) ≡ false → Marked periods y row periods
  unfolding period_at marked_by
  left_alone off =
      record {
        here = by_test (period_word periods y 0 == 0) (λ z. rw z) (λ z. rw (z, off, or-false));
        others = λ m ne. refl;
        series = λ m. refl;
        long = refl;
      }

  pub other_series : (period_word periods y 2 ≡ get_or row 1 0 → ⊥) → Marked periods y row periods
  other_series ne = left_alone (rw (ne_eqb (get_or row 1 0) (period_word periods y 2) (λ e. ne (sym e))))

  module _ (in_series : period_word periods y 2 ≡ get_or row 1 0) (p : ℕ) (ep : p ≡ shown_by row (period_word periods y 3)) where
    pub same_price : p ≡ period_word periods y 4 → Marked periods y row periods
    same_price e = left_alone (rw (eq-eqb (shown_by row (period_word periods y 3)) (period_word periods y 4) (sym ep ∙ e), and-false))

    pub another_price : (p ≡ period_word periods y 4 → ⊥) → y < most_exchanges → length periods ≡ period_words → Marked periods y row (set periods (y * 8 + 5) 1)
    unfolding period_at marked_by
    another_price ne low long =
        let after : List ℕ = set periods (y * 8 + 5) 1 in
        let kept : (m k : ℕ) → k < 8 → (m ≡ y → k ≡ 5 → ⊥) → period_word after m k ≡ period_word periods m k =
        λ m k l off. get_or-set_other periods (y * 8 + 5) (m * 8 + k) 1 0 (λ z. off (omega arith) (omega arith)) in
        let here : (k : ℕ) → k < 5 → period_word after y k ≡ period_word periods y k = λ k l. kept y k (omega arith) (λ a b. omega arith) in
        let flag : period_word after y 5 ≡ 1 = get_or-set_same periods (y * 8 + 5) 1 0 (omega arith) in
        let shows = ne_eqb (shown_by row (period_word periods y 3)) (period_word periods y 4) (λ z. ne (ep ∙ z)) in
        record {
          here =
              by_test (period_word periods y 0 == 0)
              (λ z. rw (here 0 (omega arith), z))
              (λ z.
              rw (here 0 (omega arith), here 1 (omega arith), here 2 (omega arith), here 3 (omega arith), here 4 (omega arith), flag, z, eq-eqb (get_or row 1 0) (period_word periods y 2) (sym in_series), shows, or-true));
          others = λ m off. same_row periods after m (λ k l. kept m k (omega arith) (λ a b. off a));
          series = λ m. kept m 2 (omega arith) (λ a b. omega arith);
          long = length-set periods (y * 8 + 5) 1;
        }

-- ---- every row

pub marking_starts : (periods row : List ℕ) → Tidy periods → Marking periods 0 row periods
marking_starts periods row tidy =
    record { done = λ m l. absurd (omega arith); others = λ m l. refl; tidy = tidy; low = omega arith }

pub marking_goes_on : (periods row : List ℕ) (y : ℕ) (periods2 periods3 : List ℕ) → Marking periods y row periods2 → y < most_exchanges → Marked periods2 y row periods3 → Marking periods (y + 1) row periods3
marking_goes_on periods row y periods2 periods3 g low m =
    record {
      done = λ k l.
          by_test (k == y)
          (λ e. rw (eqb-true k y e) (m.here ∙ ap (marked_by row) (g.others y (omega arith))))
          (λ e. m.others k (eqb-false k y e) ∙ g.done k (omega (arith, eqb-false k y e)));
      others = λ k l. m.others k (λ e. omega arith) ∙ g.others k (omega arith);
      tidy = record { series_low = λ k l. rw (m.series k) (g.tidy.series_low k l); long = m.long ∙ g.tidy.long };
      low = omega arith;
    }

pub marking_tidy : (periods row : List ℕ) (y : ℕ) (periods2 : List ℕ) → Marking periods y row periods2 → length periods2 ≡ period_words
marking_tidy periods row y periods2 g = g.tidy.long

-- ---- beside the history: what one event more does to a period

-- no event but a home quote that gave another price
goes_on_alone : (h : Header) (e : Event) → ((execution : Execution) → requotes h execution e ≡ false) → (p : Period) → goes_on h e p ≡ p
unfolding goes_on
goes_on_alone h e none no_period = refl
goes_on_alone h e none (begun execution) = rw (none execution, or-false)

requotes_alone : (h : Header) (e : Event) → (e.kind ≡ quote_kind → field e 0 ≡ h.home → ⊥) → (execution : Execution) → requotes h execution e ≡ false
unfolding requotes quotes
requotes_alone h e ne execution =
    by_test (e.kind == quote_kind)
    (λ k. rw (k, ne_eqb (field e 0) h.home (ne (eqb-true e.kind quote_kind k))))
    (λ k. rw k)

-- of what begins no period and is no home quote
stays : (h : Header) (e : Event) (past : History) (exchange : ℕ) → executes_whole h past (period_of h exchange past) exchange e ≡ false → (e.kind ≡ quote_kind → field e 0 ≡ h.home → ⊥)
    → period_of h exchange (e ∷ past) ≡ period_of h exchange past
unfolding period_of
stays h e past exchange none ne = rw none (goes_on_alone h e (requotes_alone h e ne) (period_of h exchange past))

unreceived : (h : Header) (e : Event) (past : History) (p : Period) (exchange : ℕ) → (e.kind ≡ received_kind → ⊥) → executes_whole h past p exchange e ≡ false
unfolding executes_whole
unreceived h e past p exchange ne = rw (ne_eqb e.kind received_kind ne)

pub periods_stay : (h : Header) (e : Event) (past : History) (periods : List ℕ) → (e.kind ≡ received_kind → ⊥) → (e.kind ≡ quote_kind → field e 0 ≡ h.home → ⊥)
    → Periods h past periods → Periods h (e ∷ past) periods
periods_stay h e past periods other away held =
    record { stands = λ y l. held.stands y l ∙ sym (stays h e past (y + 1) (unreceived h e past (period_of h (y + 1) past) (y + 1) other) away) }

-- ---- a home quote

module _ (r : Rec) (h : Header) (e : Event) (past : History) (reads : Reads e r) (k : e.kind ≡ quote_kind) (mine : field e 0 ≡ h.home) where
  quote_marks : (p : Period) → goes_on h e p ≡ marked_by r.row p
  unfolding goes_on marked_by requotes quotes shown_by
  quote_marks no_period = refl
  quote_marks (begun execution) =
      rw (eq-eqb e.kind quote_kind k, eq-eqb (field e 0) h.home mine, reads.fields 1, reads.fields 2, reads.fields 5)

  after_quote : (y : ℕ) → period_of h y (e ∷ past) ≡ marked_by r.row (period_of h y past)
  unfolding period_of
  after_quote y =
      rw (unreceived h e past (period_of h y past) y (λ z. omega (arith, k, z))) (quote_marks (period_of h y past))

pub marking_ends : (r : Rec) (periods : List ℕ) (y : ℕ) (periods2 : List ℕ) → Marking periods y r.row periods2 → most_exchanges ≤ y → Requoted r periods periods2
marking_ends r periods y periods2 g end =
    record {
      tidy = g.tidy;
      kept = λ h e past reads k mine held.
          record {
            stands = λ m l.
                g.done m (omega arith) ∙ ap (marked_by r.row) (held.stands m l) ∙ sym (after_quote r h e past reads k mine (m + 1));
          };
    }

pub ruleset mark_laws = (shown_by_buy, shown_by_sell, other_series, same_price, another_price, marking_starts, marking_goes_on, marking_tidy, marking_ends)

-- ---- a received order

module _ (exchanges home : ℕ) (r : Rec) (ok : RecOk exchanges home r) (k : r.kind ≡ received_kind) (order : Order) (is : OrderIs r order) where
  pub received_from : 1 ≤ order.other
  received_from = order_from exchanges home r (ok.received k) order is

  pub received_to : order.other ≤ exchanges
  received_to = order_to exchanges home r (ok.received k) order is

  pub received_series : order.series < many_series
  received_series = order_series exchanges home r (ok.received k) order is

  pub received_row : Headed exchanges home → (periods : List ℕ) → Tidy periods → (order.other - 1) * 8 + 8 ≤ length periods
  received_row hd periods tidy = omega (arith, received_from, received_to, hd.few, tidy.long)

module _ (quotes statuses periods : List ℕ) (exchanges home : ℕ) (sizes : List ℕ) (r : Rec) (hd : Headed exchanges home) (ok : RecOk exchanges home r) (k : r.kind ≡ received_kind)
    (tidy : Tidy periods) (order : Order) (is : OrderIs r order) (d : Duty) (judged : InPeriod quotes statuses periods exchanges home sizes r.time order d) where
  sender_one : 1 ≤ order.other
  sender_one = received_from exchanges home r ok k order is

  sender_to : order.other ≤ most_exchanges
  sender_to = omega (arith, received_to exchanges home r ok k order is, hd.few)

  module _ (h : Header) (e : Event) (past : History) (heads : Heads h exchanges home sizes) (reads : Reads e r) (held : Quoted past quotes) (hs : Statuses past statuses)
      (stands : Periods h past periods) where
    same_order : as_order order ≡ paper.order e
    same_order = order_is r e reads order is

    sender_is : (paper.order e).other ≡ order.other
    unfolding as_order
    sender_is = sym (ap (λ (z : paper.Order). z.other) same_order)

    type_is : (paper.order e).type ≡ order.kind
    unfolding as_order
    type_is = sym (ap (λ (z : paper.Order). z.type) same_order)

    own_row : period_at periods (order.other - 1) ≡ period_of h order.other past
    own_row = stands.stands (order.other - 1) (omega (arith, sender_to, sender_one)) ∙ ap (λ exchange. period_of h exchange past) (omega (arith, sender_one))

    -- the verdict
    verdict_is : duty_as d ≡ order_in h past (period_of h order.other past) e.time (paper.order e)
    verdict_is = rw (← own_row, reads.time, ← same_order) (judged.so h past heads held hs)

    pub answer_is : duty_as d ≡ received_order h past e
    unfolding received_order
    answer_is = verdict_is ∙ ap (λ exchange. order_in h past (period_of h exchange past) e.time (paper.order e)) (sym sender_is)

    not_a_quote : e.kind ≡ quote_kind → field e 0 ≡ h.home → ⊥
    not_a_quote z _ = omega (arith, z, reads.kind, k)

    -- whether an exchange's period begins with it
    begins : (exchange : ℕ) → executes_whole h past (period_of h exchange past) exchange e ≡ (order.other == exchange && initial_of order.kind d)
    unfolding executes_whole as_order initial_of
    begins exchange =
        by_test (order.other == exchange)
        (λ z.
        rw (← eqb-true order.other exchange z, ← verdict_is, eq-eqb e.kind received_kind (reads.kind ∙ k), sender_is, type_is, eq-eqb order.other order.other refl))
        (λ z. rw (sender_is, z, and-false (e.kind == received_kind)))

    -- where none does
    none_begins : initial_of order.kind d ≡ false → Periods h (e ∷ past) periods
    none_begins not_initial =
        record {
          stands = λ y l.
              stands.stands y l ∙ sym (stays h e past (y + 1) (begins (y + 1) ∙ rw (not_initial, and-false)) not_a_quote);
        }

  module _ (b : Bool) (eb : b ≡ initial_of order.kind d) where
    pub period_kept : b ≡ false → ReceivedIs quotes statuses periods exchanges home sizes r periods d
    period_kept z =
        record {
          tidy = tidy;
          so = answer_is;
          kept = λ h e past heads reads held hs stands. none_begins h e past heads reads held hs stands (sym eb ∙ z);
        }

    module _ (z : b ≡ true) (price : ℕ) (shown : ShownIs quotes home order.series order.side price) (periods2 : List ℕ)
        (p : Put periods periods2 (1 ∷ r.time ∷ get_or r.row 2 0 ∷ get_or r.row 3 0 ∷ price ∷ 0 ∷ 0 ∷ 0 ∷ []) (order.other - 1) 8) where
      begun_here : (h : Header) (e : Event) (past : History) → Heads h exchanges home sizes → Reads e r → Quoted past quotes → period_at periods2 (order.other - 1) ≡ begun (executed h past e)
      unfolding period_at shown_at
      begun_here h e past heads reads held =
          rw (p.here 0 (omega arith), p.here 1 (omega arith), p.here 2 (omega arith), p.here 3 (omega arith), p.here 4 (omega arith), p.here 5 (omega arith), reads.time, ← reads.fields 2, ← reads.fields 3, heads.home, shown.so past held, is.series, is.side)

      module _ (h : Header) (e : Event) (past : History) (heads : Heads h exchanges home sizes) (reads : Reads e r) (held : Quoted past quotes) (hs : Statuses past statuses)
          (stands : Periods h past periods) where
        -- the sender's row
        begun_row : period_at periods2 (order.other - 1) ≡ period_of h order.other (e ∷ past)
        unfolding period_of
        begun_row =
            let begun_by : executes_whole h past (period_of h order.other past) order.other e ≡ true =
            begins h e past heads reads held hs stands order.other ∙ rw (eq-eqb order.other order.other refl, ← eb, z) in
            rw begun_by (begun_here h e past heads reads held)

        -- another's
        left_row : (y : ℕ) → y < most_exchanges → (order.other ≡ y + 1 → ⊥) → period_at periods2 y ≡ period_of h (y + 1) (e ∷ past)
        left_row y l off =
            same_row periods periods2 y (λ k m. p.others y k (omega arith) (λ z. off (omega (arith, z, sender_one)))) ∙ stands.stands y l
            ∙ sym (stays h e past (y + 1) (begins h e past heads reads held hs stands (y + 1) ∙ rw (ne_eqb order.other (y + 1) off)) (not_a_quote h e past heads reads held hs stands))

        begun_kept : Periods h (e ∷ past) periods2
        begun_kept =
            record {
              stands = λ y l.
                  by_test (order.other == y + 1)
                  (λ z.
                  let same = eqb-true order.other (y + 1) z in
                  ap (period_at periods2) (omega (arith, same)) ∙ begun_row ∙ ap (λ exchange. period_of h exchange (e ∷ past)) same)
                  (λ z. left_row y l (eqb-false order.other (y + 1) z));
            }

      new_series : (y : ℕ) → y < most_exchanges → period_word periods2 y 2 < many_series
      new_series y l =
          by_test (y == order.other - 1)
          (λ z. rw (eqb-true y (order.other - 1) z, p.here 2 (omega arith)) (omega (arith, (ok.received k).series)))
          (λ z. rw (p.others y 2 (omega arith) (eqb-false y (order.other - 1) z)) (tidy.series_low y l))

      pub period_begun : ReceivedIs quotes statuses periods exchanges home sizes r periods2 d
      period_begun =
          record {
            tidy = record { series_low = new_series; long = p.long ∙ tidy.long };
            so = answer_is;
            kept = begun_kept;
          }

pub ruleset keep_laws = (received_from, received_to, received_series, received_row, period_kept, period_begun, home_within)
