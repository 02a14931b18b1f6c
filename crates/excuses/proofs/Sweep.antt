-- A quote on its way down a chain: the excuses that it ends, the orders that leave the chain, and what is so at the end.
use mathlib.Core.Path.{◌≡◌, refl, sym, ap, ◌∙◌}
use mathlib.Core.Bool.{Bool, true, false, not}
use mathlib.Core.List.{List, ◌∷◌}
use Prim.Native.Nat.{ℕ, ◌+◌, ◌-◌, ◌*◌, ◌<◌, ◌≤◌}
use native.Mathlib.Omega.{arith}
use lib.Dec.{eqb, ltb}
use lib.ListN.{get_or, length, set}
use lib.Seq.{get_or-set_same}
use borrow.Author.Tests.{eq-eqb, ne_eqb, eqb-true, eqb-false, ltb-true, ltb-false}
use Rattle.std.specs.Prelude.{◌==◌}
use Rattle.rules.specs.Basics.{bit}
use Rattle.rules.specs.Limits.{most_sent_orders}
use Rattle.rules.specs.Record.{Event, order, is_sent, quote_kind}
use Rattle.rules.specs.Journal.{History, count, sent_at}
use Rattle.rules.proofs.Tests.{by_test, bit_is, and_left}
use Rattle.rows.specs.Rows.{Reads, word}
use Rattle.rows.specs.declared.Rec.{Rec}
use Rattle.quotes.specs.Tables.{many_series, Within, RowIs}
use Rattle.excuses.specs.Excuses.{order_words, many_chains, stands, Excused, chain_of, Link, OrderRow, Chains, backed, outlived, flag_after, Sweeping, ExcusesStep}
use Rattle.excuses.proofs.OrderLaws.{kind_not, stands_older, stands_kept, quote_ends, other_quote_ends_none, excused_after}
use Rattle.excuses.proofs.ChainLaws.{chain_same, cleared_here, cleared_word, cleared_other, cleared_chain, chains_cleared, chains_without}

-- ---- the chain of an order is the one of its exchange and series

pub in_chain : (orders : List ℕ) (m exchange series : ℕ) → OrderRow orders m → Within exchange series → chain_of orders m ≡ (exchange - 1) * many_series + series
    → (get_or orders (m * 8 + 1) 0 ≡ exchange) × (get_or orders (m * 8 + 2) 0 ≡ series)
unfolding chain_of
in_chain orders m exchange series o w e = (omega (arith, o.from_one, o.to_eight, o.series, w.from_one, w.to_eight, w.low), omega (arith, o.from_one, o.to_eight, o.series, w.from_one, w.to_eight, w.low))

pub not_in_chain : (orders : List ℕ) (m exchange series : ℕ) → (chain_of orders m ≡ (exchange - 1) * many_series + series → ⊥) → get_or orders (m * 8 + 1) 0 ≡ exchange → get_or orders (m * 8 + 2) 0 ≡ series → ⊥
unfolding chain_of
not_in_chain orders m exchange series ne p q = ne (rw (p, q))

-- ---- the flags that a quote leaves are those of the history with it

module _ (r : Rec) (orders : List ℕ) (sent m exchange series : ℕ) (k1 : r.kind ≡ quote_kind) (hm : m < sent) (o : OrderRow orders m) (w : Within exchange series)
    (ex : exchange ≡ word r 0) (es : series ≡ word r 1) (e : Event) (past : History) (rd : Reads e r) (held : Excused past orders sent) where
  older : m < count is_sent past
  older = omega (arith, held.numbered)

  in_its_chain : chain_of orders m ≡ (exchange - 1) * many_series + series
      → bit (outlived (get_or orders (m * 8 + 7) 0) (get_or orders (m * 8 + 3) 0) (get_or orders (m * 8 + 4) 0) (word r 2) (word r 5)) ≡ bit (stands m (e ∷ past))
  unfolding outlived
  in_its_chain c =
      let at = in_chain orders m exchange series o w c in
      rw (
        stands_older m e past older,
        quote_ends m (order (sent_at m past)) e (rd.kind ∙ k1)
            (sym (rd.fields 0) ∙ sym ex ∙ sym at.0 ∙ held.fields m 1 hm (omega arith))
            (sym (rd.fields 1) ∙ sym es ∙ sym at.1 ∙ held.fields m 2 hm (omega arith)),
        held.flags m hm,
        bit_is (stands m past),
        held.fields m 3 hm (omega arith),
        held.fields m 4 hm (omega arith),
        rd.fields 2,
        rd.fields 5,
      )

  in_another : (chain_of orders m ≡ (exchange - 1) * many_series + series → ⊥) → get_or orders (m * 8 + 7) 0 ≡ bit (stands m (e ∷ past))
  in_another ne =
      held.flags m hm
      ∙ ap bit (sym (stands_kept m e past older
      (other_quote_ends_none m (order (sent_at m past)) e (rd.kind ∙ k1)
      (λ p q. not_in_chain orders m exchange series ne
      (held.fields m 1 hm (omega arith) ∙ sym p ∙ sym (rd.fields 0) ∙ sym ex)
      (held.fields m 2 hm (omega arith) ∙ sym q ∙ sym (rd.fields 1) ∙ sym es)))))

  flag_after_is : flag_after orders ((exchange - 1) * many_series + series) (word r 2) (word r 5) m ≡ bit (stands m (e ∷ past))
  unfolding flag_after
  flag_after_is =
      by_test (eqb (chain_of orders m) ((exchange - 1) * many_series + series))
      (λ z. rw z (in_its_chain (eqb-true (chain_of orders m) ((exchange - 1) * many_series + series) z)))
      (λ z. rw z (in_another (eqb-false (chain_of orders m) ((exchange - 1) * many_series + series) z)))

-- ---- an order that the chain does not lead to keeps its flag

passed_by : (orders : List ℕ) (k bid offer b j m : ℕ) → OrderRow orders m → Link orders k b j → m < b → j ≤ m → get_or orders (m * 8 + 7) 0 ≡ flag_after orders k bid offer m
unfolding flag_after outlived
passed_by orders k bid offer b j m o l hb hj =
    by_test (eqb (chain_of orders m) k)
    (λ z. let not_one : get_or orders (m * 8 + 7) 0 ≡ 1 → ⊥ = λ q. (let a : m < j = l.all m hb (eqb-true (chain_of orders m) k z) q in omega arith) in
    rw (z, ne_eqb (get_or orders (m * 8 + 7) 0) 1 not_one) (omega (arith, o.flag, not_one)))
    (λ z. rw z)

flag_same : (orders orders2 : List ℕ) (k bid offer m : ℕ) → chain_of orders2 m ≡ chain_of orders m → get_or orders2 (m * 8 + 3) 0 ≡ get_or orders (m * 8 + 3) 0
    → get_or orders2 (m * 8 + 4) 0 ≡ get_or orders (m * 8 + 4) 0 → get_or orders2 (m * 8 + 7) 0 ≡ get_or orders (m * 8 + 7) 0 → flag_after orders2 k bid offer m ≡ flag_after orders k bid offer m
unfolding flag_after
flag_same orders orders2 k bid offer m a b c d = rw (a, b, c, d)

flag_in_chain : (orders : List ℕ) (k bid offer m : ℕ) → chain_of orders m ≡ k
    → flag_after orders k bid offer m ≡ bit (outlived (get_or orders (m * 8 + 7) 0) (get_or orders (m * 8 + 3) 0) (get_or orders (m * 8 + 4) 0) bid offer)
unfolding flag_after
flag_in_chain orders k bid offer m c = rw (eq-eqb (chain_of orders m) k c)

outlived_stood : (flag side price bid offer : ℕ) → outlived flag side price bid offer ≡ true → flag ≡ 1
unfolding outlived
outlived_stood flag side price bid offer q = eqb-true flag 1 (and_left (flag == 1) (not (backed side price bid offer)) q)

-- ---- the loop

pub sweep_start : (orders chains : List ℕ) (sent k bid offer i exchange series : ℕ) → Chains orders chains sent → RowIs exchange series k → i ≡ get_or chains k 0
    → Sweeping orders orders chains sent k bid offer k i
sweep_start orders chains sent k bid offer i exchange series c at ei =
    let l : Link orders k sent i = rw ei (c.heads k at.small) in
    record {
      chains = c;
      words = λ m j hm hj. refl;
      passed = λ m h hm. passed_by orders k bid offer sent i m (c.rows m hm) l hm h;
      ahead = λ m h. refl;
      link = ei;
      head = λ h. refl;
      next = λ h. absurd (omega (arith, at.small));
      known = at.small;
      place = omega (arith, at.small);
      low = l.down;
      few = c.few;
      own = l.own;
    }

module _ (orders orders2 chains2 : List ℕ) (sent k bid offer last i : ℕ) (sw : Sweeping orders orders2 chains2 sent k bid offer last i) (m : ℕ) (step : (1 ≤ i) × (m ≡ i - 1)) where
  pos : 0 < i
  pos = omega (arith, step.0)

  here : m < sent
  here = omega (arith, step.0, step.1, sw.low)

  mine : chain_of orders2 m ≡ k
  mine = rw step.1 (sw.own pos)

  pub sweep_price : 1 ≤ get_or orders2 (m * 8 + 4) 0
  sweep_price = (sw.chains.rows m here).price

  module _ (j : ℕ) (ej : j ≡ get_or chains2 (many_chains + m) 0) where
    rest : Link orders2 k m j
    rest = rw (ej, ← mine) (sw.chains.nexts m here)

    pub sweep_less : j < i
    sweep_less = omega (arith, rest.down)

    -- orders between that the chain does not lead to
    between : (n : ℕ) → n < m → j ≤ n → get_or orders2 (n * 8 + 7) 0 ≡ flag_after orders k bid offer n
    between n h g =
        let hm : n < sent = omega (arith, sw.low) in
        passed_by orders2 k bid offer m j n (sw.chains.rows n hm) rest h g
        ∙ flag_same orders orders2 k bid offer n (chain_same orders orders2 n (sw.words n 1 hm (omega arith)) (sw.words n 2 hm (omega arith)))
        (sw.words n 3 hm (omega arith)) (sw.words n 4 hm (omega arith)) (sw.ahead n (omega arith))

    -- the order itself
    itself : flag_after orders k bid offer m
        ≡ bit (outlived (get_or orders2 (m * 8 + 7) 0) (get_or orders2 (m * 8 + 3) 0) (get_or orders2 (m * 8 + 4) 0) bid offer)
    itself =
        sym (flag_same orders orders2 k bid offer m (chain_same orders orders2 m (sw.words m 1 here (omega arith)) (sw.words m 2 here (omega arith)))
        (sw.words m 3 here (omega arith)) (sw.words m 4 here (omega arith)) (sw.ahead m (omega arith)))
        ∙ flag_in_chain orders2 k bid offer m mine

    module _ (b : Bool)
        (eb : b ≡ outlived (get_or orders2 (m * 8 + 7) 0) (get_or orders2 (m * 8 + 3) 0) (get_or orders2 (m * 8 + 4) 0) bid offer) where
      pub sweep_keep : b ≡ true → Sweeping orders orders2 chains2 sent k bid offer (many_chains + m) j
      sweep_keep p =
          record {
            chains = sw.chains;
            words = sw.words;
            passed =
                λ n h hm. by_test (ltb n i)
                (λ z. let lt : n < i = ltb-true n i z in
                by_test (eqb n m)
                (λ q. rw (eqb-true n m q, itself, ← eb, p) (outlived_stood _ _ _ _ _ (sym eb ∙ p)))
                (λ q. between n (omega (arith, eqb-false n m q)) h))
                (λ z. sw.passed n (ltb-false n i z) hm);
            ahead = λ n h. sw.ahead n (omega (arith, sweep_less));
            link = ej;
            head = λ h. absurd (omega arith);
            next = λ h. let z : many_chains + m - many_chains ≡ m = omega arith in rw z (here, mine);
            known = sw.known;
            place = omega (arith, sw.low, sw.few);
            low = omega (arith, sweep_less, sw.low);
            few = sw.few;
            own = rest.own;
          }

      pub sweep_drop : b ≡ false → Sweeping orders (set orders2 (m * 8 + 7) 0) (set chains2 last (get_or chains2 (many_chains + m) 0)) sent k bid offer last j
      sweep_drop p =
          let hk : m < most_sent_orders = omega (arith, sw.low, sw.few) in
          let lt : length orders2 ≡ order_words = sw.chains.long in
          let cleared : List ℕ = set orders2 (m * 8 + 7) 0 in
          let gone : get_or cleared (m * 8 + 7) 0 ≡ 0 = cleared_here orders2 m hk lt in
          record {
            chains =
                chains_without cleared chains2 sent k last i (chains_cleared orders2 m hk lt chains2 sent sw.chains) pos sw.low sw.link sw.head
                (λ h. ((sw.next h).0, cleared_chain orders2 m hk lt (last - many_chains) ∙ (sw.next h).1)) sw.place sw.known
                (rw (← step.1) (cleared_chain orders2 m hk lt m ∙ mine)) (rw (← step.1) (λ q. omega (arith, gone))) (get_or chains2 (many_chains + m) 0) (rw step.1);
            words = λ n q hm hq. cleared_word orders2 m hk lt n q hq ∙ sw.words n q hm hq;
            passed =
                λ n h hm. by_test (ltb n i)
                (λ z. let l : n < i = ltb-true n i z in
                by_test (eqb n m)
                (λ q. rw (eqb-true n m q, itself, ← eb, p) gone)
                (λ q. let ne = eqb-false n m q in cleared_other orders2 m hk lt n ne ∙ between n (omega (arith, ne)) h))
                (λ z. let l : i ≤ n = ltb-false n i z in cleared_other orders2 m hk lt n (λ q. omega arith) ∙ sw.passed n l hm);
            ahead = λ n h. cleared_other orders2 m hk lt n (λ q. omega (arith, sweep_less)) ∙ sw.ahead n (omega (arith, sweep_less));
            link = ej ∙ sym (at_last cleared);
            head = sw.head;
            next = λ h. ((sw.next h).0, cleared_chain orders2 m hk lt (last - many_chains) ∙ (sw.next h).1);
            known = sw.known;
            place = sw.place;
            low = omega (arith, sweep_less, sw.low);
            few = sw.few;
            own = λ h. cleared_chain orders2 m hk lt (j - 1) ∙ rest.own h;
          }
        where
          at_last : List ℕ → get_or (set chains2 last (get_or chains2 (many_chains + m) 0)) last 0 ≡ get_or chains2 (many_chains + m) 0
          at_last cleared = get_or-set_same chains2 last (get_or chains2 (many_chains + m) 0) 0 (omega (arith, sw.chains.chains, sw.place))

pub sweep_end : (r : Rec) (orders orders2 chains2 chains : List ℕ) (sent k last i exchange series : ℕ) → Sweeping orders orders2 chains2 sent k (word r 2) (word r 5) last i → (1 ≤ i → ⊥)
    → Chains orders chains sent → r.kind ≡ quote_kind → RowIs exchange series k → exchange ≡ word r 0 → series ≡ word r 1 → Within exchange series
    → ExcusesStep r orders sent orders2 chains2 sent
sweep_end r orders orders2 chains2 chains sent k last i exchange series sw end c0 k1 at ex es w =
    record {
      chains = sw.chains;
      so =
          λ e past rd held. excused_after past orders sent e held (kind_not e (rd.kind ∙ k1) (λ z. omega arith)) orders2 sw.words
          (λ m hm. sw.passed m (omega arith) hm ∙ rw at.is (flag_after_is r orders sent m exchange series k1 hm (c0.rows m hm) w ex es e past rd held));
    }

pub ruleset sweep_laws = (sweep_start, sweep_price, sweep_less, sweep_keep, sweep_drop, sweep_end)
