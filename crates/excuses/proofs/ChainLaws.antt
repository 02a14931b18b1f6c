-- The chains of sent orders: what a new order, an excuse that ends, and an order taken out do to them. Nothing here speaks of a history.
use mathlib.Core.Path.{◌≡◌, sym, ap, ◌∙◌}
use mathlib.Core.List.{List}
use Prim.Native.Nat.{ℕ, ◌+◌, ◌-◌, ◌*◌, ◌<◌, ◌≤◌}
use native.Mathlib.Omega.{arith}
use lib.Dec.{eqb}
use lib.ListN.{get_or, length, set, length-set}
use lib.Seq.{get_or-set_same, get_or-set_other}
use borrow.Author.Tests.{eqb-true, eqb-false}
use Rattle.rules.specs.Limits.{most_sent_orders}
use Rattle.rules.proofs.Tests.{by_test}
use Rattle.excuses.specs.Excuses.{order_words, many_chains, chain_words, chain_of, Link, OrderRow, Chains}

pub chain_same : (orders orders2 : List ℕ) (m : ℕ) → get_or orders2 (m * 8 + 1) 0 ≡ get_or orders (m * 8 + 1) 0 → get_or orders2 (m * 8 + 2) 0 ≡ get_or orders (m * 8 + 2) 0
    → chain_of orders2 m ≡ chain_of orders m
unfolding chain_of
chain_same orders orders2 m p q = rw (p, q)

-- ---- one link

-- where orders keep their chain and no excuse stands anew
pub link_kept : (orders orders2 : List ℕ) (k b j : ℕ) → ((m : ℕ) → m < b → chain_of orders2 m ≡ chain_of orders m)
    → ((m : ℕ) → m < b → get_or orders2 (m * 8 + 7) 0 ≡ 1 → get_or orders (m * 8 + 7) 0 ≡ 1) → Link orders k b j → Link orders2 k b j
link_kept orders orders2 k b j same flags l =
    record {
      down = l.down;
      all = λ m h p q. l.all m h (sym (same m h) ∙ p) (flags m h q);
      own = λ h. same (j - 1) (omega (arith, l.down)) ∙ l.own h;
    }

-- past order i - 1, whose excuse has ended
pub link_past : (orders : List ℕ) (k b i j : ℕ) → 0 < i → (get_or orders ((i - 1) * 8 + 7) 0 ≡ 1 → ⊥) → Link orders k b i → Link orders k (i - 1) j → Link orders k b j
link_past orders k b i j h ended l n =
    record {
      down = omega (arith, l.down, n.down);
      all =
          λ m hm p q. let a : m < i = l.all m hm p q in
          by_test (eqb m (i - 1))
          (λ z. absurd (ended (rw (← eqb-true m (i - 1) z) q)))
          (λ z. n.all m (omega (arith, eqb-false m (i - 1) z)) p q);
      own = n.own;
    }

-- ---- an excuse that ends: the last word of order k's row

module _ (orders : List ℕ) (k : ℕ) (hk : k < most_sent_orders) (l : length orders ≡ order_words) where
  pub cleared_here : get_or (set orders (k * 8 + 7) 0) (k * 8 + 7) 0 ≡ 0
  cleared_here = get_or-set_same orders (k * 8 + 7) 0 0 (omega arith)

  pub cleared_word : (m i : ℕ) → i < 7 → get_or (set orders (k * 8 + 7) 0) (m * 8 + i) 0 ≡ get_or orders (m * 8 + i) 0
  cleared_word m i h = get_or-set_other orders (k * 8 + 7) (m * 8 + i) 0 0 (λ q. omega arith)

  pub cleared_other : (m : ℕ) → (m ≡ k → ⊥) → get_or (set orders (k * 8 + 7) 0) (m * 8 + 7) 0 ≡ get_or orders (m * 8 + 7) 0
  cleared_other m ne = get_or-set_other orders (k * 8 + 7) (m * 8 + 7) 0 0 (λ q. ne (omega arith))

  pub cleared_stood : (m : ℕ) → get_or (set orders (k * 8 + 7) 0) (m * 8 + 7) 0 ≡ 1 → get_or orders (m * 8 + 7) 0 ≡ 1
  cleared_stood m p =
      by_test (eqb m k)
      (λ q. let z = ap (λ (a : ℕ). get_or (set orders (k * 8 + 7) 0) (a * 8 + 7) 0) (eqb-true m k q) in absurd (omega (arith, cleared_here)))
      (λ q. sym (cleared_other m (eqb-false m k q)) ∙ p)

  pub cleared_chain : (m : ℕ) → chain_of (set orders (k * 8 + 7) 0) m ≡ chain_of orders m
  cleared_chain m = chain_same orders (set orders (k * 8 + 7) 0) m (cleared_word m 1 (omega arith)) (cleared_word m 2 (omega arith))

  pub chains_cleared : (chains : List ℕ) (sent : ℕ) → Chains orders chains sent → Chains (set orders (k * 8 + 7) 0) chains sent
  chains_cleared chains sent c =
      record {
        rows =
            λ m h. record {
              from_one = rw (cleared_word m 1 (omega arith)) (c.rows m h).from_one;
              to_eight = rw (cleared_word m 1 (omega arith)) (c.rows m h).to_eight;
              series = rw (cleared_word m 2 (omega arith)) (c.rows m h).series;
              price = rw (cleared_word m 4 (omega arith)) (c.rows m h).price;
              flag =
                  by_test (eqb m k) (λ q. rw (eqb-true m k q) (omega (arith, cleared_here)))
                  (λ q. rw (cleared_other m (eqb-false m k q)) (c.rows m h).flag);
            };
        heads = λ j h. kept j sent (get_or chains j 0) (c.heads j h);
        nexts = λ m h. rw (cleared_chain m) (kept (chain_of orders m) m (get_or chains (many_chains + m) 0) (c.nexts m h));
        few = c.few;
        long = simp length-set l;
        chains = c.chains;
      }
    where
      kept : (key b j : ℕ) → Link orders key b j → Link (set orders (k * 8 + 7) 0) key b j
      kept key b j = link_kept orders (set orders (k * 8 + 7) 0) key b j (λ m h. cleared_chain m) (λ m h. cleared_stood m)

-- ---- an order taken out: the word `last`, which led to order i - 1, leads on to the next

module _ (orders chains : List ℕ) (sent k last i : ℕ) (c : Chains orders chains sent) (pos : 0 < i) (low : i ≤ sent) (link : i ≡ get_or chains last 0)
    (head : last < many_chains → last ≡ k) (next : many_chains ≤ last → (last - many_chains < sent) × (chain_of orders (last - many_chains) ≡ k))
    (place : last < chain_words) (known : k < many_chains) (own : chain_of orders (i - 1) ≡ k) (ended : get_or orders ((i - 1) * 8 + 7) 0 ≡ 1 → ⊥)
    (w : ℕ) (ew : w ≡ get_or chains (many_chains + (i - 1)) 0) where
  rest : Link orders k (i - 1) w
  rest = rw (ew, ← own) (c.nexts (i - 1) (omega arith))

  past : (key b : ℕ) → key ≡ k → Link orders key b i → Link orders key b w
  past key b p l = link_past orders key b i w pos ended l (rw p rest)

  at_last : get_or (set chains last w) last 0 ≡ w
  at_last = get_or-set_same chains last w 0 (omega (arith, c.chains))

  elsewhere : (p : ℕ) → (p ≡ last → ⊥) → get_or (set chains last w) p 0 ≡ get_or chains p 0
  elsewhere p ne = get_or-set_other chains last p w 0 ne

  pub chains_without : Chains orders (set chains last w) sent
  chains_without =
      record {
        rows = c.rows;
        heads =
            λ j h. by_test (eqb j last)
            (λ q. let z : j ≡ last = eqb-true j last q in
            rw (z, at_last) (past last sent (head (omega arith)) (rw link (c.heads last (omega arith)))))
            (λ q. rw (elsewhere j (eqb-false j last q)) (c.heads j h));
        nexts =
            λ m h. by_test (eqb (many_chains + m) last)
            (λ q. let z : many_chains + m ≡ last = eqb-true (many_chains + m) last q in
            let z2 : last - many_chains ≡ m = omega arith in
            let own_m : chain_of orders m ≡ k = rw (← z2) (next (omega arith)).1 in
            rw (z, at_last) (past (chain_of orders m) m own_m (rw (link, ← z) (c.nexts m h))))
            (λ q. rw (elsewhere (many_chains + m) (eqb-false (many_chains + m) last q)) (c.nexts m h));
        few = c.few;
        long = c.long;
        chains = simp length-set c.chains;
      }

-- ---- a new order, number `sent`, in chain k

module _ (orders orders2 chains : List ℕ) (sent k w : ℕ) (c : Chains orders chains sent) (room : sent < most_sent_orders) (known : k < many_chains) (ew : w ≡ sent + 1)
    (same : (m i : ℕ) → i < 8 → (m ≡ sent → ⊥) → get_or orders2 (m * 8 + i) 0 ≡ get_or orders (m * 8 + i) 0)
    (row : OrderRow orders2 sent) (own : chain_of orders2 sent ≡ k) (size : length orders2 ≡ length orders) where
  unfoldable after : List ℕ
  after = set (set chains (many_chains + sent) (get_or chains k 0)) k w

  first_new : get_or after k 0 ≡ sent + 1
  unfolding after
  first_new =
      let a : length (set chains (many_chains + sent) (get_or chains k 0)) ≡ chain_words = simp length-set c.chains in
      get_or-set_same (set chains (many_chains + sent) (get_or chains k 0)) k w 0 (omega arith) ∙ ew

  first_old : (p : ℕ) → p < many_chains → (p ≡ k → ⊥) → get_or after p 0 ≡ get_or chains p 0
  unfolding after
  first_old p h ne =
      get_or-set_other (set chains (many_chains + sent) (get_or chains k 0)) k p w 0 ne ∙ get_or-set_other chains (many_chains + sent) p (get_or chains k 0) 0 (λ q. omega arith)

  next_new : get_or after (many_chains + sent) 0 ≡ get_or chains k 0
  unfolding after
  next_new =
      get_or-set_other (set chains (many_chains + sent) (get_or chains k 0)) k (many_chains + sent) w 0 (λ q. omega arith)
      ∙ get_or-set_same chains (many_chains + sent) (get_or chains k 0) 0 (omega (arith, c.chains))

  next_old : (m : ℕ) → (m ≡ sent → ⊥) → get_or after (many_chains + m) 0 ≡ get_or chains (many_chains + m) 0
  unfolding after
  next_old m ne =
      get_or-set_other (set chains (many_chains + sent) (get_or chains k 0)) k (many_chains + m) w 0 (λ q. omega arith)
      ∙ get_or-set_other chains (many_chains + sent) (many_chains + m) (get_or chains k 0) 0 (λ q. ne (omega arith))

  after_long : length after ≡ chain_words
  unfolding after
  after_long = simp length-set c.chains

  chain_old : (m : ℕ) → (m ≡ sent → ⊥) → chain_of orders2 m ≡ chain_of orders m
  chain_old m ne = chain_same orders orders2 m (same m 1 (omega arith) ne) (same m 2 (omega arith) ne)

  -- a link below the new order is what it was
  below_new : (key b j : ℕ) → b ≤ sent → Link orders key b j → Link orders2 key b j
  below_new key b j h =
      link_kept orders orders2 key b j (λ m hm. chain_old m (λ z. omega arith)) (λ m hm p. sym (same m 7 (omega arith) (λ z. omega arith)) ∙ p)

  row_old : (m : ℕ) → (m ≡ sent → ⊥) → OrderRow orders m → OrderRow orders2 m
  row_old m ne o =
      record {
        from_one = rw (same m 1 (omega arith) ne) o.from_one;
        to_eight = rw (same m 1 (omega arith) ne) o.to_eight;
        series = rw (same m 2 (omega arith) ne) o.series;
        price = rw (same m 4 (omega arith) ne) o.price;
        flag = rw (same m 7 (omega arith) ne) o.flag;
      }

  -- a chain that the new order does not belong to
  not_its : (key j : ℕ) → (key ≡ k → ⊥) → Link orders2 key sent j → Link orders2 key (sent + 1) j
  not_its key j ne l =
      record {
        down = omega (arith, l.down);
        all =
            λ m h p q. by_test (eqb m sent)
            (λ z. absurd (ne (sym p ∙ ap (chain_of orders2) (eqb-true m sent z) ∙ own)))
            (λ z. l.all m (omega (arith, eqb-false m sent z)) p q);
        own = l.own;
      }

  pub chains_more : Chains orders2 (set (set chains (many_chains + sent) (get_or chains k 0)) k w) (sent + 1)
  unfolding after
  chains_more =
      record {
        rows =
            λ m h. by_test (eqb m sent) (λ z. rw (eqb-true m sent z) row)
            (λ z. row_old m (eqb-false m sent z) (c.rows m (omega (arith, eqb-false m sent z))));
        heads =
            λ j h. by_test (eqb j k)
            (λ z. rw (eqb-true j k z, first_new)
            (record { down = omega arith; all = λ m hm p q. hm; own = λ pos. let z2 : sent + 1 - 1 ≡ sent = omega arith in rw z2 own }))
            (λ z. let ne = eqb-false j k z in
            rw (first_old j h ne) (not_its j (get_or chains j 0) ne (below_new j sent (get_or chains j 0) (omega arith) (c.heads j h))));
        nexts =
            λ m h. by_test (eqb m sent)
            (λ z. rw (eqb-true m sent z, next_new, own) (below_new k sent (get_or chains k 0) (omega arith) (c.heads k known)))
            (λ z. let ne = eqb-false m sent z in
            rw (next_old m ne, chain_old m ne)
            (below_new (chain_of orders m) m (get_or chains (many_chains + m) 0) (omega arith) (c.nexts m (omega (arith, ne)))));
        few = omega arith;
        long = size ∙ c.long;
        chains = after_long;
      }

pub chains_none : (orders chains : List ℕ) → length orders ≡ order_words → length chains ≡ chain_words → ((k : ℕ) → get_or chains k 0 ≡ 0) → Chains orders chains 0
chains_none orders chains lt lc zeros =
    record {
      rows = λ m h. absurd (omega arith);
      heads = λ k h. rw (zeros k) (record { down = omega arith; all = λ m hm p q. absurd (omega arith); own = λ pos. absurd (omega arith) });
      nexts = λ m h. absurd (omega arith);
      few = omega arith;
      long = lt;
      chains = lc;
    }
