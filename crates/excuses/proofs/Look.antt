-- A trade on its way down a chain: which order excuses it.
use mathlib.Core.Path.{◌≡◌, refl, sym, ap, ◌∙◌}
use mathlib.Core.Bool.{Bool, true, false, not, ◌&&◌, or-true, or-false}
use mathlib.Core.List.{List}
use Prim.Native.Nat.{ℕ, zero, suc, ◌+◌, ◌-◌, ◌*◌, ◌<◌, ◌≤◌}
use native.Mathlib.Omega.{arith}
use lib.Dec.{eqb, ltb}
use lib.ListN.{get_or}
use borrow.Author.Tests.{eq-eqb, ne_eqb, eqb-true, eqb-false, ltb-true, ltb-false}
use Rattle.std.specs.Prelude.{◌==◌, Some, None}
use Rattle.rules.specs.Basics.{◌more_than◌, any, below}
use Rattle.rules.specs.Record.{order, is_sent}
use Rattle.rules.specs.Journal.{History, count, sent_at}
use Rattle.rules.specs.Reasons.{excuse_wait, excuses, had_sent}
use Rattle.rules.proofs.Tests.{by_test, bit_is}
use Rattle.rules.proofs.Below.{one_more_tried}
use Rattle.quotes.specs.Tables.{many_series, Within, RowIs}
use Rattle.excuses.specs.Excuses.{many_chains, stands, newest, excuser_of, Excused, chain_of, Link, Chains, excusing, Looking, ExcuserIs}
use Rattle.excuses.proofs.Words.{ended_not_excusing}
use Rattle.excuses.proofs.Sweep.{in_chain, not_in_chain}

-- ---- the newest number that passes a test

module _ (f : ℕ → Bool) where
  newest_none : (n : ℕ) → ((m : ℕ) → m < n → f m ≡ false) → newest f n ≡ 0
  unfolding newest
  newest_none zero none = refl
  newest_none (suc n) none = rw (none n (omega arith)) (newest_none n (λ m h. none m (omega arith)))

  newest_found : (n i : ℕ) → i < n → f i ≡ true → ((m : ℕ) → i < m → m < n → f m ≡ false) → newest f n ≡ suc i
  unfolding newest
  newest_found zero i h e none = absurd (omega arith)
  newest_found (suc n) i h e none =
      by_test (eqb i n)
      (λ q. rw (← eqb-true i n q, e))
      (λ q. let ne = eqb-false i n q in
      let low : i < n = omega arith in
      rw (none n low (omega arith)) (newest_found n i low e (λ m a b. none m a (omega arith))))

  any_newest : (n : ℕ) → any f (below n) ≡ not (newest f n == 0)
  unfolding below any newest
  any_newest zero = refl
  any_newest (suc n) =
      one_more_tried f n ∙ by_test (f n) (λ p. rw (p, or-true) (sym (ap not (ne_eqb (suc n) 0 (λ z. omega arith))))) (λ p. rw (p, or-false) (any_newest n))

-- reason 2 asks whether there is one
pub had_sent_excuser : (exchange series side now : ℕ) (past : History) → had_sent exchange series side now past ≡ not (excuser_of exchange series side now past == 0)
unfolding had_sent excuser_of
had_sent_excuser exchange series side now past = any_newest (excuses exchange series side now past) (count is_sent past)

-- ---- what the row of an order says

excuses_stands : (exchange series side now : ℕ) (past : History) (m : ℕ)
    → excuses exchange series side now past m
    ≡ ((order (sent_at m past)).other == exchange && (order (sent_at m past)).series == series && (order (sent_at m past)).side == side
    && now more_than ((sent_at m past).time + excuse_wait) && stands m past)
unfolding excuses stands
excuses_stands exchange series side now past m = refl

module _ (orders : List ℕ) (sent m exchange series side now : ℕ) (hm : m < sent) (past : History) (held : Excused past orders sent) where
  in_chain_excuses : get_or orders (m * 8 + 1) 0 ≡ exchange → get_or orders (m * 8 + 2) 0 ≡ series
      → excuses exchange series side now past m ≡ excusing (get_or orders (m * 8 + 3) 0) (get_or orders (m * 8 + 6) 0) (get_or orders (m * 8 + 7) 0) side now
  unfolding excusing
  in_chain_excuses p q =
      excuses_stands exchange series side now past m
      ∙ rw (
        eq-eqb (order (sent_at m past)).other exchange (sym (held.fields m 1 hm (omega arith)) ∙ p),
        eq-eqb (order (sent_at m past)).series series (sym (held.fields m 2 hm (omega arith)) ∙ q),
        held.fields m 3 hm (omega arith),
        held.times m hm,
        held.flags m hm,
        bit_is (stands m past),
      )

  other_chain_not : (get_or orders (m * 8 + 1) 0 ≡ exchange → get_or orders (m * 8 + 2) 0 ≡ series → ⊥) → excuses exchange series side now past m ≡ false
  other_chain_not ne =
      excuses_stands exchange series side now past m
      ∙ by_test (eqb (order (sent_at m past)).other exchange)
      (λ p. rw (p, ne_eqb (order (sent_at m past)).series series (λ q. ne (held.fields m 1 hm (omega arith) ∙ eqb-true (order (sent_at m past)).other exchange p) (held.fields m 2 hm (omega arith) ∙ q))))
      (λ p. rw p)

-- ---- the loop

module _ (orders chains : List ℕ) (sent exchange series side now : ℕ) (c : Chains orders chains sent) (w : Within exchange series) where
  pub look_start : (k i : ℕ) → RowIs exchange series k → i ≡ get_or chains k 0 → Looking orders sent ((exchange - 1) * many_series + series) side now i
  look_start k i at ei =
      let l : Link orders ((exchange - 1) * many_series + series) sent i = rw (← at.is, ei) (c.heads k at.small) in
      record {
        none = λ m h hm p. sym (ended_not_excusing _ _ _ _ _ (λ q. let a : m < i = l.all m hm p q in omega arith));
        own = l.own;
        low = l.down;
        few = c.few;
      }

  module _ (i : ℕ) (lo : Looking orders sent ((exchange - 1) * many_series + series) side now i) where
    none_passed : (past : History) → Excused past orders sent → (m : ℕ) → i ≤ m → m < count is_sent past → excuses exchange series side now past m ≡ false
    none_passed past held m h hc =
        let hm : m < sent = omega (arith, held.numbered) in
        by_test (eqb (chain_of orders m) ((exchange - 1) * many_series + series))
        (λ z. let p = eqb-true (chain_of orders m) ((exchange - 1) * many_series + series) z in
        let at = in_chain orders m exchange series (c.rows m hm) w p in
        in_chain_excuses orders sent m exchange series side now hm past held at.0 at.1 ∙ lo.none m h hm p)
        (λ z. other_chain_not orders sent m exchange series side now hm past held (not_in_chain orders m exchange series (eqb-false (chain_of orders m) ((exchange - 1) * many_series + series) z)))

    pub look_end : (1 ≤ i → ⊥) → ExcuserIs orders sent exchange series side now None
    unfolding excuser_of
    look_end h =
        record {
          so = λ past held. sym (newest_none _ (count is_sent past) (λ m hc. none_passed past held m (omega arith) hc));
          known = omega arith;
        }

    module _ (m : ℕ) (step : (1 ≤ i) × (m ≡ i - 1)) where
      pos : 0 < i
      pos = omega (arith, step.0)

      here : m < sent
      here = omega (arith, step.0, step.1, lo.low)

      mine : chain_of orders m ≡ (exchange - 1) * many_series + series
      mine = rw step.1 (lo.own pos)

      module _ (b : Bool) (eb : b ≡ excusing (get_or orders (m * 8 + 3) 0) (get_or orders (m * 8 + 6) 0) (get_or orders (m * 8 + 7) 0) side now) where
        pub look_found : b ≡ true → ExcuserIs orders sent exchange series side now (Some m)
        unfolding excuser_of
        look_found p =
            let at = in_chain orders m exchange series (c.rows m here) w mine in
            record {
              so =
                  λ past held. let above : m + 1 ≡ suc m = omega arith in
                  above ∙ sym (newest_found _ (count is_sent past) m (omega (arith, held.numbered, here))
                  (in_chain_excuses orders sent m exchange series side now here past held at.0 at.1 ∙ sym eb ∙ p)
                  (λ q a hc. none_passed past held q (omega (arith, step.0, step.1)) hc));
              known = omega (arith, here);
            }

        module _ (p : b ≡ false) (j : ℕ) (ej : j ≡ get_or chains (many_chains + m) 0) where
          rest : Link orders ((exchange - 1) * many_series + series) m j
          rest = rw (ej, ← mine) (c.nexts m here)

          pub look_less : j < i
          look_less = omega (arith, rest.down, step.0, step.1)

          pub look_more : Looking orders sent ((exchange - 1) * many_series + series) side now j
          look_more =
              record {
                none =
                    λ n h hn q. by_test (ltb n i)
                    (λ z. let lt : n < i = ltb-true n i z in
                    by_test (eqb n m)
                    (λ a. rw (eqb-true n m a) (sym eb ∙ p))
                    (λ a. sym (ended_not_excusing _ _ _ _ _ (λ f.
                    let g : n < j = rest.all n (omega (arith, eqb-false n m a, step.1)) q f in omega arith))))
                    (λ z. lo.none n (ltb-false n i z) hn q);
                own = rest.own;
                low = omega (arith, look_less, lo.low);
                few = lo.few;
              }

pub ruleset look_laws = (look_start, look_end, look_found, look_less, look_more)
