-- The table of sent orders beside the history: what one more event of each kind does to the excuse of an order.
use mathlib.Core.Path.{◌≡◌, refl, sym, ap, ◌∙◌}
use mathlib.Core.Bool.{Bool, true, false, not, ◌&&◌, ◌||◌, and-false, or-false, and-true}
use mathlib.Core.List.{List, ◌∷◌}
use Prim.Native.Nat.{ℕ, ◌+◌, ◌*◌, ◌<◌}
use native.Mathlib.Omega.{arith}
use lib.Dec.{eqb}
use lib.ListN.{get_or}
use borrow.Author.Tests.{eq-eqb, ne_eqb, eqb-true, eqb-false}
use Rattle.std.specs.Prelude.{◌==◌}
use Rattle.rules.specs.Basics.{any, bit}
use Rattle.rules.specs.Record.{Event, Order, field, order, is_sent, quote_kind, sent_kind, response_kind}
use Rattle.rules.specs.Journal.{History, count, since, sent_at, answers}
use Rattle.rules.specs.Prices.{quotes}
use Rattle.rules.specs.Reasons.{backs_away, fills_all, ends_excuse}
use Rattle.rules.proofs.Tests.{by_test}
use Rattle.rules.proofs.Histories.{count_cons, count_skip, sent_at_older, sent_at_new, since_older, since_new}
use Rattle.rows.specs.Rows.{Reads, word, Put}
use Rattle.rows.specs.declared.Rec.{Rec}
use Rattle.excuses.specs.Excuses.{stands, backed, Excused}

-- ---- the excuse of one order

not_or : (a b : Bool) → not (a || b) ≡ (not b && not a)
not_or true b = sym (and-false (not b))
not_or false true = refl
not_or false false = refl

module _ (m : ℕ) (e : Event) (past : History) where
  pub stands_older : m < count is_sent past → stands m (e ∷ past) ≡ (stands m past && not (ends_excuse m (order (sent_at m past)) e))
  unfolding stands any
  stands_older h =
      rw (sent_at_older m e past h, since_older is_sent m e past h)
      (not_or (ends_excuse m (order (sent_at m past)) e) (any (ends_excuse m (order (sent_at m past))) (since is_sent m past)))

  pub stands_kept : m < count is_sent past → ends_excuse m (order (sent_at m past)) e ≡ false → stands m (e ∷ past) ≡ stands m past
  stands_kept h p = stands_older h ∙ rw p (and-true (stands m past))

  pub stands_new : is_sent e ≡ true → m ≡ count is_sent past → stands m (e ∷ past) ≡ true
  unfolding stands any
  stands_new p q = rw (since_new is_sent m e past p q)

-- ---- which events end an excuse

-- an event of kind a is of no other kind
pub kind_not : (e : Event) {a b : ℕ} → e.kind ≡ a → (a ≡ b → ⊥) → e.kind ≡ b → ⊥
kind_not e p ne q = ne (sym p ∙ q)

module _ (m : ℕ) (o : Order) (e : Event) where
  pub ends_none : (e.kind ≡ response_kind → ⊥) → (e.kind ≡ quote_kind → ⊥) → ends_excuse m o e ≡ false
  unfolding ends_excuse fills_all answers backs_away quotes
  ends_none p q = rw (ne_eqb e.kind response_kind p, ne_eqb e.kind quote_kind q)

  pub fill_ends : e.kind ≡ response_kind → field e 0 ≡ m → ends_excuse m o e ≡ (field e 1 == o.size)
  unfolding ends_excuse fills_all answers backs_away quotes
  fill_ends k q =
      rw (eq-eqb e.kind response_kind k, eq-eqb (field e 0) m q, ne_eqb e.kind quote_kind (kind_not e k (λ z. omega arith)))
      (or-false (field e 1 == o.size))

  pub other_fill_ends_none : e.kind ≡ response_kind → (field e 0 ≡ m → ⊥) → ends_excuse m o e ≡ false
  unfolding ends_excuse fills_all answers backs_away quotes
  other_fill_ends_none k q =
      rw (ne_eqb (field e 0) m q, and-false (eqb e.kind response_kind), ne_eqb e.kind quote_kind (kind_not e k (λ z. omega arith)))

  pub quote_ends : e.kind ≡ quote_kind → field e 0 ≡ o.other → field e 1 ≡ o.series
      → ends_excuse m o e ≡ backed o.side o.price (field e 2) (field e 5)
  unfolding ends_excuse fills_all answers backs_away quotes backed
  quote_ends k p q =
      rw (ne_eqb e.kind response_kind (kind_not e k (λ z. omega arith)), eq-eqb e.kind quote_kind k, eq-eqb (field e 0) o.other p, eq-eqb (field e 1) o.series q)

  pub other_quote_ends_none : e.kind ≡ quote_kind → (field e 0 ≡ o.other → field e 1 ≡ o.series → ⊥) → ends_excuse m o e ≡ false
  unfolding ends_excuse fills_all answers backs_away quotes
  other_quote_ends_none k ne =
      rw (ne_eqb e.kind response_kind (kind_not e k (λ z. omega arith)))
      (by_test (eqb (field e 0) o.other)
      (λ p. rw (ne_eqb (field e 1) o.series (ne (eqb-true (field e 0) o.other p)), and-false (eqb e.kind quote_kind && eqb (field e 0) o.other)))
      (λ p. rw (p, and-false (eqb e.kind quote_kind))))

-- ---- the whole table, after an event that is no sent order

module _ (past : History) (orders : List ℕ) (sent : ℕ) (e : Event) (held : Excused past orders sent) where
  pub excused_after : (e.kind ≡ sent_kind → ⊥) → (orders2 : List ℕ)
      → ((m i : ℕ) → m < sent → i < 7 → get_or orders2 (m * 8 + i) 0 ≡ get_or orders (m * 8 + i) 0)
      → ((m : ℕ) → m < sent → get_or orders2 (m * 8 + 7) 0 ≡ bit (stands m (e ∷ past)))
      → Excused (e ∷ past) orders2 sent
  excused_after k orders2 words flags =
      record {
        numbered = held.numbered ∙ sym (count_skip is_sent e past (ne_eqb e.kind sent_kind k));
        fields = λ m i hm hi. rw (sent_at_older m e past (omega (arith, held.numbered))) (words m i hm (omega arith) ∙ held.fields m i hm hi);
        times = λ m hm. rw (sent_at_older m e past (omega (arith, held.numbered))) (words m 6 hm (omega arith) ∙ held.times m hm);
        flags = flags;
      }

  pub excused_alone : (e.kind ≡ quote_kind → ⊥) → (e.kind ≡ sent_kind → ⊥) → (e.kind ≡ response_kind → ⊥) → Excused (e ∷ past) orders sent
  excused_alone k1 k4 k5 =
      excused_after k4 orders (λ m i hm hi. refl)
      (λ m hm. held.flags m hm ∙ ap bit (sym (stands_kept m e past (omega (arith, held.numbered)) (ends_none m _ e k5 k1))))

  -- ---- and after a sent order, whose row is put last

  pub excused_sent : (r : Rec) (orders2 row : List ℕ) → Reads e r → r.kind ≡ sent_kind → Put orders orders2 row sent 8
      → ((i : ℕ) → i < 6 → get_or row i 0 ≡ word r i) → get_or row 6 0 ≡ r.time → get_or row 7 0 ≡ 1 → Excused (e ∷ past) orders2 (sent + 1)
  excused_sent r orders2 row rd k put six time one =
      let ek : e.kind ≡ sent_kind = rd.kind ∙ k in
      let is : is_sent e ≡ true = eq-eqb e.kind sent_kind ek in
      let new : sent_at sent (e ∷ past) ≡ e = sent_at_new sent e past is held.numbered in
      record {
        numbered = omega (arith, held.numbered, count_cons is_sent e past is);
        fields =
            λ m i hm hi. by_test (eqb m sent)
            (λ q. rw (eqb-true m sent q, new) (put.here i (omega arith) ∙ six i hi ∙ rd.fields i))
            (λ q. let ne = eqb-false m sent q in
            rw (sent_at_older m e past (omega (arith, ne, held.numbered)))
            (put.others m i (omega arith) ne ∙ held.fields m i (omega (arith, ne)) hi));
        times =
            λ m hm. by_test (eqb m sent)
            (λ q. rw (eqb-true m sent q, new) (put.here 6 (omega arith) ∙ time ∙ sym rd.time))
            (λ q. let ne = eqb-false m sent q in
            rw (sent_at_older m e past (omega (arith, ne, held.numbered)))
            (put.others m 6 (omega arith) ne ∙ held.times m (omega (arith, ne))));
        flags =
            λ m hm. by_test (eqb m sent)
            (λ q. rw (eqb-true m sent q, stands_new sent e past is held.numbered) (put.here 7 (omega arith) ∙ one))
            (λ q. let ne = eqb-false m sent q in
            put.others m 7 (omega arith) ne ∙ held.flags m (omega (arith, ne))
            ∙ ap bit (sym (stands_kept m e past (omega (arith, ne, held.numbered)) (ends_none m _ e (kind_not e ek (λ z. omega arith)) (kind_not e ek (λ z. omega arith))))));
      }
