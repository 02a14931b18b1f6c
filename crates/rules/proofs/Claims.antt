-- Document 02, i: of one exchange a trade has at most two claims and at most one record that took one back. Of two claims the first was
-- taken back: it was priced as a block that was none, so it has a reason, and no good sheet fills anything on its line. A journal
-- without such a record keeps every verdict it had.
use mathlib.Core.Path.{◌≡◌, refl, sym, ap, ◌∙◌, subst}
use mathlib.Core.Bool.{Bool, true, false, not, ◌&&◌, ◌||◌, true≢false, false≢true}
use mathlib.Core.List.{[], ◌∷◌}
use Prim.Native.Nat.{ℕ, ◌+◌, ◌≤◌, ◌<◌}
use native.Mathlib.Omega.{arith}
use lib.ListN.{length}
use borrow.Author.Tests.{eqb-true, eq-eqb, ne_eqb, not-true, ltb-true, ltb-false}
use Rattle.std.specs.Prelude.{if◌then◌else◌, ◌==◌}
use Rattle.rules.specs.Basics.{◌less_than◌, any, bit, keep}
use Rattle.rules.specs.Header.{Header}
use Rattle.rules.specs.Record.{Event, response_kind, satisfaction_kind, naming_kind, closing_kind, cancellation_kind, trade, satisfaction, is_response, is_satisfaction, is_naming, is_cancellation, naming, cancellation}
use Rattle.rules.specs.Journal.{History, Happened, nothing, count, nth, trade_at, satisfaction_at, before_trade, names, withdraws, cancels, claims_for, takes_back, taken_back, still_claims, satisfaction_belongs, cancellation_belongs, belongs}
use Rattle.rules.specs.Verdicts.{is_block}
use Rattle.rules.specs.Reasons.{three_minutes}
use Rattle.rules.proofs.Tests.{by_test, and_left, and_right, and_make, or_left, or_right, facts}
use Rattle.rules.proofs.Histories.{count_cons, count_skip, count_grows, count_none, nth_here, nth_skip, satisfaction_at_older, satisfaction_at_new}
use Rattle.rules.proofs.Journals.{Arrived, none, more}
use Rattle.rules.proofs.Naming.{naming_known}

-- ---- what 7 has looked at

none_of_them : (past : History) → (length past == 0) ≡ true → past ≡ []
none_of_them [] e = refl
none_of_them (x ∷ past) e = absurd (let z = eqb-true (length (x ∷ past)) 0 e in omega arith)

-- the claim that a record of kind 11 is for, its trade, and the history before the trade
abbrev pub claim_at : History → Event → Event
claim_at past x = satisfaction_at (cancellation x).order past

abbrev pub trade_of_claim : History → Event → Event
trade_of_claim past claim = trade_at (satisfaction claim).trade past

-- a claim at the price of its trade, which is no block
pub record PricedAsBlock (h : Header) (past : History) (claim : Event) : Type 0 where
  pub no_block : is_block h (before_trade (satisfaction claim).trade past) (trade (trade_of_claim past claim)) ≡ false
  pub at_its_price : (satisfaction claim).price ≡ (trade (trade_of_claim past claim)).price

pub record CancellationKnown (h : Header) (past : History) (x : Event) : Type 0 where
  pub order_known : (cancellation x).order < count is_satisfaction past
  pub priced : PricedAsBlock h past (claim_at past x)
  pub in_time_lem : x.time ≤ (claim_at past x).time + three_minutes
  pub not_cancelled : any (cancels (cancellation x).order) past ≡ false
  pub first : taken_back (satisfaction (claim_at past x)).trade (satisfaction (claim_at past x)).sender past ≡ []

pub cancellation_known : (h : Header) (past : History) (x : Event) → belongs h past x ≡ true → is_cancellation x ≡ true → CancellationKnown h past x
unfolding belongs cancellation_belongs
cancellation_known h past x b s =
    let k = eqb-true x.kind cancellation_kind s in
    let other : (n : ℕ) → (n ≡ cancellation_kind → ⊥) → (x.kind == n) ≡ false = λ n ne. ne_eqb x.kind n (λ q. ne (sym q ∙ k)) in
    let u = simp (other response_kind (λ q. omega arith), other satisfaction_kind (λ q. omega arith), other naming_kind (λ q. omega arith), other closing_kind (λ q. omega arith), s, facts) at b in
    record {
      order_known = u.0.0.0.0.0;
      priced = record { no_block = not-true _ u.0.0.0.0.1; at_its_price = u.0.0.0.1 };
      in_time_lem = u.0.0.1;
      not_cancelled = not-true _ u.0.1;
      first = none_of_them _ (eq-eqb _ _ u.1);
    }

-- ---- a claim by its number, and one event more

module _ (m x : ℕ) (n : ℕ) (e : Event) (past : History) where
  -- an event that is no claim of theirs makes none of the claims of theirs
  pub claim_before : claims_for m x e ≡ false → claims_for m x (satisfaction_at n (e ∷ past)) ≡ true → claims_for m x (satisfaction_at n past) ≡ true
  unfolding satisfaction_at
  claim_before other c =
      by_test (is_satisfaction e && count is_satisfaction past == n)
      (λ t. absurd (true≢false (sym c ∙ ap (λ (y : Happened). claims_for m x y.event) (nth_here is_satisfaction n e past t) ∙ other)))
      (λ t. subst (λ (y : Happened). claims_for m x y.event ≡ true) (nth_skip is_satisfaction n e past t) c)

-- no claim stands where none has come yet
pub no_claim_ahead : (m x n : ℕ) (past : History) → count is_satisfaction past ≤ n → claims_for m x (satisfaction_at n past) ≡ false
unfolding satisfaction_at
no_claim_ahead m x n [] ahead = unfold nth claims_for in refl
no_claim_ahead m x n (e ∷ past) ahead =
    let g = count_grows is_satisfaction e past in
    let not_this : (is_satisfaction e && count is_satisfaction past == n) ≡ false =
    by_test (is_satisfaction e) (λ s. let c = count_cons is_satisfaction e past s in rw (s, ne_eqb (count is_satisfaction past) n (λ q. omega arith))) (λ s. rw s) in
    ap (λ (y : Happened). claims_for m x y.event) (nth_skip is_satisfaction n e past not_this) ∙ no_claim_ahead m x n past (omega arith)

pub claim_has_come : (m x n : ℕ) (past : History) → claims_for m x (satisfaction_at n past) ≡ true → n < count is_satisfaction past
claim_has_come m x n past c =
    by_test (n less_than count is_satisfaction past)
    (λ l. ltb-true _ _ l)
    (λ l. absurd (true≢false (sym c ∙ no_claim_ahead m x n past (ltb-false _ _ l))))

-- a claim of theirs is counted
claim_counted : (m x n : ℕ) (past : History) → claims_for m x (satisfaction_at n past) ≡ true → 1 ≤ count (claims_for m x) past
claim_counted m x n [] c = absurd (true≢false (sym c ∙ (unfold satisfaction_at nth claims_for in refl)))
claim_counted m x n (e ∷ past) c =
    by_test (claims_for m x e)
    (λ t. omega (arith, count_cons (claims_for m x) e past t))
    (λ t. omega (arith, count_skip (claims_for m x) e past t, claim_counted m x n past (claim_before m x n e past t c)))

-- ---- what a claim of theirs, and what a record that takes one back, comes after

pub record ClaimsFor (m x : ℕ) (e : Event) : Type 0 where
  pub is_satisfaction_lem : is_satisfaction e ≡ true
  pub for_trade : (satisfaction e).trade ≡ m
  pub from_exchange : (satisfaction e).sender ≡ x

pub claims_for_lem : (m x : ℕ) (e : Event) → claims_for m x e ≡ true → ClaimsFor m x e
unfolding claims_for
claims_for_lem m x e t =
    let both = and_left (is_satisfaction e && (satisfaction e).trade == m) _ t in
    record {
      is_satisfaction_lem = and_left (is_satisfaction e) _ both;
      for_trade = eqb-true _ _ (and_right (is_satisfaction e) _ both);
      from_exchange = eqb-true _ _ (and_right (is_satisfaction e && (satisfaction e).trade == m) _ t);
    }

-- a record that is a claim takes none back
claim_takes_none_back : (m x : ℕ) (past : History) (e : Event) → claims_for m x e ≡ true → takes_back m x past e ≡ false
unfolding takes_back
claim_takes_none_back m x past e t =
    let k = eqb-true e.kind satisfaction_kind (claims_for_lem m x e t).is_satisfaction_lem in
    rw (ne_eqb e.kind cancellation_kind (λ q. let r : ◌≡◌ {A = ℕ} satisfaction_kind cancellation_kind = sym k ∙ q in omega arith))

module _ (h : Header) (past : History) (e : Event) (b : belongs h past e ≡ true) (m x : ℕ) where
  -- "one that is not so cancelled": no other stands
  pub none_still_claims : claims_for m x e ≡ true → still_claims m x past ≡ false
  unfolding belongs satisfaction_belongs
  none_still_claims t =
      let c = claims_for_lem m x e t in
      let k = eqb-true e.kind satisfaction_kind c.is_satisfaction_lem in
      let n : is_response e ≡ false = ne_eqb e.kind response_kind (λ q. let r : ◌≡◌ {A = ℕ} satisfaction_kind response_kind = sym k ∙ q in omega arith) in
      let u = simp (n, c.is_satisfaction_lem, c.for_trade, c.from_exchange, facts) at b in
      not-true _ u.1

  pub record TakesBack : Type 0 where
    pub known : CancellationKnown h past e
    pub of_theirs : claims_for m x (claim_at past e) ≡ true
    pub first : taken_back m x past ≡ []

  pub takes_back_lem : takes_back m x past e ≡ true → TakesBack
  unfolding takes_back
  takes_back_lem t =
      let known = cancellation_known h past e b (and_left (is_cancellation e) _ t) in
      let theirs : claims_for m x (claim_at past e) ≡ true = and_right (is_cancellation e) _ t in
      let c = claims_for_lem m x (claim_at past e) theirs in
      record {
        known = known;
        of_theirs = theirs;
        first = subst (λ (y : ℕ). taken_back m y past ≡ []) c.from_exchange (subst (λ (k : ℕ). taken_back k (satisfaction (claim_at past e)).sender past ≡ []) c.for_trade known.first);
      }

-- a record of another kind takes none back
pub none_taken_back : (m x : ℕ) (e : Event) (past : History) → is_cancellation e ≡ false → taken_back m x (e ∷ past) ≡ taken_back m x past
unfolding taken_back takes_back
none_taken_back m x e past other = rw other

-- ---- "a second kind 11 for the exchange and trade, is 7": at most one, and at most two claims

pub taken_back_at_most_once : {h : Header} {past : History} → Arrived h past → (m x : ℕ) → length (taken_back m x past) ≤ 1
unfolding taken_back
taken_back_at_most_once none m x = omega arith
taken_back_at_most_once {h} (more {past} {e} v i b r) m x =
    by_test (takes_back m x past e)
    (λ t. rw (t, (takes_back_lem h past e b m x t).first) (omega arith))
    (λ t. rw t (taken_back_at_most_once v m x))

-- each claim but the one that stands was taken back
pub claims_counted : {h : Header} {past : History} → Arrived h past → (m x : ℕ) → count (claims_for m x) past ≡ length (taken_back m x past) + bit (still_claims m x past)
unfolding taken_back still_claims
claims_counted none m x = unfold count keep in refl
claims_counted {h} (more {past} {e} v i b r) m x =
    let ih = claims_counted v m x in
    by_test (claims_for m x e)
    (λ c.
    let before : count (claims_for m x) past ≡ length (taken_back m x past) + bit false = ih ∙ ap (λ (y : Bool). length (taken_back m x past) + bit y) (none_still_claims h past e b m x c) in
    rw (c, claim_takes_none_back m x past e c) (omega (arith, count_cons (claims_for m x) e past c, before)))
    (λ c. by_test (takes_back m x past e)
    (λ t.
    let back = takes_back_lem h past e b m x t in
    let one = claim_counted m x (cancellation e).order past back.of_theirs in
    let before : count (claims_for m x) past ≡ 0 + bit (still_claims m x past) = ih ∙ ap (λ (y : History). length y + bit (still_claims m x past)) back.first in
    let most = bit_at_most_one (still_claims m x past) in
    rw (c, t, back.first) (omega (arith, count_skip (claims_for m x) e past c)))
    (λ t. rw (c, t) (count_skip (claims_for m x) e past c ∙ ih)))
  where
    bit_at_most_one : (y : Bool) → bit y ≤ 1
    bit_at_most_one true = omega arith
    bit_at_most_one false = omega arith

pub two_claims_at_most : {h : Header} {past : History} → Arrived h past → (m x : ℕ) → count (claims_for m x) past ≤ 2
two_claims_at_most {h} {past} v m x =
    let most = taken_back_at_most_once v m x in
    by_test (still_claims m x past)
    (λ s. let c = claims_counted v m x ∙ ap (λ (y : Bool). length (taken_back m x past) + bit y) s in omega arith)
    (λ s. let c = claims_counted v m x ∙ ap (λ (y : Bool). length (taken_back m x past) + bit y) s in omega arith)

-- ---- no order is cancelled twice, and none that is still to come

pub not_named : (n : ℕ) (past : History) → any (cancels n) past ≡ false → any (names n) past ≡ false
unfolding any cancels
not_named n [] p = refl
not_named n (e ∷ past) p =
    rw (or_left (names n e) (withdraws n e) (or_left (names n e || withdraws n e) _ p)) (not_named n past (or_right (names n e || withdraws n e) _ p))

pub not_withdrawn : (n : ℕ) (past : History) → any (cancels n) past ≡ false → any (withdraws n) past ≡ false
unfolding any cancels
not_withdrawn n [] p = refl
not_withdrawn n (e ∷ past) p =
    rw (or_right (names n e) (withdraws n e) (or_left (names n e || withdraws n e) _ p)) (not_withdrawn n past (or_right (names n e || withdraws n e) _ p))

-- the order that a record cancels, by kind 8 or by kind 11, has come and nothing before has cancelled it
pub record CancelKnown (n : ℕ) (past : History) : Type 0 where
  pub known : n < count is_satisfaction past
  pub not_cancelled : any (cancels n) past ≡ false

pub cancel_known : (h : Header) (past : History) (e : Event) (n : ℕ) → belongs h past e ≡ true → cancels n e ≡ true → CancelKnown n past
unfolding cancels names withdraws
cancel_known h past e n b t =
    by_test (is_naming e && (naming e).order == n)
    (λ p.
    let k = naming_known h past e b (and_left (is_naming e) _ p) in
    let q : (naming e).order ≡ n = eqb-true _ _ (and_right (is_naming e) _ p) in
    record { known = omega (arith, q, k.order_known); not_cancelled = subst (λ (i : ℕ). any (cancels i) past ≡ false) q k.not_cancelled })
    (λ p.
    let w : (is_cancellation e && (cancellation e).order == n) ≡ true = rw p at t in
    let k = cancellation_known h past e b (and_left (is_cancellation e) _ w) in
    let q : (cancellation e).order ≡ n = eqb-true _ _ (and_right (is_cancellation e) _ w) in
    record { known = omega (arith, q, k.order_known); not_cancelled = subst (λ (i : ℕ). any (cancels i) past ≡ false) q k.not_cancelled })

pub none_cancelled_ahead : {h : Header} {past : History} → Arrived h past → (n : ℕ) → count is_satisfaction past ≤ n → any (cancels n) past ≡ false
unfolding any
none_cancelled_ahead none n ahead = refl
none_cancelled_ahead {h} (more {past} {e} v i b r) n ahead =
    let g = count_grows is_satisfaction e past in
    by_test (cancels n e)
    (λ t. absurd (let k = (cancel_known h past e n b t).known in omega arith))
    (λ t. rw (t, none_cancelled_ahead v n (omega arith)))

pub withdrawn_known : {h : Header} {past : History} → Arrived h past → (n : ℕ) → any (withdraws n) past ≡ true → n < count is_satisfaction past
withdrawn_known {h} {past} v n t =
    by_test (n less_than count is_satisfaction past)
    (λ l. ltb-true _ _ l)
    (λ l. absurd (true≢false (sym t ∙ not_withdrawn n past (none_cancelled_ahead v n (ltb-false _ _ l)))))

-- "a claim already cancelled by kind 8 or 11 .. is 7"
pub cancelled_at_most_once : {h : Header} {past : History} → Arrived h past → (n : ℕ) → count (cancels n) past ≤ 1
cancelled_at_most_once none n = unfold count keep in omega arith
cancelled_at_most_once {h} (more {past} {e} v i b r) n =
    by_test (cancels n e)
    (λ t. omega (arith, count_cons (cancels n) e past t, count_none (cancels n) past (cancel_known h past e n b t).not_cancelled))
    (λ t. omega (arith, count_skip (cancels n) e past t, cancelled_at_most_once v n))

-- ---- of two claims the first was taken back

-- a claim of theirs that was not taken back: one still stands, and none of theirs has a higher number
pub record Newest (m x n : ℕ) (past : History) : Type 0 where
  pub stands : still_claims m x past ≡ true
  pub last : (k : ℕ) → n < k → claims_for m x (satisfaction_at k past) ≡ true → ⊥

withdraws_it : (m x : ℕ) (past : History) (e : Event) (n : ℕ) → takes_back m x past e ≡ true → (cancellation e).order ≡ n → withdraws n e ≡ true
unfolding withdraws takes_back
withdraws_it m x past e n t q = and_make (is_cancellation e) ((cancellation e).order == n) (and_left (is_cancellation e) _ t) (eq-eqb _ n q)

pub not_taken_back_is_newest : {h : Header} {past : History} → Arrived h past → (m x n : ℕ) → claims_for m x (satisfaction_at n past) ≡ true
    → any (withdraws n) past ≡ false → Newest m x n past
unfolding any still_claims
not_taken_back_is_newest none m x n c w = absurd (true≢false (sym c ∙ no_claim_ahead m x n [] (unfold count keep in omega arith)))
not_taken_back_is_newest {h} (more {past} {e} v i b r) m x n c w =
    let older_w : any (withdraws n) past ≡ false = or_right (withdraws n e) _ w in
    by_test (claims_for m x e)
    (λ t.
    let s = (claims_for_lem m x e t).is_satisfaction_lem in
    let grown = count_cons is_satisfaction e past s in
    by_test (is_satisfaction e && count is_satisfaction past == n)
    (λ this.
    let q : count is_satisfaction past ≡ n = eqb-true _ _ (and_right (is_satisfaction e) _ this) in
    record {
      stands = rw t;
      last = λ k up ck. true≢false (sym ck ∙ no_claim_ahead m x k (e ∷ past) (omega arith));
    })
    (λ earlier.
    let here : claims_for m x (satisfaction_at n past) ≡ true = unfold satisfaction_at in subst (λ (y : Happened). claims_for m x y.event ≡ true) (nth_skip is_satisfaction n e past earlier) c in
    let one = not_taken_back_is_newest v m x n here older_w in
    absurd (true≢false (sym one.stands ∙ none_still_claims h past e b m x t))))
    (λ t.
    let here = claim_before m x n e past t c in
    let one = not_taken_back_is_newest v m x n here older_w in
    by_test (takes_back m x past e)
    (λ back.
    let taken = takes_back_lem h past e b m x back in
    let q : ℕ = (cancellation e).order in
    let two = not_taken_back_is_newest v m x q taken.of_theirs (not_withdrawn q past taken.known.not_cancelled) in
    let another : (q ≡ n → ⊥) = λ same. true≢false (sym (withdraws_it m x past e n back same) ∙ or_left (withdraws n e) _ w) in
    absurd (apart q n another (λ up. one.last q up taken.of_theirs) (λ up. two.last n up here)))
    (λ back.
    record {
      stands = rw (t, back) one.stands;
      last = λ k up ck. one.last k up (claim_before m x k e past t ck);
    }))
  where
    apart : (q k : ℕ) → (q ≡ k → ⊥) → (k < q → ⊥) → (q < k → ⊥) → ⊥
    apart q k ne a b = by_test (q less_than k) (λ l. b (ltb-true q k l)) (λ l. by_test (k less_than q) (λ g. a (ltb-true k q g)) (λ g. ne (let u = ltb-false q k l in let w = ltb-false k q g in omega arith)))

-- a claim of theirs that no record took back
pub record Stands (m x n : ℕ) (past : History) : Type 0 where
  pub of_theirs : claims_for m x (satisfaction_at n past) ≡ true
  pub not_taken_back : any (withdraws n) past ≡ false

-- "one that is not so cancelled" to the letter: one still claims exactly where there is such a claim
pub still_claims_one : {h : Header} {past : History} → Arrived h past → (m x : ℕ) → still_claims m x past ≡ true → (n : ℕ) × Stands m x n past
unfolding still_claims any
still_claims_one none m x s = absurd (false≢true s)
still_claims_one {h} (more {past} {e} v i b r) m x s =
    by_test (claims_for m x e)
    (λ c.
    let n : ℕ = count is_satisfaction past in
    let is = (claims_for_lem m x e c).is_satisfaction_lem in (
      n,
      record {
        of_theirs = rw (satisfaction_at_new n e past is refl) c;
        not_taken_back = rw (not_of_kind_11 e n is, not_withdrawn n past (none_cancelled_ahead v n (omega arith)));
      },
    ))
    (λ c. by_test (takes_back m x past e)
    (λ t. absurd (false≢true (rw (c, t) at s)))
    (λ t.
    let one = still_claims_one v m x (rw (c, t) at s) in
    let n : ℕ = one.0 in (
      n,
      record {
        of_theirs = rw (satisfaction_at_older n e past (claim_has_come m x n past one.1.of_theirs)) one.1.of_theirs;
        not_taken_back = rw (not_this_one m x past e n t one.1.of_theirs, one.1.not_taken_back);
      },
    )))
  where
    not_of_kind_11 : (y : Event) (n : ℕ) → is_satisfaction y ≡ true → withdraws n y ≡ false
    not_of_kind_11 y n is =
        let k = eqb-true y.kind satisfaction_kind is in
        unfold withdraws in
        rw (ne_eqb y.kind cancellation_kind (λ q. let r : ◌≡◌ {A = ℕ} satisfaction_kind cancellation_kind = sym k ∙ q in omega arith))

    not_this_one : (m x : ℕ) (past : History) (y : Event) (n : ℕ) → takes_back m x past y ≡ false → claims_for m x (satisfaction_at n past) ≡ true → withdraws n y ≡ false
    not_this_one m x past y n t c =
        unfold withdraws takes_back in
        by_test (is_cancellation y)
        (λ p. by_test ((cancellation y).order == n)
        (λ q. absurd (true≢false (sym c ∙ ap (λ (j : ℕ). claims_for m x (satisfaction_at j past)) (sym (eqb-true _ n q)) ∙ (rw p at t))))
        (λ q. rw (p, q)))
        (λ p. rw p)

pub one_still_claims : {h : Header} {past : History} → Arrived h past → (m x n : ℕ) → Stands m x n past → still_claims m x past ≡ true
one_still_claims v m x n c = (not_taken_back_is_newest v m x n c.of_theirs c.not_taken_back).stands

pub first_was_taken_back : {h : Header} {past : History} → Arrived h past → (m x n k : ℕ) → n < k → claims_for m x (satisfaction_at n past) ≡ true
    → claims_for m x (satisfaction_at k past) ≡ true → any (withdraws n) past ≡ true
first_was_taken_back {h} {past} v m x n k up first second =
    by_test (any (withdraws n) past) (λ t. t) (λ t. absurd ((not_taken_back_is_newest v m x n first t).last k up second))
