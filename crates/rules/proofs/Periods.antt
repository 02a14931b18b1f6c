-- Document 02, d: where no period stands for its sender an order is judged as document 01 has it, and a P/A order always. Reason 4 is given
-- only so soon after a principal order of the same sender that was executed whole, and such an order was judged as a first one.
use mathlib.Core.Path.{◌≡◌, refl, sym, ap, ◌∙◌}
use mathlib.Core.Bool.{Bool, true, false, not, ◌&&◌, ◌||◌, false≢true, and-false}
use mathlib.Core.List.{[], ◌∷◌, ◌++◌}
use Prim.Native.Nat.{ℕ, ◌+◌, ◌<◌, ◌≤◌}
use native.Mathlib.Omega.{arith}
use borrow.Author.Tests.{ne_eqb, eq-eqb, leb-true, lt-leb}
use Rattle.std.specs.Prelude.{◌==◌}
use Rattle.rules.specs.Basics.{◌at_most◌, ◌more_than◌, all, any}
use Rattle.rules.specs.Header.{Header}
use Rattle.rules.specs.Record.{linked, principal_order, Event, Order, order, is_received}
use Rattle.rules.specs.Journal.{History}
use Rattle.rules.specs.Verdicts.{execute_whole, firm_size, no_duty, first_order, Execution, Period, no_period, begun, no_duty_for, period_lasts, requotes, best_there, too_soon, still_limited, order_in, executes_whole, executed, goes_on, period_of, received_order}
use Rattle.rules.proofs.Tests.{by_test, and_left, and_right, or_left, or_right, facts}
use Rattle.rules.proofs.Lines.{first_of_among}

-- ---- judged as a first one

module _ (h : Header) (past : History) (now : ℕ) (o : Order) where
  -- where neither of the two answers is given
  pub as_first_lem : (p : Period) → (o.type == principal_order && too_soon h past p now) ≡ false → (o.type == principal_order && still_limited p now) ≡ false
      → order_in h past p now o ≡ first_order h past o
  unfolding order_in first_order
  as_first_lem p soon limited = by_test (no_duty h past o == 0) (λ a. rw (a, soon, limited)) (λ a. rw a)

  pub no_period_lem : order_in h past no_period now o ≡ first_order h past o
  unfolding too_soon still_limited
  no_period_lem = as_first_lem no_period (and-false (o.type == principal_order)) (and-false (o.type == principal_order))

  -- "P/A orders stay as they are."
  pub no_principal_order : (p : Period) → (o.type == principal_order) ≡ false → order_in h past p now o ≡ first_order h past o
  no_principal_order p other = as_first_lem p (rw other) (rw other)

  -- "up to and including 60,000 ms"
  pub period_over : (x : Execution) → x.time + period_lasts < now → order_in h past (begun x) now o ≡ first_order h past o
  unfolding too_soon still_limited
  period_over x late =
      as_first_lem (begun x) (rw (lt-leb now (x.time + no_duty_for) (omega arith), and-false (o.type == principal_order)))
      (rw (lt-leb now (x.time + period_lasts) late, and-false (now more_than (x.time + no_duty_for)), and-false (o.type == principal_order)))

  -- an order that is executed whole was judged as a first one
  pub whole_as_first : (p : Period) → (order_in h past p now o).a ≡ execute_whole → order_in h past p now o ≡ first_order h past o
  unfolding order_in first_order
  whole_as_first p whole =
      by_test (no_duty h past o == 0)
      (λ a.
      by_test (o.type == principal_order && too_soon h past p now)
      (λ b. absurd (let w : 0 ≡ 1 = rw (a, b) at whole in omega arith))
      (λ b.
      by_test (o.type == principal_order && still_limited p now)
      (λ c. absurd (let w : 2 ≡ 1 = rw (a, b, c) at whole in omega arith))
      (λ c. rw (a, b, c))))
      (λ a. rw a)

-- ---- the period that stands

by_period : {X : Type 0} (p : Period) → (p ≡ no_period → X) → ((x : Execution) → p ≡ begun x → X) → X
by_period no_period f g = f refl
by_period (begun x) f g = g x refl

-- an execution as it is after some events: whether one of them is a home quote that gave another price
abbrev pub after : Header → Execution → History → Execution
after h x later =
    record { time = x.time; series = x.series; side = x.side; price = x.price; requoted = any (requotes h x) later }

-- the order with which a period began, of exchange x, and the events since
pub record Began (h : Header) (x : ℕ) (past : History) (p : Execution) : Type 0 where
  pub later : History
  pub initial : Event
  pub before : History
  pub splits : past ≡ later ++ (initial ∷ before)
  pub whole : executes_whole h before (period_of h x before) x initial ≡ true
  pub is : p ≡ after h (executed h before initial) later

stands : Period → Bool
stands no_period = false
stands (begun x) = true

none_begun : {X : Type 0} (p : Period) (x : Execution) → p ≡ no_period → p ≡ begun x → X
unfolding stands
none_begun p x n b = absurd (false≢true (ap stands (sym n ∙ b)))

begun_same : (x y : Execution) → begun x ≡ begun y → x ≡ y
begun_same x y e = ap of e
  where
    of : Period → Execution
    of no_period = x
    of (begun z) = z

or_swap : (a b : Bool) → (a || b) ≡ (b || a)
or_swap true true = refl
or_swap true false = refl
or_swap false true = refl
or_swap false false = refl

-- one event more, with which none began
goes_further : (h : Header) (x : ℕ) (e : Event) (past : History) (p y : Execution) → Began h x past y → goes_on h e (begun y) ≡ begun p → Began h x (e ∷ past) p
unfolding goes_on requotes any
goes_further h x e past p y b g =
    record {
      later = e ∷ b.later;
      initial = b.initial;
      before = b.before;
      splits = ap (λ (l : History). e ∷ l) b.splits;
      whole = b.whole;
      is = sym (begun_same _ p g) ∙ rw b.is (rw (or_swap _ (any (requotes h (executed h b.before b.initial)) b.later)));
    }

pub period_began : (h : Header) (x : ℕ) (past : History) (p : Execution) → period_of h x past ≡ begun p → Began h x past p
unfolding period_of goes_on
period_began h x [] p e = none_begun no_period p refl e
period_began h x (e ∷ past) p is =
    by_test (executes_whole h past (period_of h x past) x e)
    (λ w.
    record {
      later = [];
      initial = e;
      before = past;
      splits = refl;
      whole = w;
      is = sym (begun_same (executed h past e) p (rw w at is)) ∙ unfold any in refl;
    })
    (λ w.
    let on : goes_on h e (period_of h x past) ≡ begun p = rw w at is in
    by_period (period_of h x past)
    (λ none. none_begun no_period p refl (rw none at on))
    (λ y stood. goes_further h x e past p y (period_began h x past y stood) (rw stood at on)))

-- ---- a received order

-- "Document 01 treats every principal order as the first": so it is where none of its sender's was executed whole before
pub without_period : (h : Header) (past : History) (e : Event) → period_of h (order e).other past ≡ no_period → received_order h past e ≡ first_order h past (order e)
unfolding received_order
without_period h past e none = rw none (no_period_lem h past e.time (order e))

-- a principal order from exchange x
abbrev pub principal_from : ℕ → Event → Bool
principal_from x e = is_received e && (order e).other == x && (order e).type == principal_order

pub none_sent : (h : Header) (x : ℕ) (past : History) → any (principal_from x) past ≡ false → period_of h x past ≡ no_period
unfolding period_of any executes_whole goes_on
none_sent h x [] e = refl
none_sent h x (f ∷ past) e =
    let mine = or_left (principal_from x f) (any (principal_from x) past) e in
    rw (none_sent h x past (or_right (principal_from x f) (any (principal_from x) past) e), mine)

-- "Example 12 stays true for a first order."
pub first_of_its_sender : (h : Header) (past : History) (e : Event) → any (principal_from (order e).other) past ≡ false
    → received_order h past e ≡ first_order h past (order e)
first_of_its_sender h past e none = without_period h past e (none_sent h (order e).other past none)

-- "P/A orders stay as they are."
pub linked_as_ever : (h : Header) (past : History) (e : Event) → (order e).type ≡ linked → received_order h past e ≡ first_order h past (order e)
unfolding received_order
linked_as_ever h past e is =
    no_principal_order h past e.time (order e) (period_of h (order e).other past) (ne_eqb (order e).type principal_order (λ z. omega (arith, is, z)))

-- ---- reason 4

no_duty_to_three : (h : Header) (past : History) (o : Order) → no_duty h past o ≤ 3
unfolding no_duty all
no_duty_to_three h past o = leb-true _ _ (first_of_among (λ n. n at_most 3) refl _ refl)

never_four : (h : Header) (past : History) (o : Order) → (first_order h past o).c ≡ 4 → ⊥
unfolding first_order
never_four h past o four =
    by_test (no_duty h past o == 0)
    (λ a.
    by_test (o.size at_most firm_size h o)
    (λ b. let w : 0 ≡ 4 = rw (a, b) at four in omega arith)
    (λ b. let w : 0 ≡ 4 = rw (a, b) at four in omega arith))
    (λ a. let w : no_duty h past o ≡ 4 = rw a at four in omega (arith, w, no_duty_to_three h past o))

-- an order, and at most so many milliseconds before it a principal order of the same sender that was executed whole
pub record SoonAfter (h : Header) (past : History) (e : Event) (most : ℕ) : Type 0 where
  pub later : History
  pub initial : Event
  pub before : History
  pub splits : past ≡ later ++ (initial ∷ before)
  pub received : is_received initial ≡ true
  pub same_sender : (order initial).other ≡ (order e).other
  pub principal_order_lem : (order initial).type ≡ principal_order
  pub whole : (received_order h before initial).a ≡ execute_whole
  pub first : received_order h before initial ≡ first_order h before (order initial)
  pub soon : e.time ≤ initial.time + most

soon_after : (h : Header) (past : History) (e : Event) (p : Execution) → period_of h (order e).other past ≡ begun p → (most : ℕ) → e.time ≤ p.time + most
    → SoonAfter h past e most
unfolding executes_whole received_order
soon_after h past e p stands most s =
    let b = period_began h (order e).other past p stands in
    let u = simp facts at b.whole in
    let o = order b.initial in
    let whole : (received_order h b.before b.initial).a ≡ execute_whole =
    ap (λ y. (order_in h b.before (period_of h y b.before) b.initial.time o).a) u.0.0.1 ∙ u.1 in
    record {
      later = b.later;
      initial = b.initial;
      before = b.before;
      splits = b.splits;
      received = eq-eqb _ _ u.0.0.0;
      same_sender = u.0.0.1;
      principal_order_lem = u.0.1;
      whole = whole;
      first = whole_as_first h b.before b.initial.time o (period_of h o.other b.before) whole;
      soon = rw b.is at s;
    }

-- where one of the two answers is given, a period stands
module _ (h : Header) (past : History) (e : Event) where
  abbrev sender : ℕ
  sender = (order e).other

  too_soon_after : too_soon h past (period_of h sender past) e.time ≡ true → SoonAfter h past e no_duty_for
  unfolding too_soon
  too_soon_after soon =
      by_period (period_of h sender past)
      (λ none. absurd (false≢true (rw none at soon)))
      (λ x stands.
      let now : (e.time at_most (x.time + no_duty_for) && not (x.requoted && best_there h past x)) ≡ true = rw stands at soon in
      soon_after h past e x stands no_duty_for (leb-true _ _ (and_left _ (not (x.requoted && best_there h past x)) now)))

  limited_after : still_limited (period_of h sender past) e.time ≡ true → SoonAfter h past e period_lasts
  unfolding still_limited
  limited_after limited =
      by_period (period_of h sender past)
      (λ none. absurd (false≢true (rw none at limited)))
      (λ x stands.
      let now : (e.time more_than (x.time + no_duty_for) && e.time at_most (x.time + period_lasts) && not x.requoted) ≡ true = rw stands at limited in
      soon_after h past e x stands period_lasts (simp facts at now).0.1)

  -- "no duty for 15 seconds, up to and including 15,000 ms, reason 4"
  pub reason_four_soon : (received_order h past e).c ≡ 4 → SoonAfter h past e no_duty_for
  unfolding received_order order_in
  reason_four_soon four =
      let o = order e in
      by_test (no_duty h past o == 0)
      (λ a.
      by_test (o.type == principal_order && too_soon h past (period_of h o.other past) e.time)
      (λ b. too_soon_after (and_right (o.type == principal_order) _ b))
      (λ b.
      by_test (o.type == principal_order && still_limited (period_of h o.other past) e.time)
      (λ c. absurd (let w : 0 ≡ 4 = rw (a, b, c) at four in omega arith))
      (λ c. absurd (never_four h past o (rw (a, b, c) at four)))))
      (λ a. absurd (let w : no_duty h past o ≡ 4 = rw a at four in omega (arith, w, no_duty_to_three h past o)))

  -- an order that is not judged as a first one came within a minute of such an order
  pub otherwise_within_a_minute : (received_order h past e ≡ first_order h past (order e) → ⊥) → SoonAfter h past e period_lasts
  unfolding received_order
  otherwise_within_a_minute ne =
      let o = order e in
      let p : Period = period_of h o.other past in
      by_test (o.type == principal_order && too_soon h past p e.time)
      (λ b. longer (too_soon_after (and_right (o.type == principal_order) _ b)))
      (λ b.
      by_test (o.type == principal_order && still_limited p e.time)
      (λ c. limited_after (and_right (o.type == principal_order) _ c))
      (λ c. absurd (ne (as_first_lem h past e.time o p b c))))
    where
      longer : SoonAfter h past e no_duty_for → SoonAfter h past e period_lasts
      longer s =
          record {
            later = s.later;
            initial = s.initial;
            before = s.before;
            splits = s.splits;
            received = s.received;
            same_sender = s.same_sender;
            principal_order_lem = s.principal_order_lem;
            whole = s.whole;
            first = s.first;
            soon = omega (arith, s.soon);
          }
