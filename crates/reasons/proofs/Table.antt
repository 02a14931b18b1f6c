-- The table of reasons, one law for each way out of the code: the tests above it failed, its own holds.
use mathlib.Core.Path.{◌≡◌, refl, sym, ap, ◌∙◌}
use mathlib.Core.Bool.{Bool, true, false, not, ◌&&◌, or-true, and-false}
use mathlib.Core.List.{List, [], ◌∷◌, ◌++◌}
use Prim.Native.Nat.{ℕ, ◌+◌, ◌-◌, ◌≤◌, ◌<◌, min}
use native.Mathlib.Omega.{arith}
use lib.Dec.{eqb, leb, ltb}
use borrow.Author.Tests.{eq-eqb, ne_eqb, le-leb, lt-leb, leb-true, leb-false, not-true}
use Rattle.std.specs.Prelude.{if◌then◌else◌, ◌==◌, Option, Some, None}
use Rattle.std.specs.Option.{option_or}
use Rattle.rules.specs.Basics.{Row, first_of, all}
use Rattle.rules.specs.Limits.{closing_minutes}
use Rattle.rules.specs.Record.{not_firm, rotation, complex_trade}
use Rattle.rules.specs.Verdicts.{neither}
use Rattle.rules.specs.Reasons.{three_minutes, one_minute}
use Rattle.rules.specs.Due.{most_at_the_close, limited, least_of}
use Rattle.rules.proofs.Tests.{by_test, and_left, and_right}
use Rattle.rules.proofs.Naming.{named}
use Rattle.reasons.specs.declared.Facts.{Facts}
use Rattle.reasons.specs.declared.Reason.{Reason}
use Rattle.reasons.specs.declared.Reason.TheVariants.{NotTradedThrough, HadSent, SenderNonFirm, HomeNonFirm, SenderInRotation, HomeInRotation, Complex, Late, LateAgain, LateWithInitiator, InitiatorNamed, PricedAsBlock, NotThePriceRequired, NoCustomers}
use Rattle.reasons.specs.Reasons.{number_of, stored_as, later_than, minutes_at, allowed_at, in_time, required_of, by_trade, by_time, by_price, trade_reason, late_reason, again_reason, time_reason, price_reason, reason_of, claim_of}

pub later_by_words : (report allowed now a b : ℕ) → a ≡ report → b ≡ now → ltb (a + allowed) b ≡ later_than report allowed now
unfolding later_than
later_by_words report allowed now a b ea eb = rw (ea, eb)

-- "if the report is at or after close less 300,000"
in_closing_minutes : (report close : ℕ) → leb close (report + closing_minutes) ≡ leb (close - closing_minutes) report
in_closing_minutes report close =
    by_test (leb close (report + closing_minutes))
    (λ p. let h = leb-true close (report + closing_minutes) p in p ∙ sym (le-leb (close - closing_minutes) report (omega arith)))
    (λ p. let h = leb-false close (report + closing_minutes) p in p ∙ sym (lt-leb (close - closing_minutes) report (omega arith)))

module _ (moment close a c : ℕ) (ea : a ≡ moment) (ec : c ≡ close) where
  closing_test : leb (close - closing_minutes) moment ≡ leb c (a + closing_minutes)
  closing_test = rw (ea, ec) (sym (in_closing_minutes moment close))

  pub one_minute_from : c ≤ a + closing_minutes → one_minute ≡ minutes_at moment close
  unfolding minutes_at
  one_minute_from p = rw (closing_test, le-leb c (a + closing_minutes) p)

  pub three_minutes_from : a + closing_minutes < c → three_minutes ≡ minutes_at moment close
  unfolding minutes_at
  three_minutes_from p = rw (closing_test, lt-leb c (a + closing_minutes) p)

minutes_at_most : (moment close : ℕ) → minutes_at moment close ≤ three_minutes
unfolding minutes_at
minutes_at_most moment close = by_test (leb (close - closing_minutes) moment) (λ p. rw p (omega arith)) (λ p. rw p (omega arith))

module _ (moment close a : ℕ) (e : a ≡ minutes_at moment close) where
  pub minutes_few : a ≤ three_minutes
  minutes_few = rw e (minutes_at_most moment close)

  pub minutes_allowed : (initiator : ℕ) → initiator ≡ 0 → a ≡ allowed_at initiator moment close
  unfolding allowed_at
  minutes_allowed initiator p = e ∙ rw (eq-eqb initiator 0 p)

  pub not_later : (now : ℕ) (late : Bool) → late ≡ later_than moment a now → not late ≡ in_time moment close now
  unfolding in_time
  not_later now late p = rw (p, e)

pub three_minutes_allowed : (initiator report close : ℕ) → (initiator ≡ 0 → ⊥) → three_minutes ≡ allowed_at initiator report close
unfolding allowed_at
three_minutes_allowed initiator report close p = rw (ne_eqb initiator 0 p)

pub allowed_at_most : (initiator report close a : ℕ) → a ≡ allowed_at initiator report close → a ≤ three_minutes
unfolding allowed_at
allowed_at_most initiator report close a e =
    by_test (eqb initiator 0) (λ p. rw (e, p) (minutes_at_most report close)) (λ p. rw (e, p) (omega arith))

-- "14, judged after 9 and before 11"
module _ (why : ℕ) where
  pub named_for_none : why ≡ 0 → 14 ≡ named why
  named_for_none p = rw (eq-eqb why 0 p)

  pub named_for_a_later : 11 ≤ why → why ≤ 13 → 14 ≡ named why
  named_for_a_later p q = rw (le-leb 11 why p, le-leb why 13 q, or-true (eqb why 0))

  pub not_named_for_an_earlier : (why ≡ 0 → ⊥) → why < 11 → why ≡ named why
  not_named_for_an_earlier p q = rw (ne_eqb why 0 p, lt-leb 11 why q)

  pub not_named_beyond : (why ≡ 0 → ⊥) → 13 < why → why ≡ named why
  not_named_beyond p q = rw (ne_eqb why 0 p, lt-leb why 13 q, and-false (leb 11 why))

module _ (block price there : ℕ) where
  pub required_of_block : block ≡ 1 → price ≡ required_of block price there
  unfolding required_of
  required_of_block p = rw (eq-eqb block 1 p)

  pub required_otherwise : (block ≡ 1 → ⊥) → there ≡ required_of block price there
  unfolding required_of
  required_otherwise p = rw (ne_eqb block 1 p)

pub least_in_turn : (size customers traded a b : ℕ) → a ≡ min customers traded → b ≡ min size a → b ≡ least_of size customers traded
least_in_turn size customers traded a b ea eb = eb ∙ ap (min size) ea

module _ (closing n : ℕ) where
  pub limited_in_window : closing ≡ 1 → (b : ℕ) → b ≡ min n most_at_the_close → b ≡ limited (closing == 1) n
  unfolding limited
  limited_in_window p b e = rw (eq-eqb closing 1 p) e

  pub not_limited : (closing ≡ 1 → ⊥) → n ≡ limited (closing == 1) n
  unfolding limited
  not_limited p = rw (ne_eqb closing 1 p)

module _ (why size customers traded closing : ℕ) where
  pub claim_is_least : why ≡ 0 → (a b : ℕ) → a ≡ least_of size customers traded → b ≡ limited (closing == 1) a → b ≡ claim_of why size customers traded closing
  unfolding claim_of
  claim_is_least p a b ea eb = rw (eq-eqb why 0 p) (eb ∙ ap (limited (closing == 1)) ea)

  pub no_claim : (why ≡ 0 → ⊥) → 0 ≡ claim_of why size customers traded closing
  unfolding claim_of
  no_claim p = rw (ne_eqb why 0 p)

pub ruleset word_laws = (later_by_words, one_minute_from, three_minutes_from, minutes_few, minutes_allowed, not_later, three_minutes_allowed, named_for_none, named_for_a_later, not_named_for_an_earlier, not_named_beyond, required_of_block, required_otherwise, least_in_turn, limited_in_window, not_limited, claim_is_least, no_claim)

module _ (side excuser status home initiator complex : ℕ) where
  pub reason_10 : side ≡ neither → 10 ≡ trade_reason side excuser status home initiator complex
  unfolding trade_reason first_of
  reason_10 q = rw (eq-eqb side neither q)

  module _ (p10 : side ≡ neither → ⊥) where
    pub reason_2 : (excuser ≡ 0 → ⊥) → 2 ≡ trade_reason side excuser status home initiator complex
    unfolding trade_reason first_of
    reason_2 q = rw (ne_eqb side neither p10, ne_eqb excuser 0 q)

    module _ (p2 : excuser ≡ 0) where
      pub reason_3 : status ≡ not_firm → 3 ≡ trade_reason side excuser status home initiator complex
      unfolding trade_reason first_of
      reason_3 q = rw (ne_eqb side neither p10, eq-eqb excuser 0 p2, eq-eqb status not_firm q)

      module _ (p3 : status ≡ not_firm → ⊥) where
        module _ (b4 : Bool) (e4 : b4 ≡ (eqb initiator 0 && eqb home not_firm)) where
          pub reason_4 : b4 ≡ true → 4 ≡ trade_reason side excuser status home initiator complex
          unfolding trade_reason first_of
          reason_4 q = rw (ne_eqb side neither p10, eq-eqb excuser 0 p2, ne_eqb status not_firm p3, sym e4 ∙ q)

          module _ (p4 : b4 ≡ false) where
            pub reason_5 : status ≡ rotation → 5 ≡ trade_reason side excuser status home initiator complex
            unfolding trade_reason first_of
            reason_5 q = rw (ne_eqb side neither p10, eq-eqb excuser 0 p2, ne_eqb status not_firm p3, sym e4 ∙ p4, eq-eqb status rotation q)

            module _ (p5 : status ≡ rotation → ⊥) where
              pub reason_6 : home ≡ rotation → 6 ≡ trade_reason side excuser status home initiator complex
              unfolding trade_reason first_of
              reason_6 q = rw (ne_eqb side neither p10, eq-eqb excuser 0 p2, ne_eqb status not_firm p3, sym e4 ∙ p4, ne_eqb status rotation p5, eq-eqb home rotation q)

              module _ (p6 : home ≡ rotation → ⊥) where
                pub reason_7 : complex ≡ complex_trade → 7 ≡ trade_reason side excuser status home initiator complex
                unfolding trade_reason first_of
                reason_7 q = rw (ne_eqb side neither p10, eq-eqb excuser 0 p2, ne_eqb status not_firm p3, sym e4 ∙ p4, ne_eqb status rotation p5, ne_eqb home rotation p6, eq-eqb complex complex_trade q)

                module _ (p7 : complex ≡ complex_trade → ⊥) where
                  pub no_trade_reason : 0 ≡ trade_reason side excuser status home initiator complex
                  unfolding trade_reason first_of
                  no_trade_reason = rw (ne_eqb side neither p10, eq-eqb excuser 0 p2, ne_eqb status not_firm p3, sym e4 ∙ p4, ne_eqb status rotation p5, ne_eqb home rotation p6, ne_eqb complex complex_trade p7)

module _ (initiator report close now allowed : ℕ) (ea : allowed ≡ allowed_at initiator report close) (late : Bool) (el : late ≡ later_than report allowed now) where
  is_late : later_than report (allowed_at initiator report close) now ≡ late
  is_late = rw (← ea) (sym el)

  pub no_late_reason : late ≡ false → 0 ≡ late_reason initiator report close now
  unfolding late_reason first_of
  no_late_reason q = rw (is_late, q, and-false (eqb initiator 0), and-false (not (eqb initiator 0)))

  pub reason_8 : late ≡ true → initiator ≡ 0 → 8 ≡ late_reason initiator report close now
  unfolding late_reason first_of
  reason_8 q p = rw (is_late, q, eq-eqb initiator 0 p)

  pub reason_9 : late ≡ true → (initiator ≡ 0 → ⊥) → 9 ≡ late_reason initiator report close now
  unfolding late_reason first_of
  reason_9 q p = rw (is_late, q, ne_eqb initiator 0 p)

-- "reason 15: later than 180,000 ms after the cancellation"
module _ (cancelled now : ℕ) (late : Bool) (el : late ≡ later_than cancelled three_minutes now) where
  pub reason_15 : late ≡ true → 15 ≡ again_reason cancelled now
  unfolding again_reason first_of
  reason_15 q = rw (← el, q)

  pub again_in_time : late ≡ false → 0 ≡ again_reason cancelled now
  unfolding again_reason first_of
  again_in_time q = rw (← el, q)

-- "The second is not judged by 8 or 9 but by reason 15"
module _ (again initiator report close now why : ℕ) where
  pub judged_again : (again ≡ 0 → ⊥) → why ≡ again_reason (again - 1) now → why ≡ time_reason again initiator report close now
  unfolding again_reason time_reason
  judged_again p e = e ∙ rw (ne_eqb again 0 p)

  pub judged_first : again ≡ 0 → why ≡ late_reason initiator report close now → why ≡ time_reason again initiator report close now
  unfolding late_reason time_reason
  judged_first p e = e ∙ rw (eq-eqb again 0 p)

module _ (asked price block there contracts : ℕ) where
  module _ (b11 : Bool) (e11 : b11 ≡ (eqb asked price && not (eqb block 1))) where
    pub reason_11 : b11 ≡ true → 11 ≡ price_reason asked price block there contracts
    unfolding price_reason first_of
    reason_11 q = rw (sym e11 ∙ q)

    module _ (p11 : b11 ≡ false) where
      module _ (need : ℕ) (e12 : need ≡ required_of block price there) where
        pub reason_12 : (asked ≡ need → ⊥) → 12 ≡ price_reason asked price block there contracts
        unfolding price_reason first_of
        reason_12 q = rw (sym e11 ∙ p11, ne_eqb asked (required_of block price there) (λ z. q (z ∙ sym e12)))

        module _ (p12 : asked ≡ need) where
          pub reason_13 : contracts ≡ 0 → 13 ≡ price_reason asked price block there contracts
          unfolding price_reason first_of
          reason_13 q = rw (sym e11 ∙ p11, eq-eqb asked (required_of block price there) (p12 ∙ e12), eq-eqb contracts 0 q)

          module _ (p13 : contracts ≡ 0 → ⊥) where
            pub no_price_reason : 0 ≡ price_reason asked price block there contracts
            unfolding price_reason first_of
            no_price_reason = rw (sym e11 ∙ p11, eq-eqb asked (required_of block price there) (p12 ∙ e12), ne_eqb contracts 0 p13)

pub ruleset reason_laws = (reason_10, reason_2, reason_3, reason_4, reason_5, reason_6, reason_7, no_trade_reason, allowed_at_most, reason_8, reason_9, no_late_reason, reason_15, again_in_time, judged_again, judged_first, reason_11, reason_12, reason_13, no_price_reason)

-- ---- the parts in their order are the whole table

first_append : (a b : List Row) → all (λ (r : Row). not (r.number == 0)) a ≡ true → first_of (a ++ b) ≡ (if first_of a == 0 then first_of b else first_of a)
unfolding first_of all
first_append [] b h = refl
first_append (r ∷ a) b h =
    by_test r.holds
    (λ z. rw (z, not-true (eqb r.number 0) (and_left (not (eqb r.number 0)) _ h)))
    (λ z. rw z (first_append a b (and_right (not (eqb r.number 0)) _ h)))

timed : (again initiator report close now : ℕ) → all (λ (r : Row). not (r.number == 0)) (by_time again initiator report close now) ≡ true
unfolding all
timed again initiator report close now = by_test (eqb again 0) (λ p. rw p) (λ p. rw p)

module _ (k : Facts) where
  parts : reason_of k
      ≡ (if trade_reason k.side k.excuser k.status k.home k.initiator k.complex == 0
      then
      (if time_reason k.again k.initiator k.report k.close k.time == 0
      then price_reason k.asked k.price k.block k.there k.customers
      else time_reason k.again k.initiator k.report k.close k.time)
      else trade_reason k.side k.excuser k.status k.home k.initiator k.complex)
  unfolding reason_of trade_reason time_reason price_reason all
  parts =
      first_append
      (by_trade k.side k.excuser k.status k.home k.initiator k.complex)
      (by_time k.again k.initiator k.report k.close k.time ++ by_price k.asked k.price k.block k.there k.customers)
      refl
      ∙ ap (λ (later : ℕ). if trade_reason k.side k.excuser k.status k.home k.initiator k.complex == 0
      then later else trade_reason k.side k.excuser k.status k.home k.initiator k.complex)
      (first_append
      (by_time k.again k.initiator k.report k.close k.time)
      (by_price k.asked k.price k.block k.there k.customers)
      (timed k.again k.initiator k.report k.close k.time))

  module _ (t : ℕ) (et : t ≡ trade_reason k.side k.excuser k.status k.home k.initiator k.complex) where
    pub reason_by_trade : (t ≡ 0 → ⊥) → t ≡ reason_of k
    reason_by_trade p = rw (parts, ← et, ne_eqb t 0 p)

    module _ (z : t ≡ 0) (l : ℕ) (el : l ≡ time_reason k.again k.initiator k.report k.close k.time) where
      pub reason_by_time : (l ≡ 0 → ⊥) → l ≡ reason_of k
      reason_by_time p = rw (parts, ← et, ← el, eq-eqb t 0 z, ne_eqb l 0 p)

      pub reason_by_price : l ≡ 0 → (c : ℕ) → c ≡ price_reason k.asked k.price k.block k.there k.customers → c ≡ reason_of k
      reason_by_price p c ec = rw (parts, ← et, ← el, eq-eqb t 0 z, eq-eqb l 0 p) ec

  some_number : (reason : Reason) → number_of reason ≡ 0 → ⊥
  some_number NotTradedThrough z = omega arith
  some_number HadSent z = omega arith
  some_number SenderNonFirm z = omega arith
  some_number HomeNonFirm z = omega arith
  some_number SenderInRotation z = omega arith
  some_number HomeInRotation z = omega arith
  some_number Complex z = omega arith
  some_number Late z = omega arith
  some_number LateAgain z = omega arith
  some_number LateWithInitiator z = omega arith
  some_number InitiatorNamed z = omega arith
  some_number PricedAsBlock z = omega arith
  some_number NotThePriceRequired z = omega arith
  some_number NoCustomers z = omega arith

  pub first_told : (t l c : Option Reason)
      → stored_as t ≡ trade_reason k.side k.excuser k.status k.home k.initiator k.complex
      → stored_as l ≡ time_reason k.again k.initiator k.report k.close k.time
      → stored_as c ≡ price_reason k.asked k.price k.block k.there k.customers
      → stored_as (option_or (option_or t l) c) ≡ reason_of k
  first_told (Some reason) l c et el ec = reason_by_trade (number_of reason) et (some_number reason)
  first_told None (Some reason) c et el ec = reason_by_time 0 et refl (number_of reason) el (some_number reason)
  first_told None None c et el ec = reason_by_price 0 et refl 0 el refl (stored_as c) ec

pub ruleset whole_laws = (reason_by_trade, reason_by_time, reason_by_price, first_told)
