-- What the rows of one trade say the reason on a Satisfaction Order, its customer contracts and its claim.
use mathlib.Core.Path.{◌≡◌, refl, sym}
use mathlib.Core.Logic.{◌⊎◌, inl, inr, ⊎_elim}
use mathlib.Core.Bool.{Bool, true, false, not, ◌&&◌, or-false, and-false, not-not}
use mathlib.Core.List.{[], ◌∷◌}
use Prim.Native.Nat.{ℕ, ◌+◌, ◌-◌, ◌≤◌}
use native.Mathlib.Omega.{arith}
use lib.ListN.{get_or, length}
use borrow.Author.Tests.{ne_eqb, leb-true, leb-false, lt-ltb, le-ltb}
use Rattle.std.specs.Prelude.{if◌then◌else◌, ◌==◌}
use Rattle.rules.specs.Basics.{◌at_most◌, ◌at_least◌, ◌more_than◌, any, first_of}
use Rattle.rules.specs.Limits.{closing_minutes}
use Rattle.rules.specs.Header.{Header}
use Rattle.rules.specs.Record.{buy, sell, Event, trade, satisfaction}
use Rattle.rules.specs.Journal.{History, closing_begun}
use Rattle.rules.specs.Prices.{standing, status_of}
use Rattle.rules.specs.Verdicts.{neither, the_bid, through, side_through, is_block}
use Rattle.rules.specs.Reasons.{Case, sender_quote, sender_side, customers, had_sent, report, three_minutes, one_minute, minutes_from, time_to_claim, late_by, sent_again_after, again_late, names_in_time, required, reason}
use Rattle.rules.specs.Due.{least_of_three, claim}
use Rattle.rules.proofs.Tests.{by_test, bit_is}
use Rattle.trades.specs.Trades.{price_on, customers_on, excusing_side, snap, snap_at, trade_row}
use Rattle.trades.proofs.Snaps.{excuser_tells}
use Rattle.reasons.specs.declared.Facts.{Facts}
use Rattle.reasons.specs.Reasons.{later_than, minutes_at, allowed_at, in_time, again_at, required_of, reason_of, claim_of}

-- an exchange that was not traded through is not asked for its excuse
unasked : (outside had : Bool) (rest : ℕ)
    → (if outside then 10 else if had then 2 else rest) ≡ (if outside then 10 else if (if outside then false else had) then 2 else rest)
unasked true had rest = refl
unasked false had rest = refl

-- one time is allowed, for 8 with no initiator, for 9 with one
module _ (minutes : ℕ) (late : ℕ → Bool) where
  allowed_with_none : (first none : Bool) → (first && none && late minutes) ≡ (first && none && late (if none then minutes else three_minutes))
  allowed_with_none first true = refl
  allowed_with_none first false = rw (and-false first)

  allowed_with_one : (first none : Bool) → (first && not none && late three_minutes) ≡ (first && not none && late (if none then minutes else three_minutes))
  allowed_with_one first true = rw (and-false first)
  allowed_with_one first false = refl

-- "up to and including" is not later than
not_later : (limit now : ℕ) → not (now more_than limit) ≡ (now at_most limit)
not_later limit now =
    by_test (now at_most limit)
    (λ p. let le = leb-true now limit p in rw (p, le-ltb limit now le))
    (λ p. let lt = leb-false now limit p in rw (p, lt-ltb limit now lt))

pub in_time_is : (h : Header) (close : ℕ) → h.close ≡ close → (received now : ℕ) → in_time received close now ≡ (now at_most (received + minutes_from h received))
unfolding in_time later_than minutes_at minutes_from
in_time_is h close closes received now = rw (← closes) (not_later _ now)

-- ---- a case in words, of the sender y + 1

size_word : (h : Header) (e : Event) (before : History) → (trade e).size ≡ get_or (trade_row h e before) 1 0
unfolding trade_row
size_word h e before = refl

closing_word : (h : Header) (e : Event) (before : History) → closing_begun before ≡ (get_or (trade_row h e before) 7 0 == 1)
unfolding trade_row
closing_word h e before = sym (bit_is (closing_begun before))

-- what the tables of the trade say
abbrev pub facts_in : Header → Case → ℕ → Facts
facts_in h k y =
    record {
      side = get_or (snap_at k.trade k.before y) 0 0;
      there = get_or (snap_at k.trade k.before y) 1 0;
      customers = get_or (snap_at k.trade k.before y) 2 0;
      status = get_or (snap_at k.trade k.before y) 3 0;
      excuser = get_or (snap_at k.trade k.before y) 4 0;
      home = status_of h.home k.before;
      price = get_or (trade_row h k.trade k.before) 0 0;
      block = get_or (trade_row h k.trade k.before) 2 0;
      complex = get_or (trade_row h k.trade k.before) 3 0;
      initiator = get_or (trade_row h k.trade k.before) 4 0;
      report = get_or (trade_row h k.trade k.before) 5 0;
      close = h.close;
      asked = (satisfaction k.claim).price;
      time = k.claim.time;
      again = again_at (sent_again_after k);
    }

-- of records that are one at most
at_most_one : (cs : History) → length cs ≤ 1 → (cs ≡ []) ⊎ ((c : Event) × (cs ≡ c ∷ []))
at_most_one [] few = inl refl
at_most_one (c ∷ []) few = inr (c, refl)
at_most_one (c ∷ d ∷ cs) few = absurd (omega arith)

module _ (h : Header) (k : Case) (y : ℕ) (es : (satisfaction k.claim).sender ≡ y + 1) where
  -- of an order that nothing cancels in time, sent again after a cancellation or not
  reason_words_by : (sent_again_after k ≡ []) ⊎ ((c : Event) × (sent_again_after k ≡ c ∷ []))
      → any (names_in_time h k.number k.claim) k.day ≡ false → reason h k ≡ reason_of (facts_in h k y)
  unfolding first_of any reason reason_of snap trade_row sender_side sender_quote side_through late_by minutes_from time_to_claim minutes_at allowed_at later_than again_late again_at customers required required_of price_on customers_on excusing_side
  reason_words_by one stands =
      let t = trade k.trade in
      let side : ℕ = through (standing (y + 1) t.series k.before) t.price in
      let had : Bool = had_sent (y + 1) t.series (if side == the_bid then sell else buy) k.trade.time k.before in
      let minutes : ℕ = if report k.trade at_least (h.close - closing_minutes) then one_minute else three_minutes in
      let late : ℕ → Bool = λ allowed. k.claim.time more_than (report k.trade + allowed) in
      ⊎_elim
      (λ first.
      rw (
        stands,
        es,
        excuser_tells side (y + 1) t.series k.trade.time k.before,
        bit_is (is_block h k.before t),
        not-not (t.initiator == 0),
        allowed_with_none minutes late (length (sent_again_after k) == 0) (t.initiator == 0),
        allowed_with_one minutes late (length (sent_again_after k) == 0) (t.initiator == 0),
      )
      (rw first (unasked (side == neither) had _)))
      (λ again.
      let c : Event = again.0 in
      let back : c.time + 1 - 1 ≡ c.time = omega arith in
      rw (
        stands,
        es,
        excuser_tells side (y + 1) t.series k.trade.time k.before,
        bit_is (is_block h k.before t),
        not-not (t.initiator == 0),
        again.1,
      )
      (rw (ne_eqb (c.time + 1) 0 (λ q. omega arith), back, or-false (k.claim.time more_than (c.time + three_minutes)))
      (unasked (side == neither) had _)))
      one

  pub reason_words : length (sent_again_after k) ≤ 1 → any (names_in_time h k.number k.claim) k.day ≡ false → reason h k ≡ reason_of (facts_in h k y)
  reason_words few = reason_words_by (at_most_one (sent_again_after k) few)

  pub customers_words : customers k ≡ get_or (snap_at k.trade k.before y) 2 0
  unfolding customers snap sender_side sender_quote side_through customers_on
  customers_words = rw es

  pub claim_words_lem : (size : ℕ) → (satisfaction k.claim).size ≡ size
      → claim h k ≡ claim_of (reason h k) size (get_or (snap_at k.trade k.before y) 2 0) (get_or (trade_row h k.trade k.before) 1 0) (get_or (trade_row h k.trade k.before) 7 0)
  unfolding claim claim_of least_of_three
  claim_words_lem size ez = rw (ez, customers_words, size_word h k.trade k.before, closing_word h k.trade k.before)
