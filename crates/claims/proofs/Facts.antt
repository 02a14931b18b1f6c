-- What the tables of trades kept says the reason on a Satisfaction Order, its customer contracts and its claim.
use mathlib.Core.Path.{◌≡◌, refl, sym, ap, ◌∙◌}
use mathlib.Core.Bool.{false}
use mathlib.Core.List.{List}
use Prim.Native.Nat.{ℕ, ◌+◌, ◌-◌, ◌*◌, ◌<◌, ◌≤◌}
use native.Mathlib.Omega.{arith}
use lib.ListN.{get_or, length}
use Rattle.rules.specs.Basics.{any}
use Rattle.rules.specs.Limits.{most_exchanges}
use Rattle.rules.specs.Header.{Header}
use Rattle.rules.specs.Record.{Event, satisfaction}
use Rattle.rules.specs.Journal.{History, trade_at, before_trade, taken_back}
use Rattle.rules.specs.Prices.{status_of}
use Rattle.rules.specs.Reasons.{Case, case_of, customers, sent_again_after, names_in_time, reason}
use Rattle.rules.specs.Due.{claim}
use Rattle.trades.specs.Trades.{snap, snap_at, Traded}
use Rattle.reasons.specs.Reasons.{again_at, reason_of, claim_of}
use Rattle.reasons.proofs.Judge.{facts_in, reason_words, customers_words, claim_words_lem}
use Rattle.claims.specs.Facts.{facts_of}

status_word : (e : Event) (before : History) (y : ℕ) → get_or (snap_at e before y) 3 0 ≡ status_of (y + 1) before
unfolding snap
status_word e before y = refl

-- the case of a Satisfaction Order for trade m
abbrev case_at : History → History → ℕ → Event → ℕ → Case
case_at day past n e m = record { number = n; claim = e; past = past; trade = trade_at m past; before = before_trade m past; day = day }

module _ (h : Header) (day past : History) (n : ℕ) (trades shown : List ℕ) (traded m y home : ℕ) (held : Traded h past trades shown traded) (hm : m < traded)
    (hy : y < h.exchanges) (eh : h.home ≡ home) (low : 1 ≤ home) (high : home ≤ h.exchanges)
    (e : Event) (et : (satisfaction e).trade ≡ m) (es : (satisfaction e).sender ≡ y + 1) where
  case_is : case_of day past n e ≡ case_at day past n e m
  unfolding case_of
  case_is = rw et

  again_is : again_at (sent_again_after (case_at day past n e m)) ≡ again_at (taken_back m (y + 1) past)
  unfolding sent_again_after
  again_is = rw (et, es)

  few_again : length (taken_back m (y + 1) past) ≤ 1 → length (sent_again_after (case_at day past n e m)) ≤ 1
  unfolding sent_again_after
  few_again few = rw (et, es) few

  pub facts_are : (close asked now again : ℕ) → h.close ≡ close → (satisfaction e).price ≡ asked → e.time ≡ now → again ≡ again_at (taken_back m (y + 1) past)
      → facts_of trades shown m y home close asked now again ≡ facts_in h (case_at day past n e m) y
  unfolding facts_of
  facts_are close asked now again ec ea en eg =
      let home_status : get_or shown ((m * most_exchanges + (home - 1)) * 8 + 3) 0 ≡ status_of h.home (before_trade m past) =
      held.snaps m (home - 1) 3 hm (omega arith) (omega arith) ∙ status_word (trade_at m past) (before_trade m past) (home - 1)
      ∙ ap (λ (x : ℕ). status_of x (before_trade m past)) (omega arith) in
      rw (
        held.snaps m y 0 hm hy (omega arith),
        held.snaps m y 1 hm hy (omega arith),
        held.snaps m y 2 hm hy (omega arith),
        held.snaps m y 3 hm hy (omega arith),
        held.snaps m y 4 hm hy (omega arith),
        home_status,
        held.rows m 0 hm (omega arith),
        held.rows m 2 hm (omega arith),
        held.rows m 3 hm (omega arith),
        held.rows m 4 hm (omega arith),
        held.rows m 5 hm (omega arith),
        ← ec,
        ← ea,
        ← en,
        eg,
        ← again_is,
      )

  pub reason_is : any (names_in_time h n e) day ≡ false → length (taken_back m (y + 1) past) ≤ 1
      → (close asked now again : ℕ) → h.close ≡ close → (satisfaction e).price ≡ asked → e.time ≡ now → again ≡ again_at (taken_back m (y + 1) past)
      → reason_of (facts_of trades shown m y home close asked now again) ≡ reason h (case_of day past n e)
  reason_is stands few close asked now again ec ea en eg =
      rw (facts_are close asked now again ec ea en eg, case_is) (sym (reason_words h (case_at day past n e m) y es (few_again few) stands))

  pub customers_are : get_or shown ((m * most_exchanges + y) * 8 + 2) 0 ≡ customers (case_of day past n e)
  customers_are = rw (held.snaps m y 2 hm hy (omega arith), case_is) (sym (customers_words h (case_at day past n e m) y es))

  pub claim_is : (why contracts size : ℕ) → why ≡ reason h (case_of day past n e) → contracts ≡ customers (case_of day past n e) → (satisfaction e).size ≡ size
      → claim_of why size contracts (get_or trades (m * 8 + 1) 0) (get_or trades (m * 8 + 7) 0) ≡ claim h (case_of day past n e)
  claim_is why contracts size ew eu ez =
      rw (ew, eu, ← customers_are, held.snaps m y 2 hm hy (omega arith), held.rows m 1 hm (omega arith), held.rows m 7 hm (omega arith), case_is) (sym (claim_words_lem h _ y es size ez))
