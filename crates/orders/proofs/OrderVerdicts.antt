-- Sent and received orders against the tables: one law for each way out of the code.
use mathlib.Core.Path.{◌≡◌, ◌∙◌, sym, ap}
use mathlib.Core.Bool.{Bool, true, false, not}
use mathlib.Core.List.{List}
use Prim.Native.Nat.{ℕ, suc, ◌+◌, ◌-◌, ◌*◌, ◌<◌, ◌≤◌, min}
use native.Mathlib.Omega.{arith}
use native.Mathlib.Numerals.{add-one}
use lib.ListN.{get_or}
use lib.Seq.{get_or-take}
use borrow.Author.Tests.{eq-eqb, ne_eqb}
use Rattle.std.specs.Prelude.{Some, None}
use Rattle.rules.specs.Basics.{first_of}
use Rattle.rules.specs.Limits.{most_exchanges}
use Rattle.rules.specs.Header.{Header, automatic, principal, sizes_of}
use Rattle.rules.specs.Record as paper
use Rattle.rules.specs.Record.{Event}
use Rattle.rules.specs.Journal.{History}
use Rattle.rules.specs.Prices.{standing, status_of}
use Rattle.rules.specs.Verdicts.{sent_order, no_duty, firm_size}
use Rattle.rows.specs.Rows.{Reads, OrderOk}
use Rattle.rows.specs.declared.Rec.{Rec}
use Rattle.quotes.specs.Tables.{many_series, Quoted, Statuses, Within}
use Rattle.prices.specs.Prices.{above_of, equal_of, bid_of, offer_of, PlaceIs, BidIs, OfferIs}
use Rattle.orders.specs.Orders.{Headed, Heads, as_order, OrderIs, worse_of, shown_at, best_at, sent_as, ShownIs, BestIs, SentIs, NoDutyIs, FirmIs}
use Rattle.orders.specs.declared.Order.{Order}
use Rattle.orders.specs.declared.Sent.TheVariants as sent
use Rattle.orders.specs.declared.Reason.TheVariants.{AbsentOrWorse, NotBest, NonFirm}
use Rattle.prices.proofs.BestPrices.{Shows, bid_shown, offer_shown}

module _ (side there price : ℕ) (r : Bool) where
  pub worse_buy : side ≡ 1 → r ≡ above_of there price → r ≡ worse_of side there price
  unfolding worse_of above_of
  worse_buy e w = rw (eq-eqb _ _ e) w

  pub worse_sell : (side ≡ 1 → ⊥) → r ≡ above_of price there → r ≡ worse_of side there price
  unfolding worse_of above_of
  worse_sell e w = rw (ne_eqb _ _ e) w

-- ---- what an exchange shows, and the best

-- one before an exchange is its place, one after that is the exchange
place_before : (exchange : ℕ) → 1 ≤ exchange → suc (exchange - 1) ≡ exchange
place_before exchange l = omega arith

module _ (quotes : List ℕ) (exchange series side k : ℕ) (w : Within exchange series) (p : PlaceIs (exchange - 1) series k) where
  shown_at_lem : (word : ℕ) (of : paper.Quote → ℕ) → Shows word of quotes → (past : History) → Quoted past quotes → get_or quotes (k + word) 0 ≡ of (standing exchange series past)
  shown_at_lem word of shows past held =
      shows past held (exchange - 1) series k (omega arith) w.low p ∙ ap (λ y. of (standing y series past)) (place_before exchange w.from_one)

  pub shown_offer : side ≡ 1 → ShownIs quotes exchange series side (get_or quotes (k + 5) 0)
  unfolding shown_at offer_of
  shown_offer e = record { so = λ past held. rw (eq-eqb _ _ e) (shown_at_lem 5 offer_of (offer_shown quotes) past held) }

  pub shown_bid : (side ≡ 1 → ⊥) → ShownIs quotes exchange series side (get_or quotes (k + 2) 0)
  unfolding shown_at bid_of
  shown_bid e = record { so = λ past held. rw (ne_eqb _ _ e) (shown_at_lem 2 bid_of (bid_shown quotes) past held) }

module _ (quotes : List ℕ) (exchanges series side r : ℕ) where
  pub best_buy : side ≡ 1 → OfferIs quotes exchanges series r → BestIs quotes exchanges series side r
  unfolding best_at
  best_buy e f = record { so = λ h past en held. rw (eq-eqb _ _ e) (f.so h past en held) }

  pub best_sell : (side ≡ 1 → ⊥) → BidIs quotes exchanges series r → BestIs quotes exchanges series side r
  unfolding best_at
  best_sell e f = record { so = λ h past en held. rw (ne_eqb _ _ e) (f.so h past en held) }

-- ---- a sent order

module _ (quotes : List ℕ) (exchanges : ℕ) (order : Order) (there : ℕ) (et : ShownIs quotes order.other order.series order.side there) (b : Bool) (eb : b ≡ equal_of order.price there) where
  pub sent_not_shown : not b ≡ true → SentIs quotes exchanges order sent.NotShown
  unfolding sent_as sent_order as_order first_of shown_at equal_of
  sent_not_shown z = record { so = λ h past en held. rw (← et.so past held, ← eb, z) }

  module _ (z : not b ≡ false) (p : ℕ) (ep : BestIs quotes exchanges order.series order.side p) where
    pub sent_not_best : (there ≡ p → ⊥) → SentIs quotes exchanges order sent.NotBest
    unfolding sent_as sent_order as_order first_of shown_at equal_of best_at
    sent_not_best ne = record { so = λ h past en held. rw (← et.so past held, ← eb, z, ← ep.so h past en held, ne_eqb _ _ ne) }

    pub sent_fine : there ≡ p → SentIs quotes exchanges order sent.Fine
    unfolding sent_as sent_order as_order first_of shown_at equal_of best_at
    sent_fine e = record { so = λ h past en held. rw (← et.so past held, ← eb, z, ← ep.so h past en held, eq-eqb _ _ e) }

-- ---- why there is no duty

module _ (quotes statuses : List ℕ) (exchanges home : ℕ) (order : Order) (ours : ℕ) (et : ShownIs quotes home order.series order.side ours) where
  pub duty_absent : ours ≡ 0 → NoDutyIs quotes statuses exchanges home order (Some AbsentOrWorse)
  unfolding no_duty as_order first_of shown_at
  duty_absent e = record { so = λ h past en eh held hs. rw (eh, ← et.so past held, eq-eqb _ _ e) }

  module _ (some : ours ≡ 0 → ⊥) (b : Bool) (eb : b ≡ worse_of order.side ours order.price) where
    pub duty_worse : b ≡ true → NoDutyIs quotes statuses exchanges home order (Some AbsentOrWorse)
    unfolding no_duty as_order first_of shown_at worse_of
    duty_worse z = record { so = λ h past en eh held hs. rw (eh, ← et.so past held, ← eb, ne_eqb _ _ some, z) }

    module _ (z : b ≡ false) (p : ℕ) (ep : BestIs quotes exchanges order.series order.side p) where
      pub duty_not_best : (ours ≡ p → ⊥) → NoDutyIs quotes statuses exchanges home order (Some NotBest)
      unfolding no_duty as_order first_of shown_at worse_of best_at
      duty_not_best ne =
          record {
            so = λ h past en eh held hs.
                rw (← ep.so h past en held, eh, ← et.so past held, ← eb, ne_eqb _ _ some, z, ne_eqb _ _ ne);
          }

      module _ (same : ours ≡ p) (w : (exchanges ≤ most_exchanges) × Within home order.series) where
        status_is : (past : History) → Statuses past statuses → get_or statuses (home - 1) 0 ≡ status_of home past
        status_is past hs =
            hs.status (home - 1) (omega arith) ∙ ap (λ exchange. status_of exchange past) (add-one (home - 1) ∙ place_before home w.1.from_one)

        pub duty_non_firm : get_or statuses (home - 1) 0 ≡ 1 → NoDutyIs quotes statuses exchanges home order (Some NonFirm)
        unfolding no_duty as_order first_of shown_at worse_of best_at
        duty_non_firm e =
            record {
              so = λ h past en eh held hs.
                  rw (← ep.so h past en held, eh, ← et.so past held, ← eb, ne_eqb _ _ some, z, eq-eqb _ _ same, ← status_is past hs, eq-eqb _ _ e);
            }

        pub duty_full : (get_or statuses (home - 1) 0 ≡ 1 → ⊥) → NoDutyIs quotes statuses exchanges home order None
        unfolding no_duty as_order first_of shown_at worse_of best_at
        duty_full e =
            record {
              so = λ h past en eh held hs.
                  rw (← ep.so h past en held, eh, ← et.so past held, ← eb, ne_eqb _ _ some, z, eq-eqb _ _ same, ← status_is past hs, ne_eqb _ _ e);
            }

-- ---- the firm size

module _ (exchanges home : ℕ) (sizes : List ℕ) (order : Order) (hd : Headed exchanges home) (from : 1 ≤ order.other) (to : order.other ≤ exchanges) where
  size_at : (h : Header) → Heads h exchanges home sizes → (i : ℕ) → i < sizes_of exchanges → get_or h.sizes i 0 ≡ get_or sizes i 0
  size_at h hs i l = ap (λ (z : List ℕ). get_or z i 0) hs.sizes ∙ rw get_or-take

  pub firm_linked : order.kind ≡ 1 → (r : ℕ) → r ≡ min (get_or sizes (2 * (home - 1)) 0) (get_or sizes (2 * (order.other - 1)) 0) → FirmIs exchanges home sizes order r
  unfolding firm_size as_order automatic
  firm_linked e r m =
      record {
        so = λ h hs.
            let at_home : automatic h h.home ≡ get_or sizes (2 * (home - 1)) 0 = ap (automatic h) hs.home ∙ size_at h hs (2 * (home - 1)) (omega arith) in
            rw (eq-eqb _ _ e, at_home, size_at h hs (2 * (order.other - 1)) (omega arith)) m;
      }

  pub firm_principal : (order.kind ≡ 1 → ⊥) → FirmIs exchanges home sizes order (get_or sizes (2 * (home - 1) + 1) 0)
  unfolding firm_size as_order principal
  firm_principal e =
      record {
        so = λ h hs. rw (ne_eqb _ _ e) (sym (ap (principal h) hs.home ∙ size_at h hs (2 * (home - 1) + 1) (omega arith)));
      }

-- ---- what the code took out of a record is what the paper names

pub order_is : (r : Rec) (e : Event) → Reads e r → (order : Order) → OrderIs r order → as_order order ≡ paper.order e
unfolding as_order
order_is r e reads order is =
    rw (is.type ∙ reads.fields 0, is.other ∙ reads.fields 1, is.series ∙ reads.fields 2, is.side ∙ reads.fields 3, is.price ∙ reads.fields 4, is.size ∙ reads.fields 5)

module _ (exchanges home : ℕ) (r : Rec) (ok : OrderOk exchanges home r) (order : Order) (is : OrderIs r order) where
  pub order_from : 1 ≤ order.other
  order_from = omega (arith, ok.other.from_one, is.other)

  pub order_to : order.other ≤ exchanges
  order_to = omega (arith, ok.other.to_n, is.other)

  pub order_series : order.series < many_series
  order_series = omega (arith, ok.series, is.series)

-- ---- what the callees require

pub home_within : (exchanges home series : ℕ) → Headed exchanges home → series < many_series → Within home series
home_within exchanges home series hd low = record { from_one = hd.from_one; to_eight = omega arith; low = low }

pub ruleset order_laws = (worse_buy, worse_sell, shown_offer, shown_bid, best_buy, best_sell, sent_not_shown, sent_not_best, sent_fine, duty_absent, duty_worse, duty_not_best, duty_non_firm, duty_full, firm_linked, firm_principal, home_within)
