-- A received order against the tables, and a home quote in the table of periods: one law for each way out of the code.
use mathlib.Core.Path.{◌≡◌, refl, sym, ap, ◌∙◌}
use mathlib.Core.Bool.{Bool, true, false, not, and-false, and-true}
use mathlib.Core.List.{List}
use Prim.Native.Nat.{ℕ, ◌+◌, ◌-◌, ◌<◌, ◌≤◌, min}
use native.Mathlib.Omega.{arith}
use lib.Dec.{leb}
use borrow.Author.Tests.{eq-eqb, ne_eqb, le-leb, lt-leb, lt-ltb, le-ltb}
use Rattle.std.specs.Prelude.{Option, Some, None, ◌==◌}
use Rattle.rules.specs.Limits.{most_exchanges}
use Rattle.rules.specs.Header.{Header, principal}
use Rattle.rules.specs.Journal.{History}
use Rattle.rules.specs.Verdicts.{no_duty, firm_size, no_duty_for, period_lasts, best_there, too_soon, still_limited, order_in, first_order}
use Rattle.rules.proofs.Periods.{as_first_lem, no_principal_order}
use Rattle.quotes.specs.Tables.{many_series, Quoted, Statuses}
use Rattle.prices.specs.Prices.{equal_of}
use Rattle.orders.specs.Orders.{Headed, Heads, as_order, shown_at, best_at, reason_number, reason_as, duty_as, ShownIs, BestIs, NoDutyIs, FirmIs}
use Rattle.orders.specs.declared.Order.{Order}
use Rattle.orders.specs.declared.Reason.{Reason}
use Rattle.orders.specs.declared.Reason.TheVariants.{AbsentOrWorse, NotBest, NonFirm, TooSoon}
use Rattle.orders.specs.declared.Duty.{Duty}
use Rattle.orders.specs.declared.Duty.TheVariants.{NoDuty, Whole, AtLeast}
use Rattle.orders.proofs.OrderVerdicts.{home_within}
use Rattle.periods.specs.Periods.{period_word, period_at, Tidy, BestThereIs, SoonIs, LimitedIs, OwedIs, InPeriod}

-- ---- "a price stands there now that is the best"

pub best_there_lem : (quotes : List ℕ) (exchanges home series side ours there : ℕ) → ShownIs quotes home series side ours → BestIs quotes exchanges series side there → (b : Bool) → b ≡ equal_of ours there
    → BestThereIs quotes exchanges home series side b
unfolding best_there equal_of shown_at best_at
best_there_lem quotes exchanges home series side ours there shown best b eb =
    record {
      so = λ h past execution en eh es ed held.
          rw (es, ed, ← best.so h past en held, eh, ← shown.so past held) eb;
    }

-- ---- too soon

module _ (periods quotes : List ℕ) (exchanges home from time : ℕ) where
  pub soon_none : period_word periods (from - 1) 0 ≡ 0 → SoonIs periods quotes exchanges home from time false
  unfolding period_at too_soon
  soon_none z = record { so = λ h past en eh held. rw (eq-eqb _ _ z) }

  module _ (stands : period_word periods (from - 1) 0 ≡ 0 → ⊥) (begins : ℕ) (eb : begins ≡ period_word periods (from - 1) 1)
      (now : ℕ) (en : now ≡ time) where
    pub soon_late : begins + 15000 < now → SoonIs periods quotes exchanges home from time false
    unfolding period_at too_soon
    soon_late late =
        record { so = λ h past ex eh held. rw (ne_eqb _ _ stands, ← eb, ← en, lt-leb now (begins + no_duty_for) late) }

    module _ (early : now ≤ begins + 15000) where
      pub soon_quiet : period_word periods (from - 1) 5 ≡ 0 → SoonIs periods quotes exchanges home from time true
      unfolding period_at too_soon
      soon_quiet z =
          record { so = λ h past ex eh held. rw (ne_eqb _ _ stands, ← eb, ← en, le-leb now (begins + no_duty_for) early, eq-eqb _ _ z) }

      pub soon_requoted : (period_word periods (from - 1) 5 ≡ 0 → ⊥) → (series : ℕ) → series ≡ period_word periods (from - 1) 2 → (b : Bool)
          → BestThereIs quotes exchanges home series (period_word periods (from - 1) 3) b → SoonIs periods quotes exchanges home from time (not b)
      unfolding period_at too_soon
      soon_requoted ne series es b best =
          record {
            so = λ h past ex eh held.
                rw (ne_eqb _ _ stands, ← eb, ← en, le-leb now (begins + no_duty_for) early, ne_eqb _ _ ne)
                (ap not (best.so h past _ ex eh (sym es) refl held));
          }

-- ---- still limited

module _ (periods : List ℕ) (from time : ℕ) where
  pub limited_none : period_word periods (from - 1) 0 ≡ 0 → LimitedIs periods from time false
  unfolding period_at still_limited
  limited_none z = record { so = rw (eq-eqb _ _ z) }

  module _ (stands : period_word periods (from - 1) 0 ≡ 0 → ⊥) where
    pub limited_requoted : (period_word periods (from - 1) 5 ≡ 0 → ⊥) → LimitedIs periods from time false
    unfolding period_at still_limited
    limited_requoted ne = record { so = rw (ne_eqb _ _ stands, ne_eqb _ _ ne, and-false) }

    module _ (quiet : period_word periods (from - 1) 5 ≡ 0) (begins : ℕ) (eb : begins ≡ period_word periods (from - 1) 1)
        (now : ℕ) (en : now ≡ time) where
      pub limited_early : now ≤ begins + 15000 → LimitedIs periods from time false
      unfolding period_at still_limited
      limited_early early = record { so = rw (ne_eqb _ _ stands, ← eb, ← en, le-ltb (begins + no_duty_for) now early) }

      module _ (late : begins + 15000 < now) where
        pub limited_by : LimitedIs periods from time (leb now (begins + 60000))
        unfolding period_at still_limited
        limited_by =
            record {
              so = rw (ne_eqb _ _ stands, ← eb, ← en, lt-ltb (begins + no_duty_for) now late, eq-eqb _ _ quiet) (sym (and-true (leb now (begins + period_lasts))));
            }

-- ---- an order in a period

module _ (size firm : ℕ) where
  pub owed_whole : size ≤ firm → OwedIs size firm (Whole size)
  unfolding duty_as
  owed_whole l = record { so = rw (le-leb _ _ l) }

  pub owed_least : firm < size → OwedIs size firm (AtLeast firm)
  unfolding duty_as
  owed_least l = record { so = rw (lt-leb _ _ l) }

never_0 : (reason : Reason) → (reason_number reason == 0) ≡ false
never_0 AbsentOrWorse = refl
never_0 NotBest = refl
never_0 NonFirm = refl
never_0 TooSoon = refl

module _ (quotes statuses periods : List ℕ) (exchanges home : ℕ) (sizes : List ℕ) (time : ℕ) (order : Order) (r : Option Reason) (er : NoDutyIs quotes statuses exchanges home order r) where
  reason_is : (h : Header) (past : History) → Heads h exchanges home sizes → Quoted past quotes → Statuses past statuses → reason_as r ≡ no_duty h past (as_order order)
  reason_is h past hd held hs = er.so h past hd.exchanges hd.home held hs

  pub received_none : (reason : Reason) → r ≡ Some reason → InPeriod quotes statuses periods exchanges home sizes time order (NoDuty reason)
  unfolding order_in duty_as
  received_none reason e = record { so = λ h past hd held hs. rw (← reason_is h past hd held hs, e, never_0 reason) }

  module _ (z : r ≡ None) (f : ℕ) (ef : FirmIs exchanges home sizes order f) where
    -- judged as a first one
    first_owed : ((h : Header) (past : History) → Heads h exchanges home sizes → Quoted past quotes → Statuses past statuses
        → order_in h past (period_at periods (order.other - 1)) time (as_order order) ≡ first_order h past (as_order order)) → (d : Duty) → OwedIs order.size f d
        → InPeriod quotes statuses periods exchanges home sizes time order d
    unfolding first_order as_order
    first_owed first d owed =
        record {
          so = λ h past hd held hs.
              owed.so ∙ rw (first h past hd held hs) (rw (← reason_is h past hd held hs, z, ← ef.so h hd));
        }

    module _ (other : order.kind ≡ 2 → ⊥) where
      linked_first : (h : Header) (past : History) → Heads h exchanges home sizes → Quoted past quotes → Statuses past statuses
          → order_in h past (period_at periods (order.other - 1)) time (as_order order) ≡ first_order h past (as_order order)
      unfolding as_order
      linked_first h past hd held hs = no_principal_order h past time (as_order order) (period_at periods (order.other - 1)) (ne_eqb _ _ other)

      pub linked_owed : (d : Duty) → OwedIs order.size f d → InPeriod quotes statuses periods exchanges home sizes time order d
      linked_owed d owed = first_owed linked_first d owed

    module _ (k : order.kind ≡ 2) (b : Bool) (eb : SoonIs periods quotes exchanges home order.other time b) where
      soon_is : (h : Header) (past : History) → Heads h exchanges home sizes → Quoted past quotes → b ≡ too_soon h past (period_at periods (order.other - 1)) time
      soon_is h past hd held = eb.so h past hd.exchanges hd.home held

      pub principal_soon : b ≡ true → InPeriod quotes statuses periods exchanges home sizes time order (NoDuty TooSoon)
      unfolding order_in duty_as as_order
      principal_soon y =
          record { so = λ h past hd held hs. rw (← reason_is h past hd held hs, z, eq-eqb _ _ k, ← soon_is h past hd held, y) }

      module _ (late : b ≡ false) (c : Bool) (ec : LimitedIs periods order.other time c) where
        -- of a principal order the firm size is home's principal size
        principal_firm : (h : Header) → Heads h exchanges home sizes → f ≡ principal h h.home
        unfolding firm_size as_order
        principal_firm h hd = rw k at (ef.so h hd)

        pub principal_limited : c ≡ true → (m : ℕ) → m ≡ min order.size f → InPeriod quotes statuses periods exchanges home sizes time order (AtLeast m)
        unfolding order_in duty_as as_order
        principal_limited y m em =
            record {
              so = λ h past hd held hs.
                  rw (← reason_is h past hd held hs, z, eq-eqb _ _ k, ← soon_is h past hd held, late, ← ec.so, y, em, principal_firm h hd);
            }

        module _ (no : c ≡ false) where
          principal_first : (h : Header) (past : History) → Heads h exchanges home sizes → Quoted past quotes → Statuses past statuses
              → order_in h past (period_at periods (order.other - 1)) time (as_order order) ≡ first_order h past (as_order order)
          principal_first h past hd held hs =
              as_first_lem h past time (as_order order) (period_at periods (order.other - 1)) (rw (← soon_is h past hd held, late, and-false)) (rw (← ec.so, no, and-false))

          pub principal_owed : (d : Duty) → OwedIs order.size f d → InPeriod quotes statuses periods exchanges home sizes time order d
          principal_owed d owed = first_owed principal_first d owed

-- ---- what the callees require

pub sender_to_eight : (exchanges home from : ℕ) → Headed exchanges home → from ≤ exchanges → from ≤ most_exchanges
sender_to_eight exchanges home from hd to = omega (arith, hd.few)

pub series_known : (periods : List ℕ) (from series : ℕ) → Tidy periods → 1 ≤ from → from ≤ most_exchanges → series ≡ period_word periods (from - 1) 2 → series < many_series
series_known periods from series tidy one eight es = omega (arith, es, tidy.series_low (from - 1) (omega arith))

pub ruleset period_laws = (best_there_lem, soon_none, soon_late, soon_quiet, soon_requoted, limited_none, limited_requoted, limited_early, limited_by, owed_whole, owed_least, received_none, linked_owed, principal_soon, principal_limited, principal_owed, sender_to_eight, series_known, home_within)
