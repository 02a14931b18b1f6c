-- What is kept of the exchanges at a trade.
use mathlib.Core.Path.{◌≡◌, refl, sym, ap, ◌∙◌}
use mathlib.Core.Bool.{false, not}
use mathlib.Core.List.{List, [], ◌∷◌}
use Prim.Native.Nat.{ℕ, zero, suc, ◌+◌, ◌*◌, ◌<◌, ◌≤◌}
use native.Mathlib.Omega.{arith}
use lib.Dec.{eqb}
use lib.ListN.{get_or}
use borrow.Author.Tests.{eq-eqb, ne_eqb, eqb-true, eqb-false}
use Rattle.std.specs.Prelude.{if◌then◌else◌, ◌==◌, Option, Some, None}
use Rattle.rules.specs.Limits.{most_exchanges}
use Rattle.rules.specs.Journal.{History}
use Rattle.rules.specs.Prices.{standing}
use Rattle.rules.specs.Verdicts.{neither, through}
use Rattle.rules.specs.Reasons.{had_sent}
use Rattle.rules.proofs.Tests.{by_test}
use Rattle.rows.specs.Rows.{Put}
use Rattle.quotes.specs.Tables.{many_series, RowIs, Within}
use Rattle.through.specs.Trades.{through_of}
use Rattle.excuses.specs.Excuses.{Chains, ExcuserIs}
use Rattle.excuses.proofs.Look.{had_sent_excuser}
use Rattle.trades.specs.Trades.{price_on, customers_on, excusing_side, excuser_at, snap, snap_words, ExcuseIs, Snapped, Snaps, Snapping}

-- ---- the excuse

module _ (orders : List ℕ) (sent side exchange series now : ℕ) where
  pub excuse_unasked : side ≡ 0 → ExcuseIs orders sent side exchange series now 0
  unfolding excuser_at
  excuse_unasked p = record { so = λ past held. rw (eq-eqb side 0 p) }

  module _ (w : ℕ) (found : Option ℕ) (is : ExcuserIs orders sent exchange series w now found) where
    pub excuser_small : (links : List ℕ) → Chains orders links sent → (n : ℕ) → found ≡ Some n → n + 1 < 4294967296
    excuser_small links c n e = let b : n + 1 ≤ sent = rw e at is.known in omega (arith, c.few)

    pub excuse_found : (side ≡ 0 → ⊥) → w ≡ excusing_side side → (n : ℕ) → found ≡ Some n → (r : ℕ) → r ≡ n + 1 → ExcuseIs orders sent side exchange series now r
    unfolding excuser_at
    excuse_found p ew n e r er =
        record { so = λ past held. er ∙ (rw e at (is.so past held)) ∙ rw (ne_eqb side 0 p, ew) }

    pub excuse_none : (side ≡ 0 → ⊥) → w ≡ excusing_side side → found ≡ None → ExcuseIs orders sent side exchange series now 0
    unfolding excuser_at
    excuse_none p ew e =
        record { so = λ past held. (rw e at (is.so past held)) ∙ rw (ne_eqb side 0 p, ew) }

-- reason 2 asks whether there is one
pub excuser_tells : (side exchange series now : ℕ) (past : History)
    → not (excuser_at side exchange series now past == 0) ≡ (if side == neither then false else had_sent exchange series (excusing_side side) now past)
unfolding excuser_at
excuser_tells side exchange series now past =
    by_test (side == neither) (λ p. rw p) (λ p. rw p (sym (had_sent_excuser exchange series (excusing_side side) now past)))

-- ---- one exchange

pub within_row : (y series : ℕ) → y < most_exchanges → series < many_series → Within (y + 1) series
within_row y series hy hs = record { from_one = omega arith; to_eight = omega arith; low = hs }

first_six : (a b c d e f : ℕ) (i : ℕ) → i < snap_words → get_or (a ∷ b ∷ c ∷ d ∷ e ∷ f ∷ 0 ∷ 0 ∷ []) i 0 ≡ get_or (a ∷ b ∷ c ∷ d ∷ e ∷ f ∷ []) i 0
first_six a b c d e f zero h = refl
first_six a b c d e f (suc zero) h = refl
first_six a b c d e f (suc (suc zero)) h = refl
first_six a b c d e f (suc (suc (suc zero))) h = refl
first_six a b c d e f (suc (suc (suc (suc zero)))) h = refl
first_six a b c d e f (suc (suc (suc (suc (suc zero))))) h = refl
first_six a b c d e f (suc (suc (suc (suc (suc (suc i)))))) h = let z : ⊥ = omega arith in elim z [ ]

pub exchange_kept : (quotes statuses orders : List ℕ) (sent y series price now k side p c ex u : ℕ) → y < most_exchanges → series < many_series → RowIs (y + 1) series k
    → side ≡ through_of (get_or quotes (k * 8 + 2) 0) (get_or quotes (k * 8 + 5) 0) price
    → p ≡ price_on side (get_or quotes (k * 8 + 2) 0) (get_or quotes (k * 8 + 5) 0)
    → c ≡ customers_on side (get_or quotes (k * 8 + 4) 0) (get_or quotes (k * 8 + 7) 0)
    → ExcuseIs orders sent side (y + 1) series now ex
    → u ≡ series
    → Snapped quotes statuses orders sent y series price now (side ∷ p ∷ c ∷ get_or statuses y 0 ∷ ex ∷ u ∷ 0 ∷ 0 ∷ [])
unfolding snap through through_of
exchange_kept quotes statuses orders sent y series price now k side p c ex u hy hs at es ep ec eex eu =
    let z : k ≡ y * many_series + series = at.is ∙ omega arith in
    record {
      is =
          λ past qs ss os i hi.
          let a : side ≡ through (standing (y + 1) series past) price = rw (← qs.bid y series hy hs, ← qs.offer y series hy hs, ← z) es in
          let row : (side ∷ p ∷ c ∷ get_or statuses y 0 ∷ ex ∷ u ∷ []) ≡ snap past y series price now =
          rw (ep, ec, eex.so past os, eu, z, qs.bid y series hy hs, qs.offer y series hy hs, qs.bid_customers y series hy hs, qs.offer_customers y series hy hs, ss.status y hy, a) in
          first_six side p c (get_or statuses y 0) ex u i hi ∙ ap (λ (l : List ℕ). get_or l i 0) row;
    }

-- ---- all of them

module _ (quotes statuses orders : List ℕ) (sent n series price now : ℕ) (before : List ℕ) (exchanges : ℕ) where
  pub none_kept : Snapping quotes statuses orders sent n series price now before before exchanges 0
  none_kept =
      record {
        snaps =
            record {
              here = λ past qs ss os y i hy hi. let z : ⊥ = omega arith in elim z [ ];
              others = λ m y i hy hi ne. refl;
              long = refl;
            };
        low = omega arith;
      }

  module _ (after : List ℕ) (y : ℕ) (k : Snapping quotes statuses orders sent n series price now before after exchanges y) where
    pub all_kept : exchanges ≤ y → Snaps quotes statuses orders sent n series price now before after exchanges
    all_kept h = let e : y ≡ exchanges = omega (arith, k.low) in rw e at k.snaps

    pub one_more_kept : y < exchanges → exchanges ≤ most_exchanges → (row next : List ℕ)
        → Snapped quotes statuses orders sent y series price now row → Put after next row (n * most_exchanges + y) 8
        → Snapping quotes statuses orders sent n series price now before next exchanges (y + 1)
    one_more_kept h few row next one p =
        let kept = k.snaps in
        record {
          snaps =
              record {
                here =
                    λ past qs ss os x i hx hi. by_test (eqb x y)
                    (λ z. rw (eqb-true x y z) (p.here i (omega arith) ∙ one.is past qs ss os i hi))
                    (λ z. let ne = eqb-false x y z in
                    p.others (n * most_exchanges + x) i (omega arith) (λ w. ne (omega arith)) ∙ kept.here past qs ss os x i (omega (arith, ne)) hi);
                others = λ m x i hx hi ne. p.others (m * most_exchanges + x) i hi (λ w. ne (omega arith)) ∙ kept.others m x i hx hi ne;
                long = p.long ∙ kept.long;
              };
          low = omega arith;
        }

pub ruleset snap_laws = (excuse_unasked, excuser_small, excuse_found, excuse_none, within_row, exchange_kept, none_kept, all_kept, one_more_kept)
