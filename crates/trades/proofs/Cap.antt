-- The cap: the exchanges looked at one by one are the exchanges traded through of the definition.
use mathlib.Core.Path.{◌≡◌, refl, sym, ap, ◌∙◌}
use mathlib.Core.Bool.{Bool, true, false, not, ◌&&◌, ◌||◌, or-false, or-true}
use mathlib.Core.List.{List, [], ◌∷◌, ◌++◌}
use Prim.Native.Nat.{ℕ, zero, suc, ◌+◌, ◌-◌, ◌*◌, ◌<◌, ◌≤◌}
use native.Mathlib.Omega.{arith}
use native.Mathlib.Numerals.{add-one}
use lib.ListN.{get_or}
use lib.Seq.{get_or-take}
use Rattle.std.specs.Prelude.{◌==◌}
use Rattle.rules.specs.Basics.{◌more_than◌, any, keep}
use Rattle.rules.specs.Limits.{most_exchanges}
use Rattle.rules.specs.Header.{Header, automatic}
use Rattle.rules.specs.Record.{Trade}
use Rattle.rules.specs.Journal.{History}
use Rattle.rules.specs.Prices.{up_to, everyone, away}
use Rattle.rules.specs.Verdicts.{neither, side_through, throughs}
use Rattle.rules.specs.Due.{customer_firm_size, capped}
use Rattle.rules.proofs.Tests.{by_test, any_append, keep_append}
use Rattle.orders.specs.Orders.{Headed, Heads}
use Rattle.trades.specs.Trades.{capped_to, caps, SidesAre, CapIs, NoCap}

-- ---- one more at the end

module _ (f g k : ℕ → Bool) where
  any_kept_one : (x : ℕ) → any f (keep g (keep k (x ∷ []))) ≡ (k x && g x && f x)
  unfolding any keep
  any_kept_one x = by_test (k x) (λ p. by_test (g x) (λ q. rw (p, q) (or-false (f x))) (λ q. rw (p, q))) (λ p. rw p)

  any_kept_more : (l : List ℕ) (x : ℕ) → any f (keep g (keep k (l ++ (x ∷ [])))) ≡ (any f (keep g (keep k l)) || (k x && g x && f x))
  any_kept_more l x =
      rw (keep_append k l (x ∷ []), keep_append g (keep k l) (keep k (x ∷ [])), any_append f (keep g (keep k l)) (keep g (keep k (x ∷ []))), any_kept_one x)

-- ---- the header's sizes

size_at : (h : Header) (home exchanges : ℕ) (sizes : List ℕ) (exchange i : ℕ) → Heads h exchanges home sizes → 1 ≤ exchange → exchange ≤ exchanges
    → i ≡ (exchange - 1) * 2 → automatic h exchange ≡ get_or sizes i 0
unfolding automatic
size_at h home exchanges sizes exchange i is low high e =
    rw is.sizes (get_or-take (2 * exchanges) sizes (2 * (exchange - 1)) 0 (omega arith) ∙ ap (λ (j : ℕ). get_or sizes j 0) (omega arith))

module _ (h : Header) (before : History) (t : Trade) where
  pub cap_is : capped h before t ≡ capped_to h before t h.exchanges
  unfolding capped capped_to throughs away everyone
  cap_is = refl

  cap_more : (i : ℕ) → capped_to h before t (i + 1)
      ≡ (capped_to h before t i || (not (i + 1 == h.home) && not (side_through before t (i + 1) == neither) && t.size more_than customer_firm_size h (i + 1)))
  unfolding capped_to up_to
  cap_more i = rw (add-one i) (any_kept_more _ _ _ (up_to i) (suc i))

  cap_grows : (i k : ℕ) → capped_to h before t i ≡ true → capped_to h before t (i + k) ≡ true
  cap_grows i zero p = rw (let z : i + 0 ≡ i = omega arith in z) p
  cap_grows i (suc k) p =
      let z : i + suc k ≡ i + k + 1 = omega arith in
      rw (z, cap_more (i + k), cap_grows i k p)

module _ (shown : List ℕ) (n home exchanges : ℕ) (sizes : List ℕ) (size : ℕ) (ok : Headed exchanges home) where
  pub no_cap_yet : NoCap shown n home exchanges sizes size 0
  unfolding capped_to up_to keep any
  no_cap_yet = record { so = λ h before t is sides es. refl; low = omega arith }

  module _ (i : ℕ) (none : NoCap shown n home exchanges sizes size i) where
    pub no_cap : exchanges ≤ i → CapIs shown n home exchanges sizes size false
    no_cap g =
        record {
          so =
              λ h before t is sides es.
              let z : h.exchanges ≡ i = is.exchanges ∙ omega (arith, none.low) in
              sym (cap_is h before t ∙ ap (capped_to h before t) z ∙ none.so h before t is sides es);
        }

    module _ (lt : i < exchanges) (b : Bool)
        (eb : b ≡ caps (i + 1) home (get_or shown ((n * most_exchanges + i) * 8 + 0) 0) size (get_or sizes ((home - 1) * 2) 0) (get_or sizes (i * 2) 0)) where
      cap_step : (h : Header) (before : History) (t : Trade) → Heads h exchanges home sizes → SidesAre h before t shown n
          → t.size ≡ size → capped_to h before t (i + 1) ≡ (capped_to h before t i || b)
      unfolding customer_firm_size caps
      cap_step h before t is sides es =
          cap_more h before t i
          ∙ rw (
            size_at h home exchanges sizes (i + 1) (i * 2) is (omega arith) (omega arith) (omega arith),
            ap (automatic h) is.home,
            size_at h home exchanges sizes home ((home - 1) * 2) is ok.from_one ok.to_n refl,
            ← sides.side i (let z = is.exchanges in omega arith),
            is.home,
            es,
            ← eb,
          )

      pub no_cap_more : b ≡ false → NoCap shown n home exchanges sizes size (i + 1)
      no_cap_more p =
          record {
            so = λ h before t is sides es. cap_step h before t is sides es ∙ rw (p, none.so h before t is sides es);
            low = omega arith;
          }

      pub cap_found : b ≡ true → CapIs shown n home exchanges sizes size true
      cap_found p =
          record {
            so =
                λ h before t is sides es.
                let here : capped_to h before t (i + 1) ≡ true = cap_step h before t is sides es ∙ rw p (or-true (capped_to h before t i)) in
                let z : h.exchanges ≡ i + 1 + (exchanges - (i + 1)) = is.exchanges ∙ omega arith in
                sym (cap_is h before t ∙ ap (capped_to h before t) z ∙ cap_grows h before t (i + 1) (exchanges - (i + 1)) here);
          }

pub ruleset cap_laws = (no_cap_yet, no_cap, no_cap_more, cap_found)
