-- A walk over the away exchanges: the first that home's quote crosses, or locks.
use mathlib.Core.Path.{◌≡◌, refl, ◌∙◌, sym, ap, subst}
use mathlib.Core.Bool.{Bool, true, false, not, and-false}
use mathlib.Core.List.{List, [], ◌∷◌, ◌++◌}
use Prim.Native.Nat.{ℕ, zero, suc, ◌+◌, ◌<◌, ◌≤◌}
use native.Mathlib.Omega.{arith}
use native.Mathlib.Numerals.{add-one}
use lib.Dec.{eqb}
use lib.ListN.{get_or}
use borrow.Author.Tests.{eqb-true, eqb-false, eq-eqb, ne_eqb}
use Rattle.std.specs.Prelude.{Option, Some, None, if◌then◌else◌}
use Rattle.rules.specs.Basics.{◌when◌, ◌¦◌, first_of, keep}
use Rattle.rules.specs.Limits.{most_exchanges}
use Rattle.rules.specs.Header.{Header}
use Rattle.rules.specs.Record.{Quote}
use Rattle.rules.specs.Journal.{History}
use Rattle.rules.specs.Prices.{up_to, everyone, away}
use Rattle.rules.specs.Verdicts.{Verdict, verdict, the_bid, the_offer, crosses, locks, lowest_named, home_quote}
use Rattle.rules.proofs.Tests.{by_test, keep_more}
use Rattle.quotes.specs.Tables.{many_series, Quoted}
use Rattle.prices.specs.Prices.{above_of, equal_of, bid_of, offer_of, PlaceIs}
use Rattle.home.specs.Home.{test_of, Tests, SameQuote, side_of, side_at, against_as, found_as, FoundIs, AgainstIs}
use Rattle.home.specs.declared.HomeQuote.{HomeQuote}
use Rattle.home.specs.declared.Against.TheVariants.{Clear, Locked, Crossed}
use Rattle.prices.proofs.BestPrices.{others, bid_shown, offer_shown}

-- ---- the tests of one exchange

equal_swap : (a b : ℕ) → equal_of a b ≡ equal_of b a
unfolding equal_of
equal_swap a b =
    by_test (eqb a b)
    (λ e. let same = eqb-true a b e in rw same)
    (λ e. let off = eqb-false a b e in rw (e, ne_eqb b a (λ z. off (sym z)), and-false (not (eqb a 0)), and-false (not (eqb b 0))))

-- the side named is that of the first test that holds, the bid's or else the offer's
module _ (kind bid offer their_bid their_offer : ℕ) where
  side_of_tests : side_of kind bid offer their_bid their_offer
      ≡ first_of (the_bid when test_of kind bid their_offer ¦ the_offer when test_of kind their_bid offer ¦ [])
  unfolding side_of test_of above_of equal_of
  side_of_tests =
      by_test (eqb kind 2)
      (λ z. rw z)
      (λ z. rw z (ap (λ (b : Bool). first_of (the_bid when equal_of bid their_offer ¦ the_offer when b ¦ [])) (equal_swap offer their_bid)))

  side_bid : test_of kind bid their_offer ≡ true → 1 ≡ side_of kind bid offer their_bid their_offer
  unfolding first_of
  side_bid e = rw (side_of_tests, e)

  module _ (nb : test_of kind bid their_offer ≡ false) where
    side_offer : test_of kind their_bid offer ≡ true → 2 ≡ side_of kind bid offer their_bid their_offer
    unfolding first_of
    side_offer e = rw (side_of_tests, nb, e)

    side_neither : test_of kind their_bid offer ≡ false → 0 ≡ side_of kind bid offer their_bid their_offer
    unfolding first_of
    side_neither e = rw (side_of_tests, nb, e)

-- ---- away exchanges, one more at a time

named_append : (k : ℕ) (f : ℕ → ℕ) (xs ys : List ℕ) (w : Verdict) → lowest_named k f (xs ++ ys) w ≡ lowest_named k f xs (lowest_named k f ys w)
unfolding lowest_named
named_append k f [] ys w = refl
named_append k f (x ∷ xs) ys w = rw (named_append k f xs ys w)

module _ (k : ℕ) (f : ℕ → ℕ) (home : ℕ) where
  -- the search among the away exchanges up to y
  abbrev upto : ℕ → Verdict → Verdict
  upto y w = lowest_named k f (keep (others home) (up_to y)) w

  upto_more : (y : ℕ) (w : Verdict) → upto (suc y) w ≡ upto y (lowest_named k f (if others home (suc y) then suc y ∷ [] else []) w)
  unfolding up_to
  upto_more y w =
      ap (λ l. lowest_named k f l w) (keep_more (others home) (up_to y) (suc y)) ∙ named_append k f (keep (others home) (up_to y)) _ w

  -- once it no longer depends on what stands instead, more exchanges change nothing
  upto_settled : (v : Verdict) (n j : ℕ) → j ≤ n → ((w : Verdict) → upto j w ≡ v) → (w : Verdict) → upto n w ≡ v
  upto_settled v zero j l e w = let z : j ≡ 0 = omega arith in subst (λ m. upto m w ≡ v) z (e w)
  upto_settled v (suc n) j l e w =
      by_test (eqb j (suc n)) (λ y. subst (λ m. upto m w ≡ v) (eqb-true _ _ y) (e w))
      (λ q. let d = eqb-false j (suc n) q in let m : j ≤ n = omega arith in upto_more n w ∙ upto_settled v n j m e _)

-- ---- the loop: no exchange up to y is named

pub record Passed (quotes : List ℕ) (exchanges home kind : ℕ) (quote : HomeQuote) (y : ℕ) : Type 0 where
  pub few : y ≤ exchanges
  pub so : (past : History) (w : Verdict) → Quoted past quotes → lowest_named kind (side_at kind quote past) (keep (others home) (up_to y)) w ≡ w

module _ (quotes : List ℕ) (exchanges home kind : ℕ) (quote : HomeQuote) where
  pub passed_none : Passed quotes exchanges home kind quote 0
  unfolding up_to keep lowest_named
  passed_none = record { few = omega arith; so = λ past w held. refl }

  module _ (y : ℕ) (a : Passed quotes exchanges home kind quote y) where
    pub passed_all : exchanges ≤ y → FoundIs quotes exchanges home kind quote None
    unfolding found_as away everyone
    passed_all l =
        record {
          so = λ h past w en eh held. let z : h.exchanges ≡ y = omega (arith, a.few) in rw (z, eh) (sym (a.so past w held));
        }

    module _ (l : y < exchanges) where
      pub passed_home : y + 1 ≡ home → Passed quotes exchanges home kind quote (y + 1)
      unfolding lowest_named
      passed_home e =
          record {
            few = omega arith;
            so = λ past w held. let z : suc y ≡ home = omega arith in
                rw (add-one y) (upto_more kind (side_at kind quote past) home y w ∙ rw (eq-eqb _ _ z) (a.so past w held));
          }

      module _ (few : exchanges ≤ most_exchanges) (low : quote.series < many_series) (ne : y + 1 ≡ home → ⊥) (k : ℕ) (p : PlaceIs y quote.series k)
          (side : ℕ) (es : side ≡ side_of kind quote.bid quote.offer (get_or quotes (k + 2) 0) (get_or quotes (k + 5) 0)) where
        side_is : (past : History) → Quoted past quotes → side ≡ side_at kind quote past (suc y)
        unfolding side_at bid_of offer_of
        side_is past held =
            rw (← bid_shown quotes past held y quote.series k (omega arith) low p, ← offer_shown quotes past held y quote.series k (omega arith) low p) es

        far : suc y ≡ home → ⊥
        far = omega arith

        pub passed_clear : side ≡ 0 → Passed quotes exchanges home kind quote (y + 1)
        unfolding lowest_named
        passed_clear e =
            record {
              few = omega arith;
              so = λ past w held.
                  rw (add-one y) (upto_more kind (side_at kind quote past) home y w ∙ rw (ne_eqb _ _ far, ← side_is past held, eq-eqb _ _ e) (a.so past w held));
            }

        pub passed_named : (side ≡ 0 → ⊥) → FoundIs quotes exchanges home kind quote (Some (y + 1, side))
        unfolding found_as away everyone lowest_named
        passed_named e =
            record {
              so = λ h past w en eh held.
                  let hit : (w : Verdict) → upto kind (side_at kind quote past) home (suc y) w ≡ verdict kind (suc y) side =
                  λ w. upto_more kind (side_at kind quote past) home y w ∙ rw (ne_eqb _ _ far, ← side_is past held, ne_eqb _ _ e) (a.so past _ held) in
                  rw (eh, en, add-one y) (sym (upto_settled kind (side_at kind quote past) home _ exchanges (suc y) (omega arith) hit w));
            }

-- an away exchange by the code's two tests
module _ (quotes : List ℕ) (exchanges home kind : ℕ) (quote : HomeQuote) (y : ℕ) (a : Passed quotes exchanges home kind quote y) (l : y < exchanges)
    (few : exchanges ≤ most_exchanges) (low : quote.series < many_series) (ne : y + 1 ≡ home → ⊥) (k : ℕ) (p : PlaceIs y quote.series k) where
  module _ (R : ℕ → ℕ → Bool → Type 0) (t : Tests R kind) (b : Bool) (eb : R quote.bid (get_or quotes (k + 5) 0) b) where
    pub named_bid : b ≡ true → (named : ℕ) → named ≡ y + 1 → FoundIs quotes exchanges home kind quote (Some (named, 1))
    named_bid e named is =
        rw is
        (passed_named quotes exchanges home kind quote y a l few low ne k p 1
        (side_bid kind quote.bid quote.offer (get_or quotes (k + 2) 0) (get_or quotes (k + 5) 0) (sym (t.so _ _ b eb) ∙ e)) (λ z. omega arith))

    module _ (nb : b ≡ false) (c : Bool) (ec : R (get_or quotes (k + 2) 0) quote.offer c) where
      pub named_offer : c ≡ true → (named : ℕ) → named ≡ y + 1 → FoundIs quotes exchanges home kind quote (Some (named, 2))
      named_offer e named is =
          rw is
          (passed_named quotes exchanges home kind quote y a l few low ne k p 2
          (side_offer kind quote.bid quote.offer (get_or quotes (k + 2) 0) (get_or quotes (k + 5) 0) (sym (t.so _ _ b eb) ∙ nb) (sym (t.so _ _ c ec) ∙ e))
          (λ z. omega arith))

      pub passed_neither : c ≡ false → Passed quotes exchanges home kind quote (y + 1)
      passed_neither e =
          passed_clear quotes exchanges home kind quote y a l few low ne k p 0
          (side_neither kind quote.bid quote.offer (get_or quotes (k + 2) 0) (get_or quotes (k + 5) 0) (sym (t.so _ _ b eb) ∙ nb) (sym (t.so _ _ c ec) ∙ e))
          refl

-- ---- the verdict

-- the paper's verdict, as two searches over the code's quote
quote_is : (h : Header) (past : History) (quote : HomeQuote) (k : Quote) → SameQuote quote k
    → home_quote h past k ≡ lowest_named 2 (side_at 2 quote past) (away h) (lowest_named 1 (side_at 1 quote past) (away h) (verdict 0 0 0))
unfolding home_quote crosses locks side_at side_of
quote_is h past quote k same = simp (same.series, same.bid, same.offer)

above_tests : (R : ℕ → ℕ → Bool → Type 0) → ((a b : ℕ) (t : Bool) → R a b t → t ≡ above_of a b) → Tests R 2
unfolding test_of
above_tests R gives = record { so = gives }

equal_tests : (R : ℕ → ℕ → Bool → Type 0) → ((a b : ℕ) (t : Bool) → R a b t → t ≡ equal_of a b) → Tests R 1
unfolding test_of
equal_tests R gives = record { so = gives }

module _ (quotes : List ℕ) (exchanges home : ℕ) (quote : HomeQuote) (r : Option (ℕ × ℕ)) (R : ℕ → ℕ → Bool → Type 0)
    (er : (kind : ℕ) → Tests R kind → FoundIs quotes exchanges home kind quote r) (above : (a b : ℕ) (t : Bool) → R a b t → t ≡ above_of a b) where
  crossing : FoundIs quotes exchanges home 2 quote r
  crossing = er 2 (above_tests R above)

  pub quote_crossed : (at : ℕ × ℕ) → r ≡ Some at → AgainstIs quotes exchanges home quote (Crossed at.0 at.1)
  unfolding against_as found_as
  quote_crossed at g =
      record { so = λ h past k en eh same held. ap (found_as 2 _) (sym g) ∙ crossing.so h past _ en eh held ∙ sym (quote_is h past quote k same) }

  module _ (g : r ≡ None) (r2 : Option (ℕ × ℕ)) (R2 : ℕ → ℕ → Bool → Type 0) (er2 : (kind : ℕ) → Tests R2 kind → FoundIs quotes exchanges home kind quote r2)
      (equal : (a b : ℕ) (t : Bool) → R2 a b t → t ≡ equal_of a b) where
    locking : FoundIs quotes exchanges home 1 quote r2
    locking = er2 1 (equal_tests R2 equal)

    -- nothing crossed: the verdict is that of the second search
    second : (h : Header) (past : History) (k : Quote) → h.exchanges ≡ exchanges → h.home ≡ home → SameQuote quote k → Quoted past quotes
        → found_as 1 (verdict 0 0 0) r2 ≡ home_quote h past k
    unfolding found_as
    second h past k en eh same held =
        locking.so h past (verdict 0 0 0) en eh held ∙ ap (found_as 2 _) (sym g) ∙ crossing.so h past _ en eh held ∙ sym (quote_is h past quote k same)

    pub quote_locked : (at : ℕ × ℕ) → r2 ≡ Some at → AgainstIs quotes exchanges home quote (Locked at.0 at.1)
    unfolding against_as found_as
    quote_locked at g2 =
        record { so = λ h past k en eh same held. ap (found_as 1 (verdict 0 0 0)) (sym g2) ∙ second h past k en eh same held }

    pub quote_clear : r2 ≡ None → AgainstIs quotes exchanges home quote Clear
    unfolding against_as found_as
    quote_clear g2 =
        record { so = λ h past k en eh same held. ap (found_as 1 (verdict 0 0 0)) (sym g2) ∙ second h past k en eh same held }
