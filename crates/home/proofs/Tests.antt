-- What each test finds of the definition. No function's proof asks for these laws; the pages name them beside the sentences that they carry.
use mathlib.Core.Path.{◌≡◌, ◌∙◌, sym, ap}
use mathlib.Core.Bool.{Bool, true, false}
use mathlib.Core.List.{List}
use Prim.Native.Nat.{ℕ, ◌+◌, ◌<◌, ◌≤◌}
use lib.ListN.{get_or}
use borrow.Author.Tests.{eq-eqb, ne_eqb}
use Rattle.std.specs.Prelude.{Option, Some, None}
use Rattle.rules.specs.Basics.{first_of}
use Rattle.rules.specs.Limits.{most_exchanges}
use Rattle.rules.specs.Header.{Header}
use Rattle.rules.specs.Record.{Quote}
use Rattle.rules.specs.Journal.{History}
use Rattle.rules.specs.Prices.{away}
use Rattle.rules.specs.Verdicts.{verdict, crosses, locks, lowest_named, home_quote}
use Rattle.quotes.specs.Tables.{many_series, Quoted}
use Rattle.prices.specs.Prices.{above_of, equal_of, PlaceIs}
use Rattle.home.specs.Home.{SameQuote, side_of, side_at, against_as, found_as, FoundIs, AgainstIs}
use Rattle.home.specs.declared.HomeQuote.{HomeQuote}
use Rattle.home.specs.declared.Against.TheVariants.{Clear, Locked, Crossed}
use Rattle.home.proofs.HomeQuotes as walk
use Rattle.home.proofs.HomeQuotes.{Passed}

-- ---- the tests of one exchange

module _ (kind bid offer their_bid their_offer : ℕ) where
  module _ (two : kind ≡ 2) (t : Bool) (et : t ≡ above_of bid their_offer) where
    pub crossed_bid : t ≡ true → 1 ≡ side_of kind bid offer their_bid their_offer
    unfolding side_of first_of above_of
    crossed_bid z = rw (eq-eqb _ _ two, ← et, z)

    module _ (z : t ≡ false) (u : Bool) (eu : u ≡ above_of their_bid offer) where
      pub crossed_offer : u ≡ true → 2 ≡ side_of kind bid offer their_bid their_offer
      unfolding side_of first_of above_of
      crossed_offer y = rw (eq-eqb _ _ two, ← et, z, ← eu, y)

  module _ (one : kind ≡ 2 → ⊥) (t : Bool) (et : t ≡ equal_of bid their_offer) where
    pub locked_bid : t ≡ true → 1 ≡ side_of kind bid offer their_bid their_offer
    unfolding side_of first_of equal_of
    locked_bid z = rw (ne_eqb _ _ one, ← et, z)

    module _ (z : t ≡ false) (u : Bool) (eu : u ≡ equal_of offer their_bid) where
      pub locked_offer : u ≡ true → 2 ≡ side_of kind bid offer their_bid their_offer
      unfolding side_of first_of equal_of
      locked_offer y = rw (ne_eqb _ _ one, ← et, z, ← eu, y)

-- ---- the first exchange that is named

module _ (quotes : List ℕ) (exchanges home kind : ℕ) (quote : HomeQuote) (y : ℕ) (a : Passed quotes exchanges home kind quote y) (l : y < exchanges)
    (pre : (exchanges ≤ most_exchanges) × (quote.series < many_series)) (ne : y + 1 ≡ home → ⊥) (k : ℕ) (p : PlaceIs y quote.series k)
    (side : ℕ) (es : side ≡ side_of kind quote.bid quote.offer (get_or quotes (k + 2) 0) (get_or quotes (k + 5) 0)) where
  pub passed_named : (side ≡ 0 → ⊥) → FoundIs quotes exchanges home kind quote (Some (y + 1, side))
  passed_named e = walk.passed_named quotes exchanges home kind quote y a l pre.0 pre.1 ne k p side es e

-- ---- the verdict

-- the paper's verdict, as two searches over the code's quote
quote_is : (h : Header) (past : History) (quote : HomeQuote) (k : Quote) → SameQuote quote k
    → home_quote h past k ≡ lowest_named 2 (side_at 2 quote past) (away h) (lowest_named 1 (side_at 1 quote past) (away h) (verdict 0 0 0))
unfolding home_quote crosses locks side_at side_of
quote_is h past quote k same = simp (same.series, same.bid, same.offer)

module _ (quotes : List ℕ) (exchanges home : ℕ) (quote : HomeQuote) (r : Option (ℕ × ℕ)) (er : FoundIs quotes exchanges home 2 quote r) where
  pub quote_crossed : (exchange side : ℕ) → r ≡ Some (exchange, side) → AgainstIs quotes exchanges home quote (Crossed exchange side)
  unfolding against_as found_as
  quote_crossed exchange side g =
      record { so = λ h past k en eh same held. ap (found_as 2 _) (sym g) ∙ er.so h past _ en eh held ∙ sym (quote_is h past quote k same) }

  module _ (g : r ≡ None) (r2 : Option (ℕ × ℕ)) (er2 : FoundIs quotes exchanges home 1 quote r2) where
    -- nothing crossed: the verdict is that of the second search
    second : (h : Header) (past : History) (k : Quote) → h.exchanges ≡ exchanges → h.home ≡ home → SameQuote quote k → Quoted past quotes
        → found_as 1 (verdict 0 0 0) r2 ≡ home_quote h past k
    unfolding found_as
    second h past k en eh same held =
        er2.so h past (verdict 0 0 0) en eh held ∙ ap (found_as 2 _) (sym g) ∙ er.so h past _ en eh held ∙ sym (quote_is h past quote k same)

    pub quote_locked : (exchange side : ℕ) → r2 ≡ Some (exchange, side) → AgainstIs quotes exchanges home quote (Locked exchange side)
    unfolding against_as found_as
    quote_locked exchange side g2 =
        record { so = λ h past k en eh same held. ap (found_as 1 (verdict 0 0 0)) (sym g2) ∙ second h past k en eh same held }

    pub quote_clear : r2 ≡ None → AgainstIs quotes exchanges home quote Clear
    unfolding against_as found_as
    quote_clear g2 =
        record { so = λ h past k en eh same held. ap (found_as 1 (verdict 0 0 0)) (sym g2) ∙ second h past k en eh same held }
