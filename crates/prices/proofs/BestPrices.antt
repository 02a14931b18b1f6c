-- Prices against each other, the best prices out of the table of quotes, and lists of exchanges that grow at the end.
use mathlib.Core.Path.{◌≡◌, refl, ◌∙◌, ap, sym}
use mathlib.Core.Bool.{Bool, false, not}
use mathlib.Core.List.{List, [], ◌∷◌, ◌++◌, map}
use Prim.Native.Nat.{ℕ, zero, suc, ◌+◌, ◌*◌, ◌<◌, ◌≤◌, max}
use native.Mathlib.Omega.{arith}
use native.Mathlib.Nat.{suc-min-suc}
use native.Mathlib.Numerals.{add-one}
use lib.Dec.{eqb}
use lib.ListN.{get_or}
use borrow.Author.Tests.{ne_eqb}
use Rattle.std.specs.Prelude.{◌==◌}
use Rattle.std.specs.List.{FoldsTo}
use Rattle.std.proofs.lemmas.Fn.{FoldsTo-push, chained_keeps}
use Rattle.rules.specs.Limits.{most_exchanges}
use Rattle.rules.specs.Record.{Quote}
use Rattle.rules.specs.Journal.{History}
use Rattle.rules.specs.Prices.{standing, up_to, everyone, highest, lowest, best_bid, best_offer}
use Rattle.quotes.specs.Tables.{many_series, Quoted}
use Rattle.prices.specs.Prices.{lower_of, words_of, BestOf, bid_of, offer_of, PlaceIs, BidIs, OfferIs}

-- ---- one more price at the end of a list

map_more : (f : ℕ → ℕ) (xs : List ℕ) (x : ℕ) → map f (xs ++ (x ∷ [])) ≡ map f xs ++ (f x ∷ [])
map_more f [] x = refl
map_more f (y ∷ xs) x = rw (map_more f xs x)

highest_more : (xs : List ℕ) (x : ℕ) → highest (xs ++ (x ∷ [])) ≡ max (highest xs) x
unfolding highest
highest_more [] x = omega arith
highest_more (y ∷ xs) x = rw (highest_more xs x) (omega arith)

some : (a : ℕ) → eqb (suc a) 0 ≡ false
some a = ne_eqb (suc a) 0 (omega arith)

lower_assoc : (a b c : ℕ) → lower_of a (lower_of b c) ≡ lower_of (lower_of a b) c
unfolding lower_of
lower_assoc zero b c = refl
lower_assoc (suc a) zero c = simp some
lower_assoc (suc a) (suc b) zero = simp (some, suc-min-suc)
lower_assoc (suc a) (suc b) (suc c) = simp (some, suc-min-suc) (omega arith)

lower_none : (a : ℕ) → lower_of a 0 ≡ lower_of 0 a
unfolding lower_of
lower_none zero = refl
lower_none (suc a) = simp some

lowest_more : (xs : List ℕ) (x : ℕ) → lowest (xs ++ (x ∷ [])) ≡ lower_of (lowest xs) x
unfolding lowest lower_of
lowest_more [] x = lower_none x
lowest_more (y ∷ xs) x = ap (lower_of y) (lowest_more xs x) ∙ lower_assoc y (lowest xs) x

-- ---- the away exchanges, one more at the end

abbrev pub others : ℕ → ℕ → Bool
others home exchange = not (exchange == home)

-- ---- the best of all: one number more, and the numbers as those of the standing quotes

module _ (R : ℕ → ℕ → ℕ → Type 0) (quotes : List ℕ) (series w y a : ℕ) (so_far : BestOf R quotes series w y a) where
  pub best_more : (k : ℕ) → PlaceIs y series k → (b : ℕ) → R a (get_or quotes (k + w) 0) b → BestOf R quotes series w (y + 1) b
  best_more k p b r =
      record { folds = rw (add-one y) (FoldsTo-push R 0 (words_of quotes series w y) a _ b so_far.folds (rw (← p.is) r)) }

  pub best_all : (n : ℕ) → n ≤ y → y ≤ n → BestOf R quotes series w n a
  best_all n l m = let e : n ≡ y = omega arith in rw e so_far

-- word w of an exchange's row is the number `of` of its standing quote
abbrev pub Shows : ℕ → (Quote → ℕ) → List ℕ → Type 0
Shows w of quotes =
    (past : History) → Quoted past quotes → (y series k : ℕ) → y < most_exchanges → series < many_series → PlaceIs y series k → get_or quotes (k + w) 0 ≡ of (standing (suc y) series past)

pub bid_shown : (quotes : List ℕ) → Shows 2 bid_of quotes
unfolding bid_of
bid_shown quotes past held y series k hy hs p = rw (p.is, ← add-one y) (held.bid y series hy hs)

pub offer_shown : (quotes : List ℕ) → Shows 5 offer_of quotes
unfolding offer_of
offer_shown quotes past held y series k hy hs p = rw (p.is, ← add-one y) (held.offer y series hy hs)

module _ (w : ℕ) (of : Quote → ℕ) (quotes : List ℕ) (shows : Shows w of quotes) (past : History) (held : Quoted past quotes) (series : ℕ) (low : series < many_series) where
  words_are : (n : ℕ) → n ≤ most_exchanges → words_of quotes series w n ≡ map (λ exchange. of (standing exchange series past)) (up_to n)
  unfolding up_to
  words_are zero few = refl
  words_are (suc n) few =
      let here = shows past held n series ((n * many_series + series) * 8) (omega arith) low (record { is = refl; small = omega arith }) in
      rw (words_are n (omega arith), here) (sym (map_more (λ exchange. of (standing exchange series past)) (up_to n) (suc n)))

-- ---- the best b of the first y exchanges, and of all

pub record Best (g : List ℕ → ℕ) (of : Quote → ℕ) (quotes : List ℕ) (exchanges series y b : ℕ) : Type 0 where
  pub few : y ≤ exchanges
  pub so : (past : History) → Quoted past quotes → b ≡ g (map (λ exchange. of (standing exchange series past)) (up_to y))

module _ (R : ℕ → ℕ → ℕ → Type 0) (g : List ℕ → ℕ) (op : ℕ → ℕ → ℕ) (more : (xs : List ℕ) (x : ℕ) → g (xs ++ (x ∷ [])) ≡ op (g xs) x) (none : 0 ≡ g [])
    (gives : (a x b : ℕ) → R a x b → b ≡ op a x) where
  best_of : (xs : List ℕ) (b : ℕ) → FoldsTo R 0 xs b → b ≡ g xs
  best_of xs b f = chained_keeps R (λ ys a. a ≡ g ys) (λ ys a x c e r. gives a x c r ∙ rw e (sym (more ys x))) xs 0 b none f

  best_so_far : (w : ℕ) (of : Quote → ℕ) (quotes : List ℕ) → Shows w of quotes → (exchanges series : ℕ) → exchanges ≤ most_exchanges → series < many_series
      → (y b : ℕ) → y ≤ exchanges → BestOf R quotes series w y b → Best g of quotes exchanges series y b
  best_so_far w of quotes shows exchanges series few low y b l f =
      record { few = l; so = λ past held. rw (← words_are w of quotes shows past held series low y (omega arith)) (best_of _ b f.folds) }

module _ (quotes : List ℕ) (exchanges series : ℕ) where
  module _ (y b : ℕ) where
    pub bid_all : Best highest bid_of quotes exchanges series y b → exchanges ≤ y → BidIs quotes exchanges series b
    unfolding best_bid everyone bid_of
    bid_all r l = record { so = λ h past en held. let k : h.exchanges ≡ y = omega (arith, r.few) in rw k (r.so past held) }

    pub offer_all : Best lowest offer_of quotes exchanges series y b → exchanges ≤ y → OfferIs quotes exchanges series b
    unfolding best_offer everyone offer_of
    offer_all r l = record { so = λ h past en held. let k : h.exchanges ≡ y = omega (arith, r.few) in rw k (r.so past held) }

module _ (R : ℕ → ℕ → ℕ → Type 0) (quotes : List ℕ) (exchanges series r : ℕ) (few : exchanges ≤ most_exchanges) (low : series < many_series) where
  pub bid_found : BestOf R quotes series 2 exchanges r → ((a x b : ℕ) → R a x b → b ≡ max a x) → BidIs quotes exchanges series r
  unfolding highest
  bid_found f gives =
      bid_all quotes exchanges series exchanges r
      (best_so_far R highest max highest_more refl gives 2 bid_of quotes (bid_shown quotes) exchanges series few low exchanges r (omega arith) f) (omega arith)

  pub offer_found : BestOf R quotes series 5 exchanges r → ((a x b : ℕ) → R a x b → b ≡ lower_of a x) → OfferIs quotes exchanges series r
  unfolding lowest
  offer_found f gives =
      offer_all quotes exchanges series exchanges r
      (best_so_far R lowest lower_of lowest_more refl gives 5 offer_of quotes (offer_shown quotes) exchanges series few low exchanges r (omega arith) f) (omega arith)

pub ruleset price_laws = (bid_found, offer_found)
