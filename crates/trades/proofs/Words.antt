-- The tests of the code on single words, one law for each way out.
use mathlib.Core.Path.{◌≡◌}
use mathlib.Core.Bool.{false, not, and-false}
use Prim.Native.Nat.{ℕ, min}
use lib.Dec.{eqb, ltb}
use borrow.Author.Tests.{eq-eqb, ne_eqb}
use Rattle.trades.specs.Trades.{price_on, customers_on, excusing_side, caps}

module _ (side a b : ℕ) where
  pub price_of_bid : side ≡ 1 → a ≡ price_on side a b
  unfolding price_on
  price_of_bid p = rw (eq-eqb side 1 p)

  pub price_of_offer : (side ≡ 1 → ⊥) → b ≡ price_on side a b
  unfolding price_on
  price_of_offer p = rw (ne_eqb side 1 p)

  pub customers_of_neither : side ≡ 0 → 0 ≡ customers_on side a b
  unfolding customers_on
  customers_of_neither p = rw (eq-eqb side 0 p)

  pub customers_of_bid : (side ≡ 0 → ⊥) → side ≡ 1 → a ≡ customers_on side a b
  unfolding customers_on
  customers_of_bid z p = rw (ne_eqb side 0 z, eq-eqb side 1 p)

  pub customers_of_offer : (side ≡ 0 → ⊥) → (side ≡ 1 → ⊥) → b ≡ customers_on side a b
  unfolding customers_on
  customers_of_offer z p = rw (ne_eqb side 0 z, ne_eqb side 1 p)

pub sell_for_bid : (side : ℕ) → side ≡ 1 → 2 ≡ excusing_side side
unfolding excusing_side
sell_for_bid side p = rw (eq-eqb side 1 p)

pub buy_for_offer : (side : ℕ) → (side ≡ 1 → ⊥) → 1 ≡ excusing_side side
unfolding excusing_side
buy_for_offer side p = rw (ne_eqb side 1 p)

module _ (exchange home side size ours theirs : ℕ) where
  pub home_caps_not : exchange ≡ home → false ≡ caps exchange home side size ours theirs
  unfolding caps
  home_caps_not p = rw (eq-eqb exchange home p)

  pub not_through_caps_not : side ≡ 0 → false ≡ caps exchange home side size ours theirs
  unfolding caps
  not_through_caps_not p = rw (eq-eqb side 0 p, and-false (not (eqb exchange home)))

  pub larger_caps : (exchange ≡ home → ⊥) → (side ≡ 0 → ⊥) → (l : ℕ) → l ≡ min ours theirs → ltb l size ≡ caps exchange home side size ours theirs
  unfolding caps
  larger_caps p q l e = rw (ne_eqb exchange home p, ne_eqb side 0 q, e)

pub ruleset word_laws = (price_of_bid, price_of_offer, customers_of_neither, customers_of_bid, customers_of_offer, sell_for_bid, buy_for_offer, home_caps_not, not_through_caps_not, larger_caps)
