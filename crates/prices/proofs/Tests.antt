-- What each test finds of the definition. No function's proof asks for these laws; the pages name them beside the sentences that they carry.
use mathlib.Core.Path.{◌≡◌}
use mathlib.Core.Bool.{false, not, and-false}
use Prim.Native.Nat.{ℕ}
use lib.Dec.{eqb}
use borrow.Author.Tests.{eq-eqb, ne_eqb}
use Rattle.prices.specs.Prices.{above_of, equal_of, lower_of}

-- ---- a price 0 is absent

pub above_absent : (a b : ℕ) → b ≡ 0 → false ≡ above_of a b
unfolding above_of
above_absent a b e = rw (eq-eqb b 0 e, and-false (not (eqb a 0)))

pub equal_absent : (a b : ℕ) → a ≡ 0 → false ≡ equal_of a b
unfolding equal_of
equal_absent a b e = rw (eq-eqb a 0 e)

pub lower_first : (a b : ℕ) → a ≡ 0 → b ≡ lower_of a b
unfolding lower_of
lower_first a b e = rw (eq-eqb _ _ e)

pub lower_second : (a b : ℕ) → (a ≡ 0 → ⊥) → b ≡ 0 → a ≡ lower_of a b
unfolding lower_of
lower_second a b n e = rw (ne_eqb _ _ n, eq-eqb _ _ e)
