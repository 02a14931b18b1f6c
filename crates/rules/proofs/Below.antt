-- Lists of what a function gives for 0, 1, .. below n, and lists that grow part by part.
use mathlib.Core.Path.{◌≡◌, refl, sym, ap, ◌∙◌}
use mathlib.Core.Bool.{Bool, ◌||◌, or-false}
use mathlib.Core.List.{List, [], ◌∷◌, ◌++◌, map, map-append}
use Prim.Native.Nat.{ℕ, zero, suc, ◌+◌, ◌<◌, ◌≤◌}
use native.Mathlib.Omega.{arith}
use native.Mathlib.Numerals.{add-one}
use lib.Dec.{eqb}
use lib.ListN.{get_or, length, length-append, get_or-append, get_or-eq_default}
use lib.Seq.{get_or_at}
use borrow.Author.Tests.{eqb-true, eqb-false}
use Rattle.rules.specs.Basics.{any, below}
use Rattle.rules.proofs.Tests.{by_test, any_append}

module _ {A : Type 0} (f : ℕ → A) where
  pub one_more_below : (n : ℕ) → map f (below (n + 1)) ≡ map f (below n) ++ (f n ∷ [])
  unfolding below
  one_more_below n = rw add-one (map-append f (below n) (n ∷ []))

  next_below : (n : ℕ) → map f (below (suc n)) ≡ map f (below n) ++ (f n ∷ [])
  next_below n = rw add-one at (one_more_below n)

  pub as_many_below : (n : ℕ) → length (map f (below n)) ≡ n
  unfolding below
  as_many_below zero = refl
  as_many_below (suc n) =
      ap length (next_below n) ∙ length-append (map f (below n)) (f n ∷ []) ∙ omega (arith, as_many_below n)

  pub at_below : (d : A) (n i : ℕ) → i < n → get_or (map f (below n)) i d ≡ f i
  at_below d zero i h = absurd (omega arith)
  at_below d (suc n) i h =
      ap (λ (l : List A). get_or l i d) (next_below n)
      ∙ by_test (eqb i n)
      (λ q. let e = eqb-true i n q in get_or_at (map f (below n)) (f n) [] d i (as_many_below n ∙ sym e) ∙ ap f (sym e))
      (λ q. let ne = eqb-false i n q in
      let low : i < n = omega arith in
      get_or-append (map f (below n)) (f n ∷ []) d i (omega (arith, as_many_below n)) ∙ at_below d n i low)

  pub beyond_below : (d : A) (n i : ℕ) → n ≤ i → get_or (map f (below n)) i d ≡ d
  beyond_below d n i h = get_or-eq_default (map f (below n)) d (omega (arith, as_many_below n))

pub same_below : {A : Type 0} (f g : ℕ → A) (n : ℕ) → ((i : ℕ) → i < n → f i ≡ g i) → map f (below n) ≡ map g (below n)
unfolding below
same_below f g zero h = refl
same_below f g (suc n) h = next_below f n ∙ rw (h n (omega arith), same_below f g n (λ i l. h i (omega arith))) (sym (next_below g n))

-- ---- a test on the numbers below n

pub one_more_tried : (f : ℕ → Bool) (n : ℕ) → any f (below (suc n)) ≡ (any f (below n) || f n)
unfolding below any
one_more_tried f n = any_append f (below n) (n ∷ []) ∙ rw or-false

-- ---- part by part: fewer parts are no longer

pub fewer_no_longer : {A : Type 0} (whole part : ℕ → List A) (k : ℕ) → ((n : ℕ) → n < k → whole (n + 1) ≡ whole n ++ part n)
    → (i : ℕ) → i ≤ k → length (whole i) ≤ length (whole k)
fewer_no_longer whole part zero step i h = let e : i ≡ 0 = omega arith in rw e (omega arith)
fewer_no_longer {A} whole part (suc k) step i h =
    by_test (eqb i (suc k))
    (λ q. rw (eqb-true i (suc k) q) (omega arith))
    (λ q. let ne = eqb-false i (suc k) q in
    let more : length (whole (k + 1)) ≡ length (whole k) + length (part k) = ap length (step k (omega arith)) ∙ length-append (whole k) (part k) in
    omega (arith, fewer_no_longer whole part k (λ n l. step n (omega arith)) i (omega arith), ap (λ (x : ℕ). length (whole x)) (add-one k)))
