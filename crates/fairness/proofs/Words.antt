-- The sum of a trade's fills grows line by line.
use mathlib.Core.Path.{◌≡◌, refl, sym, ap, ◌∙◌}
use mathlib.Core.List.{List, [], ◌∷◌}
use Prim.Native.Nat.{ℕ, zero, suc, ◌+◌, ◌<◌, ◌≤◌}
use native.Mathlib.Numerals.{add-one}
use native.Mathlib.Omega.{arith}
use lib.ListN.{get_or, take, length, length-map, get_or-map}
use lib.Seq.{take-length}
use mir.Val.{Fits}
use mir.Syntax.{w64}
use Rattle.rules.specs.Basics.{sum}
use Rattle.rules.specs.Limits.{most_trade_lines}
use Rattle.fairness.specs.Lines.{fills_in, nothing}
use Rattle.fairness.specs.declared.Portion.{Portion}
use Rattle.fairness.specs.Pairs.{Summing}

sum_grows_by_word : (l : List ℕ) (i : ℕ) → sum (take (suc i) l) ≡ sum (take i l) + get_or l i 0
unfolding sum
sum_grows_by_word [] zero = refl
sum_grows_by_word [] (suc i) = refl
sum_grows_by_word (x ∷ l) zero = omega arith
sum_grows_by_word (x ∷ l) (suc i) = omega (arith, sum_grows_by_word l i)

module _ (portions : List Portion) where
  pub summing_none : Summing portions 0 0
  unfolding sum
  summing_none = record { is = refl; small = omega arith; low = omega arith }

  module _ (i s : ℕ) (h : Summing portions i s) where
    pub summing_more : (v : ℕ) → i < length portions → v ≡ (get_or portions i nothing).filled → v < 4294967296 → Summing portions (i + 1) (s + v)
    summing_more v lt e b =
        let w : v ≡ get_or (fills_in portions) i 0 = e ∙ sym (get_or-map (λ (p : Portion). p.filled) portions i nothing) in
        record {
          is = rw (add-one i, sum_grows_by_word (fills_in portions) i, w) (ap (λ x. x + get_or (fills_in portions) i 0) h.is);
          small = omega (arith, h.small);
          low = omega arith;
        }

    pub summing_all : length portions ≤ i → s ≡ sum (fills_in portions)
    summing_all ge =
        let e : i ≡ length (fills_in portions) = omega (arith, h.low, length-map portions (λ (p : Portion). p.filled)) in
        h.is ∙ ap (λ (l : List ℕ). sum l) (rw e (take-length (fills_in portions)))

    pub summing_fits : (v : ℕ) → length portions ≤ most_trade_lines → i < length portions → v < 4294967296 → Fits w64 (s + v)
    summing_fits v few lt b = record { fits = omega (arith, h.small) }

pub ruleset sum_laws = (summing_none, summing_more, summing_all, summing_fits)
