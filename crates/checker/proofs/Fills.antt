-- The sheet's fills of one trade's lines, found by their numbers.
use mathlib.Core.Path.{◌≡◌, refl, sym, ap, ◌∙◌}
use mathlib.Core.List.{List, [], ◌∷◌, map-append}
use Prim.Native.Nat.{ℕ, ◌+◌, ◌≤◌, ◌<◌}
use native.Mathlib.Numerals.{add-one}
use native.Mathlib.Omega.{arith}
use lib.ListN.{get_or, length, take, set, length-set}
use lib.Seq.{take-suc-set}
use Rattle.rules.specs.Basics.{below}
use Rattle.rules.specs.Limits.{most_trade_lines}
use Rattle.claims.specs.Lines.{line_in, number_at, many_of, trade_lines, ManyIs, NumberIs}
use Rattle.claims.proofs.Lines.{trade_lines_more}
use Rattle.claims.proofs.TradeLines.{trade_findable}
use Rattle.fairness.proofs.Places.{set_keeps}
use Rattle.fairness.specs.Lines.{fills_in, claim_at, contracts_at}
use Rattle.fairness.specs.declared.Portion.{Portion}
use Rattle.said.specs.Said.{nothing as unsaid}
use Rattle.said.specs.declared.Said.{Said}
use Rattle.checker.specs.Beside.{fill_on, FillsGathered, FillsGathering}

module _ (claims : List ℕ) (said : List Said) (m k : ℕ) (mk : ManyIs claims m k) (before portions : List Portion) where
  pub no_fill_gathered : length before ≡ most_trade_lines → FillsGathering claims said m k 0 before before
  unfolding trade_lines below
  no_fill_gathered l = record { fills = refl; claims_stay = refl; customers_stay = refl; low = omega arith; long = l }

  module _ (i : ℕ) (g : FillsGathering claims said m k i before portions) where
    -- filled as the sheet's line j says
    abbrev with_fill : ℕ → Portion
    with_fill j = record { claim = claim_at portions i; customers = contracts_at portions i; filled = (get_or said j unsaid).filled }

    pub fill_gathered : i < k → (j : ℕ) → NumberIs claims m i j → FillsGathering claims said m k (i + 1) before (set portions i (with_fill j))
    fill_gathered h j nj =
        let lt : i < length portions = omega (arith, mk.few, g.long) in
        record {
          fills =
              rw (trade_lines_more claims m i, add-one i)
              (ap fills_in (take-suc-set portions i (with_fill j) lt) ∙ map-append (λ (p : Portion). p.filled) (take i portions) (with_fill j ∷ [])
              ∙ rw (g.fills, nj.is) (sym (map-append (fill_on said) (trade_lines claims m i) (line_in claims (number_at claims m i) ∷ []))));
          claims_stay = set_keeps (λ p. p.claim) portions i (with_fill j) refl ∙ g.claims_stay;
          customers_stay = set_keeps (λ p. p.customers) portions i (with_fill j) refl ∙ g.customers_stay;
          low = omega arith;
          long = length-set portions i (with_fill j) ∙ g.long;
        }

    pub fills_gathered : k ≤ i → FillsGathered claims said m before portions
    fills_gathered h =
        let e : i ≡ many_of claims m = omega (arith, g.low, mk.is) in
        record { fills = rw (← e) g.fills; claims_stay = g.claims_stay; customers_stay = g.customers_stay; long = g.long }

    pub fill_place : i < k → i < length portions
    fill_place h = omega (arith, mk.few, g.long)

pub ruleset fills_laws = (trade_findable, no_fill_gathered, fill_gathered, fills_gathered, fill_place)
