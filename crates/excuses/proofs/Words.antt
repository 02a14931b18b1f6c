-- The tests of the code on single words, one law for each way out.
use mathlib.Core.Path.{◌≡◌, sym}
use mathlib.Core.Bool.{Bool, true, false, not, ◌&&◌, ◌||◌, and-false, and-true}
use Prim.Native.Nat.{ℕ, ◌+◌, ◌≤◌}
use native.Mathlib.Omega.{arith}
use lib.Dec.{eqb, ltb}
use borrow.Author.Tests.{eq-eqb, ne_eqb, eqb-true, lt-ltb}
use Rattle.rules.specs.Reasons.{excuse_wait}
use Rattle.rules.proofs.Tests.{by_test}
use Rattle.excuses.specs.Excuses.{backed, outlived, excusing}

module _ (side price bid offer : ℕ) (some : 1 ≤ price) where
  pub no_offer_backs_away : side ≡ 1 → offer ≡ 0 → true ≡ backed side price bid offer
  unfolding backed
  no_offer_backs_away p q = rw (eq-eqb side 1 p, eq-eqb offer 0 q)

  pub offer_backs_away : side ≡ 1 → (offer ≡ 0 → ⊥) → ltb price offer ≡ backed side price bid offer
  unfolding backed
  offer_backs_away p q = rw (eq-eqb side 1 p, ne_eqb offer 0 q, ne_eqb price 0 (λ z. omega arith))

  pub bid_backs_away : (side ≡ 1 → ⊥) → ltb bid price ≡ backed side price bid offer
  unfolding backed
  bid_backs_away p = rw (ne_eqb side 1 p, ne_eqb price 0 (λ z. omega arith)) (no_bid bid)
    where
      no_bid : (b : ℕ) → ltb b price ≡ (eqb b 0 || (not (eqb b 0) && ltb b price))
      no_bid b =
          by_test (eqb b 0) (λ z. rw (z, lt-ltb b price (let e : b ≡ 0 = eqb-true b 0 z in omega arith)))
          (λ z. rw z)

pub ruleset backs_laws = (no_offer_backs_away, offer_backs_away, bid_backs_away)

module _ (flag side price bid offer : ℕ) where
  pub ended_not_outlived : (flag ≡ 1 → ⊥) → false ≡ outlived flag side price bid offer
  unfolding outlived
  ended_not_outlived p = rw (ne_eqb flag 1 p)

  pub standing_outlived : flag ≡ 1 → (b : Bool) → b ≡ backed side price bid offer → not b ≡ outlived flag side price bid offer
  unfolding outlived
  standing_outlived p b q = rw (eq-eqb flag 1 p, ← q)

pub ruleset outlives_laws = (ended_not_outlived, standing_outlived)

module _ (way time flag side now : ℕ) where
  pub other_side_not_excusing : (way ≡ side → ⊥) → false ≡ excusing way time flag side now
  unfolding excusing
  other_side_not_excusing p = rw (ne_eqb way side p)

  pub ended_not_excusing : (flag ≡ 1 → ⊥) → false ≡ excusing way time flag side now
  unfolding excusing
  ended_not_excusing p = rw (ne_eqb flag 1 p) (sym (and-false (eqb way side && ltb (time + excuse_wait) now)))

  pub excusing_by_time : way ≡ side → flag ≡ 1 → (a b : ℕ) → a ≡ time → b ≡ now → ltb (a + 20_000) b ≡ excusing way time flag side now
  unfolding excusing
  excusing_by_time p q a b ea eb = rw (eq-eqb way side p, eq-eqb flag 1 q, ea, eb) (sym (and-true (ltb (time + excuse_wait) now)))

pub ruleset excusing_laws = (other_side_not_excusing, ended_not_excusing, excusing_by_time)
