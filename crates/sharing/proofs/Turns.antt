-- Whose turn it is, over the words: the scan of the lines finds the unfilled one with the least (fill + 1) per customer contract, the earliest on a tie.
use mathlib.Core.Path.{◌≡◌, refl, subst}
use mathlib.Core.Bool.{◌&&◌}
use mathlib.Core.List.{List}
use Prim.Native.Nat.{ℕ, ◌+◌, ◌*◌, ◌<◌, ◌≤◌}
use native.Mathlib.Nat.{mul_right_comm, mul-le-mul_right, mul-lt-mul_of_pos_right, lt_of_mul-lt-mul_right, mul-zero, one-mul, le_of_lt}
use native.Mathlib.Omega.{arith}
use lib.Dec.{ltb}
use borrow.Author.Tests.{ltb-true, ltb-false, lt-ltb, le-ltb}
use borrow.Author.Count.{below_more}
use Rattle.rules.proofs.Tests.{by_test}
use Rattle.sharing.specs.declared.Turn.{Turn}
use Rattle.fairness.specs.Lines.{claim_at, contracts_at, filled_at, Served, nothing}
use Rattle.fairness.specs.declared.Portion.{Portion}
use lib.ListN.{get_or, length}
use Rattle.sharing.specs.Turns.{sooner_of, Least, Nobody, Found, nobody, least, Scanning}
use Rattle.rows.proofs.Rows.{words_product_fits}

-- ---- the better of two

module _ (best : Turn) (line : ℕ) (p : Portion) where
  pub sooner_filled : p.claim ≤ p.filled → best ≡ sooner_of best line p
  unfolding sooner_of
  sooner_filled h = rw (le-ltb p.filled p.claim h)

  module _ (unfilled : p.filled < p.claim) where
    turn_taken : (p.filled + 1) * best.customers < best.fill * p.customers → record { line = line; fill = p.filled + 1; customers = p.customers } ≡ sooner_of best line p
    unfolding sooner_of
    turn_taken h = rw (lt-ltb p.filled p.claim unfilled, lt-ltb ((p.filled + 1) * best.customers) (best.fill * p.customers) h)

    turn_kept : best.fill * p.customers ≤ (p.filled + 1) * best.customers → best ≡ sooner_of best line p
    unfolding sooner_of
    turn_kept h = rw (lt-ltb p.filled p.claim unfilled, le-ltb ((p.filled + 1) * best.customers) (best.fill * p.customers) h)

    module _ (a b c d : ℕ) (ea : a ≡ p.filled + 1) (eb : b ≡ best.customers) (ec : c ≡ best.fill) (ed : d ≡ p.customers) where
      pub sooner_taken : a * b < c * d → record { line = line; fill = p.filled + 1; customers = p.customers } ≡ sooner_of best line p
      sooner_taken h = turn_taken (rw (← ea, ← eb, ← ec, ← ed) h)

      pub sooner_kept : c * d ≤ a * b → best ≡ sooner_of best line p
      sooner_kept h = turn_kept (rw (← ea, ← eb, ← ec, ← ed) h)

pub ruleset sooner_laws = (sooner_filled, sooner_taken, sooner_kept, words_product_fits)

-- ---- fractions: x / c < y / d ≤ z / e

fractions_less : (x c y d z e : ℕ) → 0 < e → x * d < y * c → y * e ≤ z * d → x * e < z * c
fractions_less x c y d z e p h k =
    lt_of_mul-lt-mul_right d
    (let m : x * d * e < y * c * e = mul-lt-mul_of_pos_right h p in
    let n : y * e * c ≤ z * d * c = mul-le-mul_right c k in
    omega (arith, mul_right_comm x d e, mul_right_comm y c e, mul_right_comm z d c))

-- ---- the scan

module _ (portions : List Portion) where
  module _ (i : ℕ) where
    filled_line_passed : (best : Turn) → claim_at portions i ≤ filled_at portions i → Found portions i best → Found portions (i + 1) best
    filled_line_passed t h (nobody n) = nobody (record { filled = below_more (λ j. claim_at portions j ≤ filled_at portions j) i n.filled h; is = n.is })
    filled_line_passed t h (least l) =
        least (record {
          here = omega (arith, l.here);
          unfilled = l.unfilled;
          one_more = l.one_more;
          own = l.own;
          least = below_more (λ j. filled_at portions j < claim_at portions j → t.fill * contracts_at portions j ≤ (filled_at portions j + 1) * t.customers) i l.least (λ u. absurd (omega arith));
          earliest = l.earliest;
        })

    later_line_passed : (t : Turn) → filled_at portions i < claim_at portions i → t.fill * contracts_at portions i ≤ (filled_at portions i + 1) * t.customers → Least portions i t → Least portions (i + 1) t
    later_line_passed t u h l =
        record {
          here = omega (arith, l.here);
          unfilled = l.unfilled;
          one_more = l.one_more;
          own = l.own;
          least = below_more (λ j. filled_at portions j < claim_at portions j → t.fill * contracts_at portions j ≤ (filled_at portions j + 1) * t.customers) i l.least (λ v. h);
          earliest = l.earliest;
        }

    turn : Turn
    turn = record { line = i; fill = filled_at portions i + 1; customers = contracts_at portions i }

    -- line i's turn comes before that of every line below it
    first_turn_is_least : filled_at portions i < claim_at portions i → ((j : ℕ) → j < i → filled_at portions j < claim_at portions j → (filled_at portions i + 1) * contracts_at portions j < (filled_at portions j + 1) * contracts_at portions i)
        → Least portions (i + 1) turn
    unfolding turn
    first_turn_is_least u f =
        record {
          here = omega arith;
          unfilled = u;
          one_more = refl;
          own = refl;
          least = below_more (λ j. filled_at portions j < claim_at portions j → (filled_at portions i + 1) * contracts_at portions j ≤ (filled_at portions j + 1) * contracts_at portions i) i (λ j h v. le_of_lt (f j h v)) (λ v. omega arith);
          earliest = f;
        }

    abbrev after : Turn → Turn
    after best = sooner_of best i (get_or portions i nothing)

    module _ (served : Served portions) (low : i < length portions) (u : filled_at portions i < claim_at portions i) (t : Turn) where
      first_open_line_found : Nobody portions i t → Found portions (i + 1) (after t)
      first_open_line_found n =
          let z : (filled_at portions i + 1) * t.customers < t.fill * contracts_at portions i =
          rw (n.is, mul-zero (filled_at portions i + 1), one-mul (contracts_at portions i)) (omega (arith, served i low)) in
          subst (Found portions (i + 1)) (turn_taken t i (get_or portions i nothing) u z)
          (least (unfold turn in first_turn_is_least u (λ j h v. absurd (omega (arith, n.filled j h)))))

      later_open_line_found : Least portions i t → Found portions (i + 1) (after t)
      later_open_line_found l =
          by_test (ltb ((filled_at portions i + 1) * t.customers) (t.fill * contracts_at portions i))
          (λ e.
          let z = ltb-true _ _ e in
          subst (Found portions (i + 1)) (turn_taken t i (get_or portions i nothing) u z)
          (least (unfold turn in first_turn_is_least u (λ j h v.
          fractions_less (filled_at portions i + 1) (contracts_at portions i) t.fill t.customers (filled_at portions j + 1) (contracts_at portions j) (omega (arith, served j (omega arith))) z (l.least j h v)))))
          (λ e.
          let z = ltb-false _ _ e in
          subst (Found portions (i + 1)) (turn_kept t i (get_or portions i nothing) u z) (least (later_line_passed t u z l)))

    found_more : Served portions → i < length portions → (best : Turn) → Found portions i best → Found portions (i + 1) (after best)
    found_more served low best f =
        by_test (ltb (filled_at portions i) (claim_at portions i))
        (λ e. unfilled_line (ltb-true _ _ e) f)
        (λ e.
        let z = ltb-false _ _ e in
        subst (Found portions (i + 1)) (sooner_filled best i (get_or portions i nothing) z) (filled_line_passed best z f))
      where
        unfilled_line : filled_at portions i < claim_at portions i → Found portions i best → Found portions (i + 1) (after best)
        unfilled_line u (nobody n) = first_open_line_found served low u best n
        unfilled_line u (least l) = later_open_line_found served low u best l

    sooner_low : (best : Turn) → best.line ≤ length portions → i < length portions → (p : Portion) → (sooner_of best i p).line ≤ length portions
    unfolding sooner_of
    sooner_low best a b p =
        by_test (ltb p.filled p.claim && ltb ((p.filled + 1) * best.customers) (best.fill * p.customers)) (λ e. rw e (le_of_lt b)) (λ e. rw e a)

  pub scanning_none : Scanning portions 0 (record { line = length portions; fill = 1; customers = 0 })
  scanning_none =
      record {
        found = λ served. nobody (record { filled = λ i h. absurd (omega arith); is = refl });
        line_low = omega arith;
        low = omega arith;
      }

  pub scanning_more : (i : ℕ) (t u : Turn) → Scanning portions i t → i < length portions
      → u ≡ sooner_of t i (get_or portions i nothing) → Scanning portions (i + 1) u
  scanning_more i t u s h e =
      record {
        found = λ served. rw e (found_more i served h t (s.found served));
        line_low = rw e (sooner_low i t s.line_low h (get_or portions i nothing));
        low = omega arith;
      }
