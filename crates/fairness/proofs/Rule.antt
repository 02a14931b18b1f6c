-- The share rule over the words: a pair that breaks it, and the pairs passed by the two loops.
use mathlib.Core.Path.{◌≡◌, refl, sym, ◌∙◌}
use mathlib.Core.Bool.{Bool, true, false, not, true≢false}
use mathlib.Core.List.{List, [], ◌∷◌}
use Prim.Native.Nat.{ℕ, zero, suc, ◌+◌, ◌*◌, ◌<◌, ◌≤◌}
use native.Mathlib.Nat.{zero-mul}
use native.Mathlib.Omega.{arith}
use lib.Dec.{eqb, ltb, leb}
use lib.ListN.{length, get_or}
use borrow.Author.Count.{below_more}
use borrow.Author.Tests.{lt-ltb, le-ltb, leb-true, leb-false, not-true, not-false, eqb-true, eqb-false}
use Rattle.std.specs.Prelude.{◌==◌}
use Rattle.rules.specs.Basics.{all, keep}
use Rattle.rules.specs.Due.{Share, fair, share_rule}
use Rattle.rules.proofs.Tests.{by_test, and_left, and_right}
use Rattle.rules.proofs.Giving.{Within, Fair, fair_says, says_fair}
use Rattle.rules.proofs.OwnSheet.{fair_shares_keep_the_rule}
use Rattle.fairness.specs.Lines.{Gathered, RuleAnswered, share_at, nothing}
use Rattle.fairness.specs.declared.Portion.{Portion}
use Rattle.fairness.specs.Pairs.{Breaks, FairSoFar}
use Rattle.rows.proofs.Rows.{words_product_fits}
use Rattle.fairness.proofs.Places.{member_at, by_places, gathered_many, fill_at, claim_at_lem, customers_at, sound_at}

-- ---- one pair

module _ (portion other : Portion) where
  pub filled_breaks_nothing : portion.claim ≤ portion.filled → Breaks portion other false
  unfolding fair
  filled_breaks_nothing h = record { is = λ a b ef ec es of os. rw (ef, ec, le-ltb portion.filled portion.claim h) }

  pub unfilled_breaks : (p q r s : ℕ) → portion.filled < portion.claim → p ≡ portion.filled + 1 → q ≡ other.customers → r ≡ other.filled → s ≡ portion.customers
      → Breaks portion other (ltb (p * q) (r * s))
  unfolding fair
  unfilled_breaks p q r s h ep eq er es =
      record {
        is =
            λ a b ef ec ek of os.
            rw (ef, ec, ek, of, os, lt-ltb portion.filled portion.claim h, ep, eq, er, es) (less ((portion.filled + 1) * other.customers) (other.filled * portion.customers));
      }
    where
      less : (x y : ℕ) → ltb x y ≡ not (leb y x)
      less x y = by_test (leb y x) (λ e. rw e (le-ltb x y (leb-true y x e))) (λ e. rw e (lt-ltb x y (leb-false y x e)))

pub ruleset breaks_laws = (filled_breaks_nothing, unfilled_breaks, words_product_fits)

-- ---- a pair that breaks the rule, found among the lines with reason 0

kept_all_at : (f p : Share → Bool) (ss : List Share) → all f (keep p ss) ≡ true → (i : ℕ) → i < length ss → p (share_at ss i) ≡ true → f (share_at ss i) ≡ true
unfolding all keep
kept_all_at f p [] e i h t = absurd (omega arith)
kept_all_at f p (a ∷ ss) e zero h t = and_left (f a) (all f (keep p ss)) (rw t at e)
kept_all_at f p (a ∷ ss) e (suc i) h t =
    by_test (p a)
    (λ q. kept_all_at f p ss (and_right (f a) (all f (keep p ss)) (rw q at e)) i (omega arith) t)
    (λ q. kept_all_at f p ss (rw q at e) i (omega arith) t)

rule_says_fair : (ss : List Share) → share_rule ss ≡ true → (i j : ℕ) → i < length ss → j < length ss
    → ((share_at ss i).line.reason == 0) ≡ true → ((share_at ss j).line.reason == 0) ≡ true → fair (share_at ss i) (share_at ss j) ≡ true
unfolding share_rule
rule_says_fair ss e i j hi hj ri rj =
    let ours : Share → Bool = λ a. a.line.reason == 0 in
    kept_all_at (fair (share_at ss i)) ours ss (kept_all_at (λ a. all (fair a) (keep ours ss)) ours ss e i hi ri) j hj rj

module _ (portions : List Portion) (ss : List Share) (g : Gathered ss portions) (w : Within ss) where
  many : length portions ≡ length ss
  many = gathered_many ss portions g

  within_at : (i : ℕ) → i < length portions → (share_at ss i).filled ≤ (share_at ss i).line.claim
  within_at i h = w (share_at ss i) (member_at ss i (omega (arith, many)))

  -- whoever breaks the rule, or has it broken, has reason 0: the others claim nothing and are filled nothing
  unfair_rule_broken : (i j : ℕ) → i < length portions → j < length portions → fair (share_at ss i) (share_at ss j) ≡ false → share_rule ss ≡ false
  unfair_rule_broken i j hi hj e =
      by_test (share_rule ss)
      (λ t. absurd (true≢false (sym (rule_says_fair ss t i j (omega (arith, many)) (omega (arith, many)) (first t) (second t)) ∙ e)))
      (λ t. t)
    where
      fair_if : Fair (share_at ss i) (share_at ss j) → ⊥
      fair_if f = true≢false (sym (says_fair (share_at ss i) (share_at ss j) f) ∙ e)

      first : share_rule ss ≡ true → ((share_at ss i).line.reason == 0) ≡ true
      first t =
          by_test ((share_at ss i).line.reason == 0) (λ r. r)
          (λ r. absurd (fair_if (λ u. absurd (omega (arith, (sound_at ss portions g i hi).unclaimed r)))))

      second : share_rule ss ≡ true → ((share_at ss j).line.reason == 0) ≡ true
      second t =
          by_test ((share_at ss j).line.reason == 0) (λ r. r)
          (λ r.
          let c = (sound_at ss portions g j hj).unclaimed r in
          let z : (share_at ss j).filled ≡ 0 = omega (arith, within_at j hj) in
          absurd (fair_if (λ u. rw (z, zero-mul (share_at ss i).line.customers) (omega arith))))

  all_fair_rule_kept : ((i j : ℕ) → i < length portions → j < length portions → fair (share_at ss i) (share_at ss j) ≡ true) → share_rule ss ≡ true
  all_fair_rule_kept f =
      fair_shares_keep_the_rule ss
      (λ a b ma mb. by_places (λ x. Fair x b) ss
      (λ i hi. by_places (Fair (share_at ss i)) ss (λ j hj. fair_says (share_at ss i) (share_at ss j) (f i j (omega (arith, many)) (omega (arith, many)))) b mb)
      a ma)

-- ---- the two loops

module _ (portions : List Portion) where
  pair_broken_is_unfair : (i j : ℕ) (broken : Bool) → i < length portions → j < length portions → Breaks (get_or portions i nothing) (get_or portions j nothing) broken
      → (ss : List Share) → Gathered ss portions → broken ≡ not (fair (share_at ss i) (share_at ss j))
  pair_broken_is_unfair i j broken hi hj b ss g =
      b.is (share_at ss i) (share_at ss j) (sym (fill_at ss portions g i)) (sym (claim_at_lem ss portions g i)) (sym (customers_at ss portions g i))
      (sym (fill_at ss portions g j)) (sym (customers_at ss portions g j))

  pub fair_none : FairSoFar portions 0 0 true
  fair_none = record { still = refl; lines = λ ss g a b ha hb. absurd (omega arith); line = λ ss g b hb. absurd (omega arith); low = omega arith; others_low = omega arith }

  module _ (i j : ℕ) (kept : Bool) (f : FairSoFar portions i j kept) (hi : i < length portions) where
    pub fair_line : length portions ≤ j → FairSoFar portions (i + 1) 0 kept
    fair_line ge =
        let e : j ≡ length portions = omega (arith, f.others_low) in
        record {
          still = f.still;
          lines =
              λ ss g a b ha hb.
              by_test (eqb a i)
              (λ q. rw (eqb-true a i q) (f.line ss g b (omega arith)))
              (λ q. f.lines ss g a b (omega (arith, eqb-false a i q)) hb);
          line = λ ss g b hb. absurd (omega arith);
          low = omega arith;
          others_low = omega arith;
        }

    module _ (hj : j < length portions) (broken : Bool) (b : Breaks (get_or portions i nothing) (get_or portions j nothing) broken) where
      pub fair_pair : broken ≡ false → FairSoFar portions i (j + 1) kept
      fair_pair e =
          record {
            still = f.still;
            lines = f.lines;
            line = λ ss g. below_more (λ x. fair (share_at ss i) (share_at ss x) ≡ true) j (f.line ss g) (not-false _ (sym (pair_broken_is_unfair i j broken hi hj b ss g) ∙ e));
            low = f.low;
            others_low = omega arith;
          }

      pub pair_breaks : broken ≡ true → RuleAnswered portions false
      pair_breaks e =
          record {
            is = λ ss g w. sym (unfair_rule_broken portions ss g w i j hi hj (not-true _ (sym (pair_broken_is_unfair i j broken hi hj b ss g) ∙ e)));
          }

  pub all_fair : (i : ℕ) (kept : Bool) → FairSoFar portions i 0 kept → length portions ≤ i → RuleAnswered portions kept
  all_fair i kept f ge =
      let e : i ≡ length portions = omega (arith, f.low) in
      record { is = λ ss g w. f.still ∙ sym (all_fair_rule_kept portions ss g w (λ a b ha hb. f.lines ss g a b (omega arith) hb)) }

pub ruleset rule_laws = (fair_none, fair_line, fair_pair, pair_breaks, all_fair)
