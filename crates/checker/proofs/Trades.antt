-- "trade by trade 25, 26": the lines of a trade beside the sheet's, and what the definitions say of them.
use mathlib.Core.Path.{◌≡◌, refl, sym, ap, ◌∙◌, subst}
use mathlib.Core.Bool.{Bool, true, false, not}
use mathlib.Core.List.{List, [], ◌∷◌, ◌++◌, map, map-map, map-id}
use Prim.Native.Nat.{ℕ, zero, suc, ◌+◌, ◌-◌, ◌≤◌, ◌<◌}
use native.Mathlib.Nat.{sub-zero, zero-add}
use native.Mathlib.Numerals.{add-one}
use native.Mathlib.Omega.{arith}
use lib.ListN.{length, take}
use borrow.Author.Tests.{eq-eqb, ne_eqb, not-true, not-false}
use Rattle.std.proofs.lemmas.List.{take-map}
use Rattle.std.specs.Prelude.{◌==◌}
use Rattle.rules.specs.Basics.{below, keep, sum, Answer, refused, ok, ◌>>=◌, Passed, demand}
use Rattle.rules.specs.Limits.{most_trades}
use Rattle.rules.specs.Refusals.{not_the_due_total, share_rule_broken}
use Rattle.rules.specs.Journal.{Journal}
use Rattle.rules.specs.Due.{Line, lines, lines_of, of_trade, due, Share, share_rule}
use Rattle.rules.specs.OwnSheet.{SheetLine}
use Rattle.rules.specs.SheetCheck.{Beside, beside, check_lines, as_share, shares_of, fills_of, check_trade, check_trades}
use Rattle.rules.proofs.Tests.{keep_sub, keep_map, map_all}
use Rattle.rules.proofs.Below.{one_more_below}
use Rattle.rules.proofs.Lines.{lines_known}
use Rattle.claims.specs.Lines.{line_in, lines_from, many_of, trade_lines, Gathered, DueIs}
use Rattle.claims.specs.Books.{Books}
use Rattle.claims.proofs.TradeLines.{trade_findable, gathered_lines}
use Rattle.rules.proofs.Giving.{Within}
use Rattle.rules.proofs.OwnSheet.{lines_in}
use Rattle.fairness.specs.Lines as fairness
use Rattle.fairness.specs.Lines.{fills_in}
use Rattle.fairness.specs.declared.Portion.{Portion}
use Rattle.fairness.proofs.Lines.{known_line_sound}
use Rattle.std.specs.Prelude.{Result, Ok, Err}
use Rattle.rows.specs.Refusals.{refused_as}
use Rattle.rows.specs.declared.Refusal.TheVariants.{NotTheDueTotal, ShareRuleBroken}
use Rattle.rows.specs.declared.Refused.{Refused}
use Rattle.said.specs.declared.Said.{Said}
use Rattle.said.specs.Said.{each, said_line}
use Rattle.said.proofs.Reading.{each_more}
use Rattle.checker.specs.Beside.{besides, fill_on, FillsGathered}
use Rattle.checker.specs.Check.{checked_as, TradeChecked, TradesChecked, TradesChecking}
use Rattle.checker.proofs.Lines.{lines_within}

-- ---- the journal's lines are the table's

each_below : {A : Type 0} (f : ℕ → A) (n : ℕ) → map f (below n) ≡ each f 0 n
unfolding below each
each_below f zero = refl
each_below f (suc n) =
    rw add-one at (one_more_below f n) ∙ ap (λ l. l ++ (f n ∷ [])) (each_below f n)
    ∙ ap (λ (x : ℕ). each f 0 n ++ (f x ∷ [])) (sym (zero-add n)) ∙ sym (each_more f 0 n)

pub lines_each : (j : Journal) (trades claims : List ℕ) (traded n : ℕ) → Books j trades claims traded n → lines j ≡ each (line_in claims) 0 n
unfolding lines lines_from
lines_each j trades claims traded n b = sym b.lined.lines ∙ each_below (line_in claims) n

pub each_long : {A : Type 0} (f : ℕ → A) (i k : ℕ) → length (each f i k) ≡ k
unfolding each
each_long f i zero = refl
each_long f i (suc k) = ap suc (each_long f (i + 1) k)

pub beside_each : (f : ℕ → Line) (g : ℕ → SheetLine) (i k : ℕ) → beside (each f i k) (each g i k) ≡ each (λ x. record { line = f x; sheet = g x }) i k
unfolding beside each
beside_each f g i zero = refl
beside_each f g i (suc k) = ap (λ l. record { line = f i; sheet = g i } ∷ l) (beside_each f g (i + 1) k)

each_map : {A B : Type 0} (h : A → B) (f : ℕ → A) (i k : ℕ) → map h (each f i k) ≡ each (λ x. h (f x)) i k
unfolding each
each_map h f i zero = refl
each_map h f i (suc k) = ap (λ l. h (f i) ∷ l) (each_map h f (i + 1) k)

-- ---- a trade's shares: its lines, filled as the sheet says

abbrev with_said : List Said → Line → Beside
with_said said l = record { line = l; sheet = said_line said l.number }

abbrev filled_as : List Said → Line → Share
filled_as said l = record { line = l; filled = fill_on said l }

as_shares : (said : List Said) (ls : List Line) → map as_share (map (with_said said) ls) ≡ map (filled_as said) ls
as_shares said ls = map-map as_share (with_said said) ls

shares_with : (said : List Said) (m : ℕ) (ls : List Line) → shares_of m (map (with_said said) ls) ≡ map (filled_as said) (of_trade m ls)
unfolding shares_of of_trade
shares_with said m ls =
    ap (keep (λ (a : Share). a.line.trade == m)) (as_shares said ls) ∙ keep_map (λ (a : Share). a.line.trade == m) (filled_as said) ls

lines_filled : (said : List Said) (ls : List Line) → lines_in (map (filled_as said) ls) ≡ ls
lines_filled said ls = map-map _ (filled_as said) ls ∙ map-id ls

fills_filled : (said : List Said) (ls : List Line) → fills_of (map (filled_as said) ls) ≡ map (fill_on said) ls
fills_filled said ls = map-map _ (filled_as said) ls

-- what stays of every line stays of the first ones
first_stay : (part : Portion → ℕ) (k : ℕ) (xs ys : List Portion) → map part xs ≡ map part ys → map part (take k xs) ≡ map part (take k ys)
first_stay part k xs ys same = sym (take-map part k xs) ∙ ap (take k) same ∙ take-map part k ys

module _ (j : Journal) (trades claims : List ℕ) (traded n : ℕ) (b : Books j trades claims traded n) (said : List Said) where
  besides_with : besides claims said n ≡ map (with_said said) (lines j)
  unfolding besides
  besides_with = sym (each_map (with_said said) (line_in claims) 0 n) ∙ ap (map (with_said said)) (sym (lines_each j trades claims traded n b))

  module _ (m : ℕ) where
    trade_shares : shares_of m (besides claims said n) ≡ map (filled_as said) (of_trade m (lines j))
    trade_shares = ap (shares_of m) besides_with ∙ shares_with said m (lines j)

    within : check_lines (besides claims said n) ≡ ok tt → Within (shares_of m (besides claims said n))
    unfolding shares_of
    within e a mem =
        map_all (λ (x : Share). x.filled ≤ x.line.claim) as_share (besides claims said n) (lines_within (besides claims said n) e) a
        (keep_sub (λ (x : Share). x.line.trade == m) (map as_share (besides claims said n)) a mem)

    module _ (hm : m < most_trades) (portions : List Portion) (k : ℕ) (g : Gathered claims m portions k) (filled : List Portion) (f : FillsGathered claims said m portions filled) where
      lined : fairness.Lined (of_trade m (lines j)) (take k filled)
      unfolding lines
      lined =
          let l = gathered_lines j.header j.history claims n m portions k hm b.lined g in
          record {
            claims = first_stay (λ p. p.claim) k filled portions f.claims_stay ∙ l.claims;
            customer_contracts = first_stay (λ p. p.customers) k filled portions f.customers_stay ∙ l.contracts;
            sound =
                λ x mem. known_line_sound j.header j.history x
                (lines_known b.arrived j.history x (unfold of_trade in keep_sub _ (lines_of j.header j.history j.history) x mem));
          }

      shares_gathered : fairness.Gathered (shares_of m (besides claims said n)) (take k filled)
      shares_gathered =
          let its : trade_lines claims m (many_of claims m) ≡ of_trade m (lines j) = unfold lines in b.lined.by_trade m hm in
          subst (λ (ss : List Share). fairness.Gathered ss (take k filled)) (sym trade_shares)
          (record {
            lined = subst (λ (ls : List Line). fairness.Lined ls (take k filled)) (sym (lines_filled said (of_trade m (lines j)))) lined;
            fills =
                rw g.many
                (f.fills ∙ ap (map (fill_on said)) its ∙ sym (fills_filled said (of_trade m (lines j))));
          })

-- ---- one trade

module _ (j : Journal) (bs : List Beside) (m : ℕ) where
  total_missed : (sum (fills_of (shares_of m bs)) ≡ due j m → ⊥) → refused not_the_due_total m ≡ check_trade j bs m
  unfolding check_trade ◌>>=◌ demand
  total_missed n = rw (ne_eqb _ _ n)

  module _ (e : sum (fills_of (shares_of m bs)) ≡ due j m) where
    rule_missed : share_rule (shares_of m bs) ≡ false → refused share_rule_broken m ≡ check_trade j bs m
    unfolding check_trade ◌>>=◌ demand
    rule_missed f = rw (eq-eqb _ _ e, f)

    both_met : share_rule (shares_of m bs) ≡ true → ok tt ≡ check_trade j bs m
    unfolding check_trade ◌>>=◌ demand
    both_met f = rw (eq-eqb _ _ e, f)

module _ (claims trades : List ℕ) (lines : ℕ) (said : List Said) (m : ℕ) (hm : m < most_trades) (portions : List Portion) (k : ℕ) (g : Gathered claims m portions k)
    (its : List Portion) (f : FillsGathered claims said m portions its) (filled : ℕ) (ef : filled ≡ sum (fills_in (take k its))) (d : ℕ) (di : DueIs claims trades m d) (wide : ℕ)
    (ed : wide ≡ d) where
  module _ (j : Journal) (traded : ℕ) (b : Books j trades claims traded lines) (lt : m < traded) where
    filled_is : filled ≡ sum (fills_of (shares_of m (besides claims said lines)))
    filled_is = ef ∙ ap sum (shares_gathered j trades claims traded lines b said m hm portions k g its f).fills

    due_is : wide ≡ due j m
    due_is = ed ∙ di.so j.header j.history b.snaps traded lines lt hm b.traded b.lined

    rule_is : check_lines (besides claims said lines) ≡ ok tt → (kept : Bool) → fairness.RuleAnswered (take k its) kept
        → kept ≡ share_rule (shares_of m (besides claims said lines))
    rule_is e kept a =
        a.is (shares_of m (besides claims said lines)) (shares_gathered j trades claims traded lines b said m hm portions k g its f) (within j trades claims traded lines b said m e)

  pub trade_due_missed : (filled ≡ wide → ⊥) → (r : Refused) → r ≡ record { refusal = NotTheDueTotal; place = m } → TradeChecked claims trades lines said m (Err r)
  trade_due_missed q r er =
      rw er
      (record {
        so =
            λ j traded b lt e.
            let p = filled_is j traded b lt in
            let d = due_is j traded b lt in
            total_missed j (besides claims said lines) m (λ z. q (p ∙ z ∙ sym d));
      })

  module _ (q : filled ≡ wide) (kept : Bool) (a : fairness.RuleAnswered (take k its) kept) where
    pub trade_rule_broken : not kept ≡ true → (r : Refused) → r ≡ record { refusal = ShareRuleBroken; place = m } → TradeChecked claims trades lines said m (Err r)
    trade_rule_broken h r er =
        rw er
        (record {
          so =
              λ j traded b lt e.
              rule_missed j (besides claims said lines) m (sym (filled_is j traded b lt) ∙ q ∙ due_is j traded b lt)
              (sym (rule_is j traded b lt e kept a) ∙ not-true kept h);
        })

    pub trade_passed : not kept ≡ false → TradeChecked claims trades lines said m (Ok tt)
    trade_passed h =
        record {
          so =
              λ j traded b lt e.
              both_met j (besides claims said lines) m (sym (filled_is j traded b lt) ∙ q ∙ due_is j traded b lt)
              (sym (rule_is j traded b lt e kept a) ∙ not-false kept h);
        }

pub ruleset trade_laws = (trade_findable, trade_due_missed, trade_rule_broken, trade_passed)

-- ---- trade by trade

module _ (claims trades : List ℕ) (lines : ℕ) (said : List Said) (traded : ℕ) where
  pub no_trade_checked : TradesChecking claims trades lines said traded 0
  no_trade_checked = record { so = λ j b e. rw sub-zero; low = omega arith }

  module _ (m : ℕ) (w : TradesChecking claims trades lines said traded m) where
    pub trades_checked : traded ≤ m → TradesChecked claims trades lines said traded (Ok tt)
    unfolding check_trades
    trades_checked h = let d : traded - m ≡ 0 = omega arith in record { so = λ j b e. sym (w.so j b e ∙ rw d) }

    module _ (h : m < traded) (r : Result (Unit {0}) Refused) (t : TradeChecked claims trades lines said m r) where
      left : traded - m ≡ suc (traded - (m + 1))
      left = omega arith

      on : (j : Journal) → Books j trades claims traded lines → check_lines (besides claims said lines) ≡ ok tt → (a : Answer Passed) → checked_as r ≡ a
          → check_trades j (besides claims said lines) 0 traded ≡ (a >>= λ _. check_trades j (besides claims said lines) (m + 1) (traded - (m + 1)))
      unfolding check_trades
      on j b e a q = w.so j b e ∙ rw (left, sym (t.so j traded b h e) ∙ q)

      pub a_trade_refused : (q : Refused) → r ≡ Err q → (u : Result (Unit {0}) Refused) → u ≡ Err q → TradesChecked claims trades lines said traded u
      unfolding ◌>>=◌
      a_trade_refused q g u f = record { so = λ j b e. ap checked_as f ∙ sym (on j b e (refused_as q) (ap checked_as g)) }

      pub a_trade_passed : r ≡ Ok tt → TradesChecking claims trades lines said traded (m + 1)
      unfolding ◌>>=◌
      a_trade_passed g = record { so = λ j b e. on j b e (ok tt) (ap checked_as g); low = omega arith }

pub ruleset trades_laws = (no_trade_checked, trades_checked, a_trade_refused, a_trade_passed)
