-- The lines of one trade, found by their numbers.
use mathlib.Core.Path.{◌≡◌, refl, sym, ap, ◌∙◌}
use mathlib.Core.List.{List, [], ◌∷◌, ◌++◌, map, map-append}
use Prim.Native.Nat.{ℕ, ◌+◌, ◌*◌, ◌<◌, ◌≤◌}
use native.Mathlib.Omega.{arith}
use native.Mathlib.Numerals.{add-one}
use lib.ListN.{get_or, length, set, take, length-set, length-append}
use lib.Seq.{take-suc-set}
use borrow.Author.Tests.{eq-eqb}
use Rattle.rules.specs.Basics.{below}
use Rattle.rules.specs.Limits.{most_exchanges, most_trades, most_trade_lines}
use Rattle.rules.specs.Header.{Header}
use Rattle.rules.specs.Record.{Event, field, is_satisfaction, satisfaction_kind}
use Rattle.rules.specs.Journal.{History, count}
use Rattle.rules.specs.Due.{Line, line_of, lines_of, of_trade, claims_of, customers_of}
use Rattle.rules.proofs.Below.{as_many_below}
use Rattle.rules.proofs.Journals.{Arrived}
use Rattle.rules.proofs.TradeLines.{trade_has_at_most_two_lines_for_each_other}
use Rattle.fairness.specs.Lines.{claims_in, customers_in}
use Rattle.fairness.specs.declared.Portion.{Portion}
use Rattle.claims.specs.Lines.{part_at, many_at, line_in, number_at, many_of, trade_lines, Lined, Filing, Findable, ManyIs, NumberIs, Gathering, Gathered}
use Rattle.claims.proofs.Lines.{lines_new, of_trade_more, in_its_trade, trade_lines_more}

pub trade_findable : (claims : List ℕ) (lines m : ℕ) → Filing claims lines → m < most_trades → Findable claims m
trade_findable claims lines m fi hm =
    record { trade = hm; few_lines = fi.few_lines m hm; numbers = λ i hi. omega (arith, fi.earlier m i hm hi, fi.few) }

module _ (claims : List ℕ) (m : ℕ) (f : Findable claims m) where
  pub many_read : (r : ℕ) → r ≡ get_or claims (many_at m) 0 → ManyIs claims m r
  unfolding many_of
  many_read r e = record { is = e; few = omega (arith, e, f.few_lines) }

  pub number_read : (i r : ℕ) → i < many_of claims m → r ≡ get_or claims (part_at m + i) 0 → NumberIs claims m i r
  unfolding number_at
  number_read i r h e = record { is = e; low = omega (arith, e, f.numbers i h) }

-- one line more of a column
column_more : (claims : List ℕ) (m i j : ℕ) (p : Portion) (part : Portion → ℕ) (of : Line → ℕ) (portions : List Portion) → j ≡ number_at claims m i
    → part p ≡ of (line_in claims j) → i < length portions → map part (take i portions) ≡ map of (trade_lines claims m i)
    → map part (take (i + 1) (set portions i p)) ≡ map of (trade_lines claims m (i + 1))
column_more claims m i j p part of portions ej ev h same =
    rw (trade_lines_more claims m i, add-one i)
    (ap (map part) (take-suc-set portions i p h) ∙ map-append part (take i portions) (p ∷ [])
    ∙ rw (same, ev, ej) (sym (map-append of (trade_lines claims m i) (line_in claims (number_at claims m i) ∷ []))))

module _ (claims : List ℕ) (m k : ℕ) (mk : ManyIs claims m k) (portions : List Portion) where
  pub none_gathered : length portions ≡ most_trade_lines → Gathering claims m k 0 portions
  unfolding trade_lines below
  none_gathered l = record { claims = refl; contracts = refl; low = omega arith; long = l }

  module _ (i : ℕ) (g : Gathering claims m k i portions) where
    -- line j, not filled yet
    abbrev gathered_line : ℕ → Portion
    gathered_line j = record { claim = get_or claims (j * 8 + 4) 0; customers = get_or claims (j * 8 + 3) 0; filled = 0 }

    pub one_more_gathered : i < k → (j : ℕ) → NumberIs claims m i j → Gathering claims m k (i + 1) (set portions i (gathered_line j))
    one_more_gathered h j nj =
        let low : i < length portions = omega (arith, mk.few, g.long) in
        record {
          claims = column_more claims m i j (gathered_line j) (λ p. p.claim) (λ l. l.claim) portions nj.is refl low g.claims;
          contracts = column_more claims m i j (gathered_line j) (λ p. p.customers) (λ l. l.customers) portions nj.is refl low g.contracts;
          low = omega arith;
          long = length-set portions i (gathered_line j) ∙ g.long;
        }

    pub all_gathered : k ≤ i → Gathered claims m portions k
    all_gathered h =
        let e : i ≡ k = omega (arith, g.low) in
        let e2 : i ≡ many_of claims m = e ∙ mk.is in
        record {
          few = mk.few;
          claims = rw (← e) (g.claims ∙ ap (λ (j : ℕ). claims_of (trade_lines claims m j)) e2);
          contracts = rw (← e) (g.contracts ∙ ap (λ (j : ℕ). customers_of (trade_lines claims m j)) e2);
          many = mk.is;
          long = g.long;
        }

pub ruleset gather_laws = (many_read, number_read, none_gathered, one_more_gathered, all_gathered)

pub trade_lines_long : (claims : List ℕ) (m k : ℕ) → length (trade_lines claims m k) ≡ k
unfolding trade_lines
trade_lines_long claims m k = as_many_below (λ i. line_in claims (number_at claims m i)) k

-- what was gathered, of a history
pub record LinesGathered (h : Header) (past : History) (m : ℕ) (portions : List Portion) (k : ℕ) : Type 0 where
  pub many : k ≡ length (of_trade m (lines_of h past past))
  pub claims : claims_in (take k portions) ≡ claims_of (of_trade m (lines_of h past past))
  pub contracts : customers_in (take k portions) ≡ customers_of (of_trade m (lines_of h past past))

pub gathered_lines : (h : Header) (past : History) (claims : List ℕ) (lines m : ℕ) (portions : List Portion) (k : ℕ) → m < most_trades → Lined h past claims lines
    → Gathered claims m portions k → LinesGathered h past m portions k
gathered_lines h past claims lines m portions k hm held g =
    record {
      many = g.many ∙ sym (trade_lines_long claims m (many_of claims m)) ∙ ap length (held.by_trade m hm);
      claims = g.claims ∙ ap claims_of (held.by_trade m hm);
      contracts = g.contracts ∙ ap customers_of (held.by_trade m hm);
    }

-- a Satisfaction Order of an accepted journal finds room under its trade
pub trade_has_a_line_left : {h : Header} {past : History} {e : Event} (claims : List ℕ) (lines m : ℕ) → Lined h past claims lines → Arrived h (e ∷ past) → h.exchanges ≤ most_exchanges → 1 ≤ h.home → h.home ≤ h.exchanges
    → e.kind ≡ satisfaction_kind → field e 0 ≡ m → m < most_trades → many_of claims m < most_trade_lines
trade_has_a_line_left {h} {past} {e} claims lines m held v few from to k names hm =
    let l : Line = line_of h (e ∷ past) past (count is_satisfaction past) e in
    let all = trade_has_at_most_two_lines_for_each_other v from to (e ∷ past) m in
    let many : many_of claims m ≡ length (of_trade m (lines_of h past past)) = sym (trade_lines_long claims m (many_of claims m)) ∙ ap length (held.by_trade m hm) in
    let with_it : of_trade m (lines_of h (e ∷ past) (e ∷ past)) ≡ of_trade m (lines_of h past past) ++ (l ∷ []) =
    ap (of_trade m) (lines_new h e past k) ∙ of_trade_more m (lines_of h past past) l
    ∙ sym (in_its_trade h (e ∷ past) past (count is_satisfaction past) e m (of_trade m (lines_of h past past)) (of_trade m (lines_of h past past) ++ (l ∷ [])) refl (eq-eqb (field e 0) m names)) in
    let one_more_lem : length (of_trade m (lines_of h (e ∷ past) (e ∷ past))) ≡ length (of_trade m (lines_of h past past)) + 1 =
    ap length with_it ∙ length-append (of_trade m (lines_of h past past)) (l ∷ []) in
    omega arith
