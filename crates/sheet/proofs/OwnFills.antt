-- Our own fills: each trade's due total is shared out among its lines, and every line keeps what it got.
use mathlib.Core.Path.{◌≡◌, refl, sym, ap, ◌∙◌, subst}
use mathlib.Core.List.{List, map, Memᴰ}
use Prim.Native.Nat.{ℕ, ◌+◌, ◌-◌, ◌<◌, ◌≤◌}
use native.Mathlib.Omega.{arith}
use lib.Dec.{eqb}
use lib.ListN.{get_or, length, take, set, length-set, get_or-map}
use lib.Seq.{length-take-le, get_or-set_same, get_or-set_other}
use borrow.Author.Tests.{eqb-true, eqb-false}
use Rattle.rules.specs.Limits.{most_trades, most_satisfaction_orders, most_trade_lines}
use Rattle.rules.specs.Journal.{Journal}
use Rattle.rules.specs.Due.{Line, lines, of_trade, due}
use Rattle.rules.specs.OwnSheet.{own_shares, own_fill, give, empty}
use Rattle.rules.specs.SheetCheck.{fills_of}
use Rattle.rules.specs.GoodSheet.{line_at}
use Rattle.rules.proofs.Tests.{by_test, keep_sub, by_place}
use Rattle.rules.proofs.Below.{at_below}
use Rattle.rules.proofs.Lines.{LineKnown, lines_known}
use Rattle.rules.proofs.ByTrade.{lines_numbered_from_0, line_among_its_trade, trade_line_among_all, trade_lines_differ, own_fill_at}
use Rattle.fairness.specs.Lines.{fills_in, Lined, filled_at, nothing}
use Rattle.fairness.specs.declared.Portion.{Portion}
use Rattle.fairness.proofs.Lines.{known_line_sound}
use Rattle.sharing.specs.Turns.{SharedOut}
use Rattle.claims.specs.Lines as table
use Rattle.claims.specs.Lines.{number_at, many_of, trade_lines, Filing, Findable, NumberIs, Gathered, DueIs}
use Rattle.claims.specs.Books.{Books}
use Rattle.claims.proofs.TradeLines.{trade_findable, gathered_lines, trade_lines_long}
use Rattle.sheet.specs.Tables.{Apart, Scattered, Scattering, FilledBelow, FillsTrade, Filling, OwnFills}

-- ---- a trade's fills, each to the word of its line

module _ (claims : List ℕ) (m : ℕ) (portions : List Portion) (fills : List ℕ) where
  pub scattered_none : Scattering claims m portions fills fills 0
  scattered_none =
      record {
        done = record { own = λ l a y h. absurd (omega arith); others = λ p ne. refl; long = refl };
        low = omega arith;
      }

  module _ (fills2 : List ℕ) (i : ℕ) (s : Scattering claims m portions fills fills2 i) where
    pub scattered_all : length portions ≤ i → Scattered claims m portions fills fills2 (length portions)
    scattered_all h = let e : i ≡ length portions = omega (arith, s.low) in subst (Scattered claims m portions fills fills2) e s.done

    module _ (h : i < length portions) where
      pub line_there : length portions ≤ many_of claims m → i < many_of claims m
      line_there a = omega arith

      pub scattered_more : (p : ℕ) → NumberIs claims m i p → Scattering claims m portions fills (set fills2 p (filled_at portions i)) (i + 1)
      scattered_more p is =
          record {
            done =
                record {
                  own = own;
                  others = λ q ne. get_or-set_other fills2 p q (filled_at portions i) 0 (λ z. ne i (omega arith) (z ∙ is.is)) ∙ s.done.others q (λ y hy. ne y (omega arith));
                  long = simp length-set s.done.long;
                };
            low = omega arith;
          }
        where
          own : length fills ≡ most_satisfaction_orders → Apart claims m (i + 1) → (y : ℕ) → y < i + 1 → get_or (set fills2 p (filled_at portions i)) (number_at claims m y) 0 ≡ filled_at portions y
          own long apart y hy =
              by_test (eqb y i)
              (λ q. let e = eqb-true y i q in
              rw e (ap (λ (x : ℕ). get_or (set fills2 p (filled_at portions i)) x 0) (sym is.is) ∙ get_or-set_same fills2 p (filled_at portions i) 0 (omega (arith, is.low, s.done.long))))
              (λ q. let ne = eqb-false y i q in
              get_or-set_other fills2 p (number_at claims m y) (filled_at portions i) 0 (λ z. ne (apart y i hy (omega arith) (z ∙ is.is)))
              ∙ s.done.own long (λ a b ha hb. apart a b (omega arith) (omega arith)) y (omega (arith, ne)))

pub ruleset scatter_laws = (scattered_none, scattered_all, line_there, scattered_more)

-- ---- what the tables of a whole journal say of one trade's lines

trade_line_at : (claims : List ℕ) (m k y : ℕ) → y < k → line_at (trade_lines claims m k) y ≡ table.line_in claims (number_at claims m y)
unfolding trade_lines
trade_line_at claims m k y h = at_below (λ i. table.line_in claims (number_at claims m i)) _ k y h

module _ (j : Journal) (trades claims : List ℕ) (traded n : ℕ) (b : Books j trades claims traded n) where
  pub known_in_books : (l : Line) → Memᴰ l (lines j) → LineKnown j.header j.history l
  unfolding lines
  known_in_books l m = lines_known b.arrived j.history l m

  module _ (m : ℕ) (hm : m < most_trades) where
    by_trade_lem : trade_lines claims m (many_of claims m) ≡ of_trade m (lines j)
    unfolding lines
    by_trade_lem = b.lined.by_trade m hm

    many_lines : many_of claims m ≡ length (of_trade m (lines j))
    many_lines = sym (trade_lines_long claims m (many_of claims m)) ∙ ap length by_trade_lem

    numbers_are : (y : ℕ) → y < many_of claims m → (line_at (of_trade m (lines j)) y).number ≡ number_at claims m y
    numbers_are y h = ap (λ (ls : List Line). (line_at ls y).number) (sym by_trade_lem) ∙ ap (λ (l : Line). l.number) (trade_line_at claims m (many_of claims m) y h)

    numbers_apart : Apart claims m (many_of claims m)
    numbers_apart x y hx hy e =
        trade_lines_differ m 0 (lines j) (lines_numbered_from_0 j) x y (omega (arith, many_lines)) (omega (arith, many_lines))
        (numbers_are x hx ∙ e ∙ sym (numbers_are y hy))

    -- the line with a number of the trade is of the trade
    trade_of_number : (i y : ℕ) → y < many_of claims m → i ≡ number_at claims m y → (line_at (lines j) i).trade ≡ m
    trade_of_number i y hy e =
        let t = trade_line_among_all m 0 (lines j) (lines_numbered_from_0 j) y (omega (arith, many_lines)) in
        let z : (line_at (of_trade m (lines j)) y).number - 0 ≡ i = omega (arith, e, numbers_are y hy) in
        ap (λ (x : ℕ). (line_at (lines j) x).trade) (sym z) ∙ ap (λ (l : Line). l.trade) t.is ∙ t.of_trade_lem

    side_by_side : (portions : List Portion) (k : ℕ) → Gathered claims m portions k → Lined (of_trade m (lines j)) (take k portions)
    unfolding lines
    side_by_side portions k g =
        let ls = gathered_lines j.header j.history claims n m portions k hm b.lined g in
        record {
          claims = ls.claims;
          customer_contracts = ls.contracts;
          sound = λ l mem. known_line_sound j.header j.history l (known_in_books l (unfold of_trade in keep_sub _ (lines j) l mem));
        }

-- ---- one trade

module _ (claims trades : List ℕ) (m : ℕ) (f : Findable claims m) where
  pub trade_low : m < most_trades
  trade_low = f.trade

  module _ (portions : List Portion) (k : ℕ) (g : Gathered claims m portions k) where
    pub gathered_few : k ≤ most_trade_lines
    gathered_few = g.few

    pub gathered_many : k ≤ many_of claims m
    gathered_many = omega (arith, g.many)

    module _ (fills : List ℕ) (d : ℕ) (is : DueIs claims trades m d) (w : ℕ) (wide : w ≡ d)
        (shared : List Portion) (s : SharedOut w (take k portions) shared) (fills2 : List ℕ) (sc : Scattered claims m shared fills fills2 (length shared)) where
      shared_many : length shared ≡ k
      shared_many = s.long ∙ length-take-le k portions (omega (arith, g.few, g.long))

      module _ (j : Journal) (traded n : ℕ) (b : Books j trades claims traded n) (hm : m < traded) where
        due_total : w ≡ due j m
        due_total = wide ∙ is.so j.header j.history b.snaps traded n hm f.trade b.traded b.lined

        shares : fills_in shared ≡ fills_of (own_shares j m)
        shares =
            s.shares (of_trade m (lines j)) (side_by_side j trades claims traded n b m f.trade portions k g)
            ∙ (unfold own_shares in ap (λ (x : ℕ). fills_of (give x (map empty (of_trade m (lines j))))) due_total)

        filled_here : length fills ≡ most_satisfaction_orders → (i : ℕ) → i < length (lines j) → (line_at (lines j) i).trade ≡ m → get_or fills2 i 0 ≡ own_fill j (line_at (lines j) i)
        filled_here l i hi of =
            let p = line_among_its_trade (lines j) i hi in
            let low : p.place < length (of_trade m (lines j)) = subst (λ x. p.place < length (of_trade x (lines j))) of p.low in
            let same : line_at (of_trade m (lines j)) p.place ≡ line_at (lines j) i = subst (λ x. line_at (of_trade x (lines j)) p.place ≡ line_at (lines j) i) of p.is in
            let hp : p.place < many_of claims m = omega (arith, many_lines j trades claims traded n b m f.trade) in
            let hk : p.place < length shared = omega (arith, g.many, shared_many) in
            let number : number_at claims m p.place ≡ i =
            sym (numbers_are j trades claims traded n b m f.trade p.place hp) ∙ ap (λ (x : Line). x.number) same ∙ lines_numbered_from_0 j i hi ∙ omega arith in
            let apart : Apart claims m (length shared) = subst (Apart claims m) (sym (shared_many ∙ g.many)) (numbers_apart j trades claims traded n b m f.trade) in
            ap (λ (x : ℕ). get_or fills2 x 0) (sym number)
            ∙ sc.own l apart p.place hk
            ∙ sym (get_or-map (λ (x : Portion). x.filled) shared p.place nothing)
            ∙ ap (λ (x : List ℕ). get_or x p.place 0) shares
            ∙ sym (own_fill_at j m p.place low (ap (λ (x : Line). x.trade) same ∙ of))
            ∙ ap (own_fill j) same

        filled_next : length fills ≡ most_satisfaction_orders → FilledBelow j m fills → FilledBelow j (m + 1) fills2
        filled_next l old =
            record {
              fill_of =
                  λ i hi below. by_test (eqb (line_at (lines j) i).trade m)
                  (λ q. filled_here l i hi (eqb-true (line_at (lines j) i).trade m q))
                  (λ q. let ne = eqb-false (line_at (lines j) i).trade m q in
                  sc.others i (λ y hy e. ne (trade_of_number j trades claims traded n b m f.trade i y (omega (arith, g.many, shared_many)) e)) ∙ old.fill_of i hi (omega arith));
            }

      pub trade_filled : FillsTrade claims trades m fills fills2
      trade_filled = record { so = filled_next; long = sc.long }

-- ---- every trade

module _ (claims trades : List ℕ) (traded n : ℕ) (fills : List ℕ) where
  pub filling_none : Filling claims trades traded n fills fills 0
  filling_none = record { so = λ j b l. record { fill_of = λ i hi below. absurd (omega arith) }; long = refl; low = omega arith }

  module _ (fills2 : List ℕ) (m : ℕ) (f : Filling claims trades traded n fills fills2 m) where
    pub filling_all : traded ≤ m → OwnFills claims trades traded n fills fills2
    filling_all h = record { so = λ j b l. record { fill_of = λ i hi. (f.so j b l).fill_of i hi (known j b i hi); long = f.long ∙ l } }
      where
        known : (j : Journal) → Books j trades claims traded n → (i : ℕ) → i < length (lines j) → (line_at (lines j) i).trade < m
        known j b i hi =
            let k : LineKnown j.header j.history (line_at (lines j) i) = by_place (LineKnown j.header j.history) _ (lines j) (known_in_books j trades claims traded n b) i hi in
            omega (arith, k.of_a_trade, b.traded.numbered)

    module _ (h : m < traded) where
      pub trade_findable_here : (traded ≤ most_trades) × Filing claims n → Findable claims m
      trade_findable_here r = trade_findable claims n m r.1 (omega (arith, r.0))

      pub filling_more : (fills3 : List ℕ) → FillsTrade claims trades m fills2 fills3 → Filling claims trades traded n fills fills3 (m + 1)
      filling_more fills3 step =
          record {
            so = λ j b l. step.so j traded n b h (f.long ∙ l) (f.so j b l);
            long = step.long ∙ f.long;
            low = omega arith;
          }

pub ruleset fill_laws = (trade_low, gathered_few, gathered_many, trade_filled, filling_none, filling_all, trade_findable_here, filling_more)
