-- The bytes of our own sheet: one line more, all lines, and that they are the journal's own sheet.
use mathlib.Core.Path.{◌≡◌, refl, sym, ap, ◌∙◌, subst}
use mathlib.Core.List.{List, [], ◌∷◌, ◌++◌, map, flat_map, map-map}
use Prim.Native.Nat.{ℕ, zero, suc, ◌+◌, ◌-◌, ◌*◌, ◌<◌, ◌≤◌}
use native.Mathlib.Omega.{arith}
use mir.Val.{Fits}
use mir.Syntax.{w64}
use lib.ListN.{get_or, length, take, replicate, length-append, length-replicate}
use Rattle.rules.specs.Basics.{below, sum}
use Rattle.rules.specs.Limits.{most_trades, most_satisfaction_orders}
use Rattle.rules.specs.Number.{largest, bytes_of, bytes_of_all}
use Rattle.rules.specs.Journal.{Journal}
use Rattle.rules.specs.Due.{Line, lines, of_trade, claims_of}
use Rattle.rules.specs.OwnSheet.{line_bytes, sheet_bytes, own_shares, own_fill, own_line, own_lines, own_sheet}
use Rattle.rules.specs.SheetCheck.{fills_of}
use Rattle.rules.specs.GoodSheet.{line_at}
use Rattle.rules.proofs.Tests.{by_place, flat_more}
use Rattle.rules.proofs.Below.{one_more_below, at_below, same_below, fewer_no_longer}
use Rattle.rules.proofs.Lines.{LineKnown, lines_count, due_at_most_claims}
use Rattle.rules.proofs.OwnSheet.{known_total_is_due}
use Rattle.rules.proofs.ByTrade.{line_among_its_trade, own_fill_at}
use Rattle.number.specs.Writing.{left_by, left_at, write_number}
use Rattle.std.specs.Prelude.{Result, Ok, Err}
use Rattle.std.specs.Result.{result_unwrap_or}
use Rattle.rows.specs.declared.Refusal.{Refusal}
use Rattle.rows.specs.declared.Refusal.TheVariants.{OutputTooShort}
use Rattle.text.specs.Lent.{Wrote, Takes}
use Rattle.text.proofs.Lent.{wrote_none, wrote_then, writes_short, writes_all}
use Rattle.several.specs.Numbers.{Small}
use Rattle.several.proofs.Rows.{number_put, bytes_of_more}
use Rattle.claims.specs.Lines as table
use Rattle.claims.specs.Lines.{lines_from, Filing}
use Rattle.claims.specs.Books.{Books, OwnFilled}
use Rattle.sheet.proofs.OwnFills.{known_in_books}
use Rattle.sheet.specs.Tables.{OwnFills}
use Rattle.sheet.specs.Written.{says_at, three_at, bytes_to, Stores, Summing, PutsNumber, PutsLine, PutsLines, Putting, OwnWritten}

-- ---- one line more

module _ (claims fills : List ℕ) where
  bytes_none : bytes_to claims fills 0 ≡ []
  unfolding bytes_to below sheet_bytes flat_map
  bytes_none = refl

  pub bytes_more : (i : ℕ) → bytes_to claims fills (i + 1) ≡ bytes_to claims fills i ++ bytes_of_all (take 3 (three_at claims fills i))
  unfolding bytes_to sheet_bytes line_bytes
  bytes_more i = ap sheet_bytes (one_more_below (says_at claims fills) i) ∙ flat_more line_bytes (map (says_at claims fills) (below i)) (says_at claims fills i)

  bytes_grow : (i lines : ℕ) → i ≤ lines → length (bytes_to claims fills i) ≤ length (bytes_to claims fills lines)
  bytes_grow i lines h = fewer_no_longer (bytes_to claims fills) (λ k. bytes_of_all (take 3 (three_at claims fills k))) lines (λ k l. bytes_more k) i h

  -- ---- how many bytes

  module _ (lines : ℕ) where
    pub summing_none : Summing claims fills lines 0 0
    summing_none = record { is = ap length (sym bytes_none); small = omega arith; low = omega arith }

    module _ (sum i : ℕ) (s : Summing claims fills lines sum i) where
      pub summed_all : lines ≤ i → Takes (bytes_to claims fills lines) (lines * 12) sum
      summed_all h =
          let e : i ≡ lines = omega (arith, s.low) in
          record { exact = subst (λ x. sum ≡ length (bytes_to claims fills x)) e s.is; bound = omega (arith, s.small) }

      module _ (h : i < lines) where
        pub line_known : lines ≤ most_satisfaction_orders → i < most_satisfaction_orders
        line_known few = omega arith

        module _ (row : List ℕ) (is : row ≡ three_at claims fills i) where
          pub three_there : 3 ≤ length row
          three_there = rw is (omega arith)

          module _ (w : ℕ) (t : Takes (bytes_of_all (take 3 row)) 12 w) where
            pub summing_fits : lines ≤ most_satisfaction_orders → Fits w64 (sum + w)
            summing_fits few = record { fits = omega (arith, s.small, t.bound) }

            pub summing_more : Summing claims fills lines (sum + w) (i + 1)
            summing_more =
                record {
                  is = omega (arith, s.is, t.exact, ap (λ (l : List ℕ). length (bytes_of_all (take 3 l))) is, ap length (bytes_more i), length-append (bytes_to claims fills i) (bytes_of_all (take 3 (three_at claims fills i))));
                  small = omega (arith, s.small, t.bound);
                  low = omega arith;
                }

pub ruleset width_laws = (summing_none, summed_all, line_known, three_there, summing_fits, summing_more)

-- ---- a number, and a line of three

pub puts_number : (s : List ℕ) (at x : ℕ) (r : Result ℕ Refusal) (d : List ℕ) → left_by r d ≡ left_at at (write_number x (length s - at)) s → length d ≡ length s → (n : ℕ) → n ≡ result_unwrap_or r at
    → PutsNumber s at x d n
puts_number s at x r d e long n g = record { so = λ h room. number_put s at x h room r d e n g; long = long }

module _ (s : List ℕ) (at : ℕ) (row d1 : List ℕ) (p1 : ℕ) (a : PutsNumber s at (get_or row 0 0) d1 p1) (d2 : List ℕ) (p2 : ℕ) (b : PutsNumber d1 p1 (get_or row 1 0) d2 p2)
    (d3 : List ℕ) (p3 : ℕ) (c : PutsNumber d2 p2 (get_or row 2 0) d3 p3) where
  pub puts_line : PutsLine s at row d3 p3
  puts_line = record { so = λ small room. whole small room; long = c.long ∙ b.long ∙ a.long }
    where
      none : bytes_of_all (take 0 row) ≡ []
      none = unfold bytes_of_all flat_map in refl

      whole : Small row 3 → at + length (bytes_of_all (take 3 row)) ≤ length s → Wrote s at (bytes_of_all (take 3 row)) d3 p3
      whole small room =
          let b1 : bytes_of_all (take 1 row) ≡ bytes_of (get_or row 0 0) = bytes_of_more row 0 (omega (arith, small.there)) ∙ ap (λ (l : List ℕ). l ++ bytes_of (get_or row 0 0)) none in
          let b2 : bytes_of_all (take 2 row) ≡ bytes_of_all (take 1 row) ++ bytes_of (get_or row 1 0) = bytes_of_more row 1 (omega (arith, small.there)) in
          let b3 : bytes_of_all (take 3 row) ≡ bytes_of_all (take 2 row) ++ bytes_of (get_or row 2 0) = bytes_of_more row 2 (omega (arith, small.there)) in
          let l2 = ap length b2 ∙ length-append (bytes_of_all (take 1 row)) (bytes_of (get_or row 1 0)) in
          let l3 = ap length b3 ∙ length-append (bytes_of_all (take 2 row)) (bytes_of (get_or row 2 0)) in
          let w1 : Wrote s at (bytes_of_all (take 1 row)) d1 p1 = rw b1 (a.so (small.storable 0 (omega arith)) (omega (arith, l2, l3, ap length b1))) in
          let w2 = b.so (small.storable 1 (omega arith)) (omega (arith, l2, l3, w1.place, a.long)) in
          let w12 : Wrote s at (bytes_of_all (take 2 row)) d2 p2 = rw b2 (wrote_then s at (bytes_of_all (take 1 row)) d1 p1 (bytes_of (get_or row 1 0)) d2 p2 w1 w2) in
          let w3 = c.so (small.storable 2 (omega arith)) (omega (arith, l3, w12.place, b.long, a.long)) in
          rw b3 (wrote_then s at (bytes_of_all (take 2 row)) d2 p2 (bytes_of (get_or row 2 0)) d3 p3 w12 w3)

-- ---- line after line

module _ (s claims fills : List ℕ) (lines : ℕ) where
  pub putting_none : Putting s claims fills lines s 0 0
  putting_none = record { so = λ stores room. rw (bytes_none claims fills) (wrote_none s 0 (omega arith)); long = refl; low = omega arith }

  module _ (out : List ℕ) (p i : ℕ) (w : Putting s claims fills lines out p i) where
    pub putting_long : length out ≡ length s
    putting_long = w.long

    pub putting_all : lines ≤ i → PutsLines s claims fills lines out p
    putting_all h =
        let e : i ≡ lines = omega (arith, w.low) in
        record { so = λ stores room. subst (λ x. Wrote s 0 (bytes_to claims fills x) out p) e (w.so stores room); long = w.long }

    module _ (h : i < lines) where
      pub line_here : lines ≤ most_satisfaction_orders → i < most_satisfaction_orders
      line_here few = omega arith

      pub putting_more : (row : List ℕ) → row ≡ three_at claims fills i → (out2 : List ℕ) (q : ℕ) → PutsLine out p row out2 q → Putting s claims fills lines out2 q (i + 1)
      putting_more row is out2 q v = record { so = λ stores room. more stores room (w.so stores room); long = v.long ∙ w.long; low = omega arith }
        where
          more : Stores claims fills lines → length (bytes_to claims fills lines) ≤ length s → Wrote s 0 (bytes_to claims fills i) out p → Wrote s 0 (bytes_to claims fills (i + 1)) out2 q
          more stores room w1 =
              let next = bytes_more claims fills i in
              let long = ap length next ∙ length-append (bytes_to claims fills i) (bytes_of_all (take 3 (three_at claims fills i))) in
              let v1 : PutsLine out p (three_at claims fills i) out2 q = subst (λ l. PutsLine out p l out2 q) is v in
              let w2 = v1.so (stores i h) (omega (arith, long, bytes_grow claims fills (i + 1) lines (omega arith), w1.place, w.long)) in
              rw next (wrote_then s 0 (bytes_to claims fills i) out p (bytes_of_all (take 3 (three_at claims fills i))) out2 q w1 w2)

pub ruleset put_laws = (puts_number, puts_line, putting_none, putting_long, putting_all, line_here, putting_more)

-- ---- they are the journal's own sheet

line_from : (claims : List ℕ) (n i : ℕ) → i < n → line_at (lines_from claims n) i ≡ table.line_in claims i
unfolding lines_from
line_from claims n i h = at_below (table.line_in claims) _ n i h

at_most_sum : (l : List ℕ) (i : ℕ) → get_or l i 0 ≤ sum l
unfolding sum
at_most_sum [] i = omega arith
at_most_sum (x ∷ l) zero = omega arith
at_most_sum (x ∷ l) (suc i) = omega (arith, at_most_sum l i)

module _ (j : Journal) (trades claims : List ℕ) (traded n : ℕ) (b : Books j trades claims traded n) where
  lines_are : lines_from claims n ≡ lines j
  unfolding lines
  lines_are = b.lined.lines

  lines_below : map (table.line_in claims) (below n) ≡ lines j
  unfolding lines_from
  lines_below = lines_are

  many_lines : n ≡ length (lines j)
  unfolding lines
  many_lines = b.lined.numbered ∙ sym (lines_count j.header j.history j.history)

  line_is : (i : ℕ) → i < n → line_at (lines j) i ≡ table.line_in claims i
  line_is i h = ap (λ (ls : List Line). line_at ls i) (sym lines_are) ∙ line_from claims n i h

  module _ (fills : List ℕ) (o : OwnFilled j fills) where
    says_own : (i : ℕ) → i < n → says_at claims fills i ≡ own_line j (table.line_in claims i)
    unfolding own_line
    says_own i h = rw (o.fill_of i (omega (arith, many_lines)), line_is i h)

    pub own_bytes : bytes_to claims fills n ≡ own_sheet j
    unfolding bytes_to own_sheet own_lines
    own_bytes = ap sheet_bytes (same_below (says_at claims fills) (λ i. own_line j (table.line_in claims i)) n says_own ∙ from)
      where
        from : map (λ i. own_line j (table.line_in claims i)) (below n) ≡ map (own_line j) (lines j)
        from = sym (map-map (own_line j) (table.line_in claims) (below n)) ∙ ap (map (own_line j)) lines_below

    module _ (few : traded ≤ most_trades) where
      claims_small : (m : ℕ) → m < most_trades → sum (claims_of (of_trade m (lines j))) ≤ largest
      unfolding lines
      claims_small m h = omega (arith, b.lined.sums m h, b.filing.small m h, b.filing.few)

      known_at : (i : ℕ) → i < n → LineKnown j.header j.history (line_at (lines j) i)
      known_at i h = by_place (LineKnown j.header j.history) _ (lines j) (known_in_books j trades claims traded n b) i (omega (arith, many_lines))

      -- no fill is above what its trade is due
      fill_small : (i : ℕ) → i < n → own_fill j (line_at (lines j) i) ≤ largest
      fill_small i h =
          let m : ℕ = (line_at (lines j) i).trade in
          let p = line_among_its_trade (lines j) i (omega (arith, many_lines)) in
          let low : m < most_trades = omega (arith, (known_at i h).of_a_trade, b.traded.numbered) in
          let at = own_fill_at j m p.place p.low (ap (λ (x : Line). x.trade) p.is) in
          let same : own_fill j (line_at (of_trade m (lines j)) p.place) ≡ own_fill j (line_at (lines j) i) = ap (own_fill j) p.is in
          omega (arith, at, same, at_most_sum (fills_of (own_shares j m)) p.place, known_total_is_due j (known_in_books j trades claims traded n b) m, due_at_most_claims j m, claims_small m low)

      -- every number of our own sheet can be stored
      own_stores : Stores claims fills n
      own_stores i h = record { there = omega arith; few = omega arith; storable = each }
        where
          each : (x : ℕ) → x < 3 → get_or (three_at claims fills i) x 0 ≤ largest
          each zero hx = let e = ap (λ (l : Line). l.reason) (line_is i h) in omega (arith, e, (known_at i h).reason_fits)
          each (suc zero) hx = omega (arith, o.fill_of i (omega (arith, many_lines)), fill_small i h)
          each (suc (suc zero)) hx = let e = ap (λ (l : Line). l.size) (line_is i h) in omega (arith, e, (known_at i h).size_fits)
          each (suc (suc (suc x))) hx = absurd (omega arith)

-- ---- our own sheet, or 9

module _ (claims trades : List ℕ) (traded lines : ℕ) (asked : (traded ≤ most_trades) × Filing claims lines) where
  pub lines_few : lines ≤ most_satisfaction_orders
  lines_few = asked.1.few

  module _ (fills : List ℕ) (own : OwnFills claims trades traded lines (replicate most_satisfaction_orders 0) fills) (out : List ℕ) (w : ℕ) (t : Takes (bytes_to claims fills lines) (lines * 12) w) where
    filled : (j : Journal) → Books j trades claims traded lines → OwnFilled j fills
    filled j b = own.so j b (length-replicate {A = ℕ} most_satisfaction_orders 0)

    bytes : (j : Journal) → Books j trades claims traded lines → bytes_to claims fills lines ≡ own_sheet j
    bytes j b = own_bytes j trades claims traded lines b fills (filled j b)

    pub own_short : length out < w → OwnWritten claims trades traded lines out (Err OutputTooShort) out
    own_short h = record { so = λ j b. let v = writes_short out (own_sheet j) w (t.exact ∙ ap length (bytes j b)) h in (v.answer, v.lent) }

    pub own_written : w ≤ length out → (d : List ℕ) (p : ℕ) → PutsLines out claims fills lines d p → OwnWritten claims trades traded lines out (Ok p) d
    own_written h d p v =
        record {
          so =
              λ j b.
              let all = v.so (own_stores j trades claims traded lines b fills (filled j b) asked.0) (omega (arith, t.exact)) in
              let r = writes_all out (own_sheet j) d p (subst (λ x. Wrote out 0 x d p) (bytes j b) all) in
              (r.answer, r.lent);
        }

pub ruleset write_laws = (lines_few, own_short, own_written)
