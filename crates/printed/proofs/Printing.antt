-- The list printed: the rows with our own sheet's lines as the tables have them, their widths added up, one written after another.
use mathlib.Core.Path.{◌≡◌, sym, ap, ◌∙◌, subst}
use mathlib.Core.List.{List, ◌++◌, map, map-map, flat_map}
use Prim.Native.Nat.{ℕ, ◌+◌, ◌-◌, ◌*◌, ◌<◌, ◌≤◌}
use native.Mathlib.Omega.{arith}
use mir.Val.{Fits}
use mir.Syntax.{w64}
use lib.ListN.{get_or, length, length-append}
use borrow.Author.Tests.{eq-eqb, ne_eqb}
use Rattle.std.specs.Prelude.{Result, Ok, Err}
use Rattle.rules.specs.Basics.{below}
use Rattle.rules.specs.Journal.{Journal, DayRecords, journal_of}
use Rattle.rules.specs.Due.{lines}
use Rattle.rules.specs.GoodSheet as sheet
use Rattle.rules.specs.OwnSheet.{SheetLine, own_fill, own_line, own_lines}
use Rattle.rules.specs.PrintedDay.{printed_line, listed, first_line, day_text}
use Rattle.rules.proofs.Below.{as_many_below, at_below, beyond_below, same_below}
use Rattle.text.specs.Lent.{Wrote, Takes, Writes}
use Rattle.rows.specs.declared.Refusal.{Refusal}
use Rattle.rows.specs.declared.Refusal.TheVariants.{OutputTooShort}
use Rattle.text.proofs.Lent.{wrote_length, wrote_none, wrote_then, writes_short, writes_all}
use Rattle.claims.specs.Lines.{line_in, lines_from}
use Rattle.claims.specs.Books.{Books, OwnFilled}
use Rattle.list.specs.Listing.{most_rows, most_text, letter_at, word_at, order_letter, row_text, text_from, DayListing}
use Rattle.list.proofs.Rows.{text_none, text_more, text_longer}
use Rattle.printed.specs.Printing.{table_line, sheet_from, shown_text, OrderShown, RowShown, Prints}
use Rattle.printed.specs.declared.Shown.{Shown}

-- ---- a row as it is printed

module _ (claims fills : List ℕ) (lines event line : ℕ) where
  pub order_beyond : lines ≤ line → OrderShown (sheet_from claims fills lines) event line (record { event = event; what = 70; a = 0; b = 0; c = 0 })
  unfolding sheet_from
  order_beyond h = record { says = rw (beyond_below (table_line claims fills) _ lines line h) }

  pub order_known : line < lines → (rest : ℕ) → rest ≡ get_or claims (line * 8 + 1) 0 - get_or fills line 0
      → OrderShown (sheet_from claims fills lines) event line (record { event = event; what = 70; a = get_or claims (line * 8 + 2) 0; b = get_or fills line 0; c = rest })
  unfolding sheet_from
  order_known h rest e = record { says = rw (at_below (table_line claims fills) _ lines line h, e) }

module _ (own : List SheetLine) (list : List ℕ) (i : ℕ) where
  pub row_order : letter_at list i ≡ order_letter → (line : ℕ) → line ≡ word_at list i 2 → (r : Shown) → OrderShown own (word_at list i 0) line r
      → RowShown own list i r
  unfolding row_text
  row_order is line e r o = record { says = rw (eq-eqb _ _ is, ← e) o.says }

  pub row_plain : (letter_at list i ≡ order_letter → ⊥)
      → RowShown own list i (record { event = word_at list i 0; what = letter_at list i; a = word_at list i 2; b = word_at list i 3; c = word_at list i 4 })
  unfolding row_text
  row_plain other = record { says = rw (ne_eqb _ _ other) }

pub ruleset shown_laws = (order_beyond, order_known, row_order, row_plain)

-- ---- widths: those of the first i rows

pub record Widths (own : List SheetLine) (list : List ℕ) (listed i width : ℕ) : Type 0 where
  pub exact : width ≡ length (text_from own list i)
  pub bound : width ≤ i * 46
  pub low : i ≤ listed

module _ (own : List SheetLine) (list : List ℕ) (listed : ℕ) where
  pub width_none : Widths own list listed 0 0
  width_none = record { exact = sym (ap length (text_none own list)); bound = omega arith; low = omega arith }

  module _ (i width : ℕ) (w : Widths own list listed i width) where
    pub width_all : listed ≤ i → listed ≤ most_rows → Takes (text_from own list listed) most_text width
    width_all h few = let e : i ≡ listed = omega (arith, w.low) in record { exact = rw e at w.exact; bound = omega (arith, w.bound) }

    module _ (h : i < listed) (s : Shown) (is : RowShown own list i s) (k : ℕ) (t : Takes (shown_text s) 46 k) where
      pub width_more : Widths own list listed (i + 1) (width + k)
      width_more =
          let e = rw length-append at (ap length (text_more own list i)) in
          record { exact = omega (arith, w.exact, t.exact, ap length is.says); bound = omega (arith, w.bound, t.bound); low = omega arith }

      pub width_fits : listed ≤ most_rows → Fits w64 (width + k)
      width_fits few = record { fits = omega (arith, w.bound, t.bound) }

pub ruleset width_laws = (width_none, width_all, width_more, width_fits)

-- ---- the first i rows are written

pub record RowsWritten (own : List SheetLine) (list : List ℕ) (listed : ℕ) (s : List ℕ) (at i : ℕ) (out : List ℕ) (next : ℕ) : Type 0 where
  pub wrote : Wrote s at (text_from own list i) out next
  pub room : at + length (text_from own list listed) ≤ length s
  pub low : i ≤ listed

module _ (own : List SheetLine) (list : List ℕ) (listed : ℕ) (s : List ℕ) (at : ℕ) where
  pub rows_none : at + length (text_from own list listed) ≤ length s → RowsWritten own list listed s at 0 s at
  rows_none h = record { wrote = rw (text_none own list) (wrote_none s at (omega arith)); room = h; low = omega arith }

  module _ (i : ℕ) (out : List ℕ) (next : ℕ) (w : RowsWritten own list listed s at i out next) where
    pub rows_length : length out ≡ length s
    rows_length = wrote_length s at _ out next w.wrote

    pub rows_all : listed ≤ i → Wrote s at (text_from own list listed) out next
    rows_all h = let e : i ≡ listed = omega (arith, w.low) in subst (λ k. Wrote s at (text_from own list k) out next) e w.wrote

    module _ (h : i < listed) (r : Shown) (is : RowShown own list i r) where
      pub row_room : next + length (shown_text r) ≤ length out
      row_room =
          let e = rw length-append at (ap length (text_more own list i)) in
          omega (arith, rows_length, w.room, w.wrote.place, ap length is.says, text_longer own list (i + 1) listed (omega arith))

      pub rows_more : (out2 : List ℕ) (next2 : ℕ) → Wrote out next (shown_text r) out2 next2 → RowsWritten own list listed s at (i + 1) out2 next2
      rows_more out2 next2 v =
          record {
            wrote =
                rw (text_more own list i, ← is.says)
                (wrote_then s at (text_from own list i) out next (shown_text r) out2 next2 w.wrote v);
            room = w.room;
            low = omega arith;
          }

pub ruleset rows_laws = (rows_none, rows_length, rows_all, row_room, rows_more)

-- ---- our own sheet is what the tables have

module _ (j : Journal) (trades claims : List ℕ) (traded n : ℕ) (fills : List ℕ) (books : Books j trades claims traded n) (own : OwnFilled j fills) where
  lines_are : lines j ≡ map (line_in claims) (below n)
  unfolding lines lines_from
  lines_are = sym books.lined.lines

  lines_many : length (lines j) ≡ n
  lines_many = ap length lines_are ∙ as_many_below (line_in claims) n

  line_is : (i : ℕ) → i < n → sheet.line_at (lines j) i ≡ line_in claims i
  line_is i h = rw lines_are (at_below (line_in claims) _ n i h)

  table_line_is : (i : ℕ) → i < n → table_line claims fills i ≡ own_line j (line_in claims i)
  unfolding own_line
  table_line_is i h =
      let e : get_or fills i 0 ≡ own_fill j (line_in claims i) = own.fill_of i (omega (arith, lines_many)) ∙ ap (own_fill j) (line_is i h) in
      rw e

  pub sheet_is : sheet_from claims fills n ≡ own_lines j
  unfolding sheet_from own_lines
  sheet_is =
      same_below (table_line claims fills) (λ i. own_line j (line_in claims i)) n table_line_is
      ∙ sym (ap (map (own_line j)) lines_are ∙ map-map (own_line j) (line_in claims) (below n))

-- ---- all of it, or 9

module _ (list : List ℕ) (n : ℕ) (claims fills : List ℕ) (lines : ℕ) (s : List ℕ) where
  abbrev whole : List ℕ
  whole = first_line ++ text_from (sheet_from claims fills lines) list n

  whole_is : (d : DayRecords) (trades : List ℕ) (traded : ℕ) → Books (journal_of d) trades claims traded lines → OwnFilled (journal_of d) fills → DayListing d list n → whole ≡ day_text d
  unfolding day_text
  whole_is d trades traded books own listing =
      ap (λ t. first_line ++ t)
      (listing.so (sheet_from claims fills lines) ∙ ap (λ l. flat_map printed_line (listed d.header l d.records)) (sheet_is (journal_of d) trades claims traded lines fills books own))

  written_prints : (r : Result ℕ Refusal) (after : List ℕ) → Writes s whole r after → Prints list n claims fills lines s r after
  written_prints r after w =
      record {
        so = λ d trades traded books own listing.
            let v = subst (λ t. Writes s t r after) (whole_is d trades traded books own listing) w in (v.answer, v.lent);
      }

  module _ (first rest : ℕ) (a : Takes first_line 17 first) (b : Takes (text_from (sheet_from claims fills lines) list n) most_text rest) where
    whole_width : first + rest ≡ length whole
    whole_width = rw length-append (omega (arith, a.exact, b.exact))

    pub print_short : length s < first + rest → Prints list n claims fills lines s (Err OutputTooShort) s
    print_short h = written_prints (Err OutputTooShort) s (writes_short s whole (first + rest) whole_width h)

    module _ (h : first + rest ≤ length s) where
      pub print_first_room : 0 + length first_line ≤ length s
      print_first_room = omega (arith, a.exact)

      module _ (d : List ℕ) (p : ℕ) (w : Wrote s 0 first_line d p) where
        pub print_rows_room : p + length (text_from (sheet_from claims fills lines) list n) ≤ length d
        print_rows_room = omega (arith, a.exact, b.exact, w.place, wrote_length s 0 first_line d p w)

  pub print_all : (d : List ℕ) (p : ℕ) → Wrote s 0 first_line d p → (e : List ℕ) (q : ℕ) → Wrote d p (text_from (sheet_from claims fills lines) list n) e q
      → Prints list n claims fills lines s (Ok q) e
  print_all d p w e q v = written_prints (Ok q) e (writes_all s whole e q (wrote_then s 0 first_line d p _ e q w v))

  pub print_length : (d : List ℕ) (p : ℕ) → Wrote s 0 first_line d p → (t e : List ℕ) (q : ℕ) → Wrote d p t e q → length e ≡ length s
  print_length d p w t e q v = wrote_length d p t e q v ∙ wrote_length s 0 first_line d p w

pub ruleset print_laws = (print_short, print_first_room, print_rows_room, print_all, print_length)
