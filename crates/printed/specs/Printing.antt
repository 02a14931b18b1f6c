-- The list printed: its rows beside our own sheet, as the tables of lines and of fills have it.
use Rattle.std.specs.Prelude.{◌≡◌, Result, List, map, ℕ, ◌+◌, ◌-◌, ◌*◌, get_or, length}
use Rattle.rules.specs.Basics.{below}
use Rattle.rules.specs.Journal.{DayRecords, journal_of}
use Rattle.rules.specs.OwnSheet.{SheetLine}
use Rattle.rules.specs.GoodSheet.{said_at}
use Rattle.rules.specs.PrintedDay.{day_text}
use Rattle.rules.specs.Writing.{into, lent_after}
use Rattle.text.specs.Lent.{as_answer, counted}
use Rattle.text.specs.Lines.{line_of}
use Rattle.rows.specs.declared.Refusal.{Refusal}
use Rattle.claims.specs.Books.{Books, OwnFilled}
use Rattle.list.specs.Listing.{order_text, row_text, DayListing}
use Rattle.printed.specs.declared.Shown.{Shown}

-- ---- our own sheet

abbrev pub table_line : List ℕ → List ℕ → ℕ → SheetLine
table_line claims fills k =
    record { reason = get_or claims (k * 8 + 2) 0; filled = get_or fills k 0; cancelled = get_or claims (k * 8 + 1) 0 - get_or fills k 0 }

unfoldable pub sheet_from : List ℕ → List ℕ → ℕ → List SheetLine
sheet_from claims fills lines = map (table_line claims fills) (below lines)

-- ---- the list printed

abbrev pub shown_text : Shown → List ℕ
shown_text s = line_of s.event s.what s.a s.b s.c

pub record OrderShown (own : List SheetLine) (event line : ℕ) (r : Shown) : Type 0 where
  pub says : shown_text r ≡ order_text event (said_at own line)

pub record RowShown (own : List SheetLine) (list : List ℕ) (i : ℕ) (r : Shown) : Type 0 where
  pub says : shown_text r ≡ row_text own list i

pub record Prints (list : List ℕ) (listed : ℕ) (claims fills : List ℕ) (lines : ℕ) (before : List ℕ) (r : Result ℕ Refusal) (after : List ℕ) : Type 0 where
  pub so : (d : DayRecords) (trades : List ℕ) (traded : ℕ) → Books (journal_of d) trades claims traded lines → OwnFilled (journal_of d) fills → DayListing d list listed
      → (as_answer r ≡ counted (into (length before) (day_text d))) × (after ≡ lent_after (into (length before) (day_text d)) before)
