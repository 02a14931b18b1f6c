-- The day's list as rows: five words for each line that will be printed, its event, its letter as a byte, a, b and c.
-- Of a Satisfaction Order a is the number of its line: what stands there in our own sheet is looked up when the list is printed.
use Rattle.std.specs.Prelude.{◌≡◌, ℕ, ◌+◌, ◌*◌, ◌%◌, ◌<◌, ◌≤◌, get_or, length, if◌then◌else◌, ◌==◌}
use mathlib.Core.List.{List, ◌∷◌, ◌++◌, flat_map}
use Rattle.rules.specs.Basics.{below}
use Rattle.rules.specs.Header.{Header}
use Rattle.rules.specs.Record.{Event, is_trade, is_sent, is_satisfaction}
use Rattle.rules.specs.Journal.{History, happened, DayRecords, count}
use Rattle.rules.specs.OwnSheet.{SheetLine}
use Rattle.rules.specs.GoodSheet.{said_at}
use Rattle.rules.specs.PrintedDay.{Printed, printed_line, judged, settled, listed}
use Rattle.rules.proofs.Records.{InRange}
use Rattle.rules.proofs.Journals.{numbers_in}
use Rattle.rows.specs.Rows.{Reads}
use Rattle.rows.specs.declared.Rec.{Rec}
use Rattle.text.specs.Lines.{line_of}
use Rattle.quotes.specs.Tables.{Quoted, Statuses}
use Rattle.orders.specs.Orders.{Heads}
use Rattle.periods.specs.Periods.{Periods, Tidy}
use Rattle.market.specs.Judged.{judged_as}
use Rattle.market.specs.declared.Judged.{Judged}

-- no journal has more records: each is two numbers at least, and no number takes less than a byte
abbrev pub most_records : ℕ
most_records = 16_384

-- no journal has as many lines: each is told by an event that is stored as six numbers at least
abbrev pub most_rows : ℕ
most_rows = 5_462

-- the words of a list with room for them
abbrev pub list_words : ℕ
list_words = 27_310

-- the most that so many rows take as text: 46 bytes each
abbrev pub most_text : ℕ
most_text = 251_252

-- ---- rows as text

abbrev pub word_at : List ℕ → ℕ → ℕ → ℕ
word_at list i k = get_or list (i * 5 + k) 0

abbrev pub letter_at : List ℕ → ℕ → ℕ
letter_at list i = word_at list i 1 % 256

-- F
abbrev pub order_letter : ℕ
order_letter = 70

abbrev pub order_text : ℕ → SheetLine → List ℕ
order_text event s = line_of event order_letter s.reason s.filled s.cancelled

-- row i, where this is our own sheet
unfoldable pub row_text : List SheetLine → List ℕ → ℕ → List ℕ
row_text own list i =
    if letter_at list i == order_letter then order_text (word_at list i 0) (said_at own (word_at list i 2))
    else line_of (word_at list i 0) (letter_at list i) (word_at list i 2) (word_at list i 3) (word_at list i 4)

-- that many rows
unfoldable pub text_from : List SheetLine → List ℕ → ℕ → List ℕ
text_from own list listed = flat_map (row_text own list) (below listed)

-- ---- the list beside the history: whatever our own sheet will be, its rows are the lines that are printed so far

pub record Listing (lines : List SheetLine → List Printed) (past : History) (list : List ℕ) (listed : ℕ) : Type 0 where
  pub so : (own : List SheetLine) → text_from own list listed ≡ flat_map printed_line (lines own)
  -- a line is told by an event that is stored as six numbers at least
  pub few : listed * 6 ≤ numbers_in past

-- all lines of a day's records
abbrev pub DayListing : DayRecords → List ℕ → ℕ → Type 0
DayListing d list n = Listing (λ own. listed d.header own d.records) (happened d.records) list n

-- ---- one row more

pub record RowPut (list : List ℕ) (listed event what a b c : ℕ) (list2 : List ℕ) (listed2 : ℕ) : Type 0 where
  pub event_word : word_at list2 listed 0 ≡ event
  pub what_word : word_at list2 listed 1 ≡ what
  pub a_word : word_at list2 listed 2 ≡ a
  pub b_word : word_at list2 listed 3 ≡ b
  pub c_word : word_at list2 listed 4 ≡ c
  pub earlier : (m k : ℕ) → m < listed → k < 5 → word_at list2 m k ≡ word_at list m k
  pub long : length list2 ≡ length list
  pub next : listed2 ≡ listed + 1

pub record JudgedPut (list : List ℕ) (listed event : ℕ) (v : Judged) (list2 : List ℕ) (listed2 : ℕ) : Type 0 where
  pub so : (own : List SheetLine) → text_from own list2 listed2 ≡ text_from own list listed ++ flat_map printed_line (judged_as event v)
  pub lines : listed2 ≡ listed + length (judged_as event v)
  pub long : length list2 ≡ length list
  pub more : listed2 ≤ listed + 1

-- ---- one record, of any kind

pub record Noted (list : List ℕ) (listed : ℕ) (quotes statuses periods : List ℕ) (exchanges home : ℕ) (sizes : List ℕ) (sent traded lines event : ℕ) (r : Rec)
    (list2 periods2 : List ℕ) (listed2 : ℕ) : Type 0 where
  pub so : (h : Header) (e : Event) (past : History) → Heads h exchanges home sizes → Reads e r → InRange h e → Quoted past quotes → Statuses past statuses
      → Periods h past periods → sent ≡ count is_sent past → traded ≡ count is_trade past → lines ≡ count is_satisfaction past
      → listed < most_rows → length list ≡ list_words → (printed : List SheetLine → List Printed) → Listing printed past list listed
      → Listing (λ own. printed own ++ (judged h event past e ++ settled own event past e)) (e ∷ past) list2 listed2
  pub kept : (h : Header) (e : Event) (past : History) → Heads h exchanges home sizes → Reads e r → Quoted past quotes → Statuses past statuses
      → Periods h past periods → listed < most_rows → length list ≡ list_words → Periods h (e ∷ past) periods2
  pub tidy : Tidy periods2
  pub long : length list2 ≡ length list
  pub more : listed2 ≤ listed + 1

-- a quote: nothing of statuses, sizes and counts decides
pub record QuoteNoted (list : List ℕ) (listed : ℕ) (quotes periods : List ℕ) (exchanges home event : ℕ) (r : Rec) (list2 periods2 : List ℕ) (listed2 : ℕ) : Type 0 where
  pub so : (statuses sizes : List ℕ) (sent traded lines : ℕ) → Noted list listed quotes statuses periods exchanges home sizes sent traded lines event r list2 periods2 listed2
