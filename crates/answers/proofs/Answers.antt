-- Laws of the entries over the surveyed journal: its refusal is theirs, and what its tables give is what the definitions say.
use mathlib.Core.Path.{◌≡◌, refl, sym, ap, ◌∙◌}
use mathlib.Core.List.{List}
use Prim.Native.Nat.{ℕ, ◌≤◌}
use lib.ListN.{length, replicate, length-replicate}
use Rattle.rules.specs.Basics.{Answer, refused, ok, ◌>>=◌}
use Rattle.rules.specs.Limits.{most_trades, most_satisfaction_orders}
use Rattle.rules.specs.Journal.{journal_of, journal}
use Rattle.rules.specs.OwnSheet.{own_sheet}
use Rattle.rules.specs.PrintedDay.{day_text}
use Rattle.rules.specs.Writing.{into, lent_after, write_day, write_sheet}
use Rattle.rules.specs.SheetCheck.{check_sheet}
use Rattle.number.specs.Writing.{leaves}
use Rattle.text.specs.Lent.{as_answer, counted}
use Rattle.std.specs.Prelude.{Result, Ok, Err}
use Rattle.rows.specs.Refusals.{number_of, refused_as}
use Rattle.rows.specs.declared.Refusal.{Refusal}
use Rattle.rows.specs.declared.Refused.{Refused}
use Rattle.journal.specs.Entries.{left_by}
use Rattle.claims.specs.Lines.{Filing}
use Rattle.list.specs.Listing.{most_rows, list_words}
use Rattle.printed.specs.Printing.{Prints}
use Rattle.walk.proofs.Reaching.{journal_refused, journal_accepted}
use Rattle.survey.specs.Survey.{OfTheDay, SurveyedAs}
use Rattle.survey.specs.declared.Surveyed.{Surveyed}
use Rattle.sheet.specs.Tables.{OwnFills}
use Rattle.sheet.specs.Written.{OwnWritten}
use Rattle.checker.specs.Check.{checked_as, CheckedAs}
use Rattle.checker.proofs.Check.{journal_refused_first, whole_check}
use Rattle.answers.specs.Answers.{answered_as, DayPrinted}

-- ---- what a writer leaves

-- "A writer's place is always 0"
module _ (w : Result ℕ Refusal) where
  pub answered_written : (n : ℕ) → w ≡ Ok n → Ok n ≡ answered_as w
  answered_written n e = rw e

  pub answered_refused : (n : Refusal) → w ≡ Err n → Err (record { refusal = n; place = 0 }) ≡ answered_as w
  answered_refused n e = rw e

left_is : (w : Result ℕ Refusal) (after : List ℕ) → left_by (answered_as w) after ≡ record { answer = as_answer w; bytes = after }
left_is (Ok n) after = refl
left_is (Err r) after = refl

leaves_is : (x : Answer (List ℕ)) (before : List ℕ) → leaves x before ≡ record { answer = counted x; bytes = lent_after x before }
unfolding leaves ◌>>=◌
leaves_is (refused n p) before = refl
leaves_is (ok bytes) before = refl

written_left : (x : Answer (List ℕ)) (before after : List ℕ) (w : Result ℕ Refusal) → (as_answer w ≡ counted x) × (after ≡ lent_after x before)
    → left_by (answered_as w) after ≡ leaves x before
written_left x before after w is =
    left_is w after ∙ ap (λ (a : Answer ℕ). record { answer = a; bytes = after }) is.0
    ∙ ap (λ (b : List ℕ). record { answer = counted x; bytes = b }) is.1
    ∙ sym (leaves_is x before)

refused_left : (x : Answer (List ℕ)) (q : Refused) (before : List ℕ) → x ≡ refused_as q → left_by (Err q) before ≡ leaves x before
unfolding leaves lent_after
refused_left x q before e = rw e

-- our own fills, and the list with them
pub whole_printed : (claims trades : List ℕ) (traded lines : ℕ) (rows : List ℕ) (listed : ℕ) (fills : List ℕ)
    → OwnFills claims trades traded lines (replicate most_satisfaction_orders 0) fills → (out out2 : List ℕ) (w : Result ℕ Refusal) → Prints rows listed claims fills lines out w out2
    → (r : Result ℕ Refused) → r ≡ answered_as w → DayPrinted claims trades traded lines rows listed out r out2
whole_printed claims trades traded lines rows listed fills own out out2 w wrote r er =
    record {
      so = λ d books listing.
          rw er
          (written_left (into (length out) (day_text d)) out out2 w
          (wrote.so d trades traded books (own.so (journal_of d) books (length-replicate {A = ℕ} most_satisfaction_orders 0)) listing));
    }

-- ---- a journal that is refused

module _ (s lent trades shown claims list : List ℕ) (v : Result Surveyed Refused) (sv : SurveyedAs s lent trades shown claims list v) where
  module _ (q : Refused) (e : v ≡ Err q) (out : List ℕ) where
    pub day_refused : left_by (Err q) out ≡ leaves (write_day s (length out)) out
    unfolding write_day ◌>>=◌
    day_refused = refused_left (write_day s (length out)) q out (rw (sv.stopped q e))

    pub sheet_refused : left_by (Err q) out ≡ leaves (write_sheet s (length out)) out
    unfolding write_sheet ◌>>=◌
    sheet_refused = refused_left (write_sheet s (length out)) q out (rw (journal_refused s (number_of q.refusal) q.place (sv.stopped q e)))

    pub check_refused : checked_as (Err q) ≡ check_sheet s out
    check_refused = sym (journal_refused_first s out (number_of q.refusal) q.place (journal_refused s (number_of q.refusal) q.place (sv.stopped q e)))

  -- ---- a journal that is accepted

  module _ (w : Surveyed) (e : v ≡ Ok w) where
    told : OfTheDay s trades shown claims list w.trades w.lines w.listed
    told = sv.whole w e

    accepted : journal s ≡ ok (journal_of told.day_is)
    accepted = journal_accepted s told.day_is told.accepted

    -- what the steps over the tables ask
    pub tables_known : (w.trades ≤ most_trades) × Filing claims w.lines
    tables_known = (told.few_trades, told.books.filing)

    pub sheet_written : (out out2 : List ℕ) (n : Result ℕ Refusal) → OwnWritten claims trades w.trades w.lines out n out2 → (r : Result ℕ Refused) → r ≡ answered_as n
        → left_by r out2 ≡ leaves (write_sheet s (length out)) out
    unfolding write_sheet ◌>>=◌
    sheet_written out out2 n wrote r er =
        rw (er, accepted) (written_left (into (length out) (own_sheet (journal_of told.day_is))) out out2 n (wrote.so (journal_of told.day_is) told.books))

    pub sheet_checked : (sheet : List ℕ) (r : Result (Unit {0}) Refused) → CheckedAs claims trades w.trades w.lines sheet r → checked_as r ≡ check_sheet s sheet
    sheet_checked sheet r c = whole_check s sheet (journal_of told.day_is) accepted claims trades w.trades w.lines told.books r c

    module _ (full : length lent ≡ list_words) where
      pub rows_known : (w.listed ≤ most_rows) × (length list ≡ list_words) × (w.lines ≤ most_satisfaction_orders)
      rows_known = (told.few_listed (sv.long ∙ full), sv.long ∙ full, told.books.filing.few)

      pub day_printed : (out out2 : List ℕ) (r : Result ℕ Refused) → DayPrinted claims trades w.trades w.lines list w.listed out r out2
          → left_by r out2 ≡ leaves (write_day s (length out)) out
      unfolding write_day ◌>>=◌
      day_printed out out2 r printed = rw told.accepted (printed.so told.day_is told.books (told.listing (sv.long ∙ full)))

pub full_list : length {A = ℕ} (replicate list_words 0) ≡ list_words
full_list = length-replicate {A = ℕ} list_words 0

pub ruleset refused_laws = (day_refused, sheet_refused, check_refused)
