-- What a writer into lent memory answers, as the answer about a journal; what is promised of a whole journal's tables.
use Rattle.std.specs.Prelude.{◌≡◌, List, ℕ, length, Result, Ok, Err}
use Rattle.rules.specs.Journal.{DayRecords, journal_of}
use Rattle.rules.specs.PrintedDay.{day_text}
use Rattle.rules.specs.Writing.{into}
use Rattle.number.specs.Writing.{leaves}
use Rattle.rows.specs.declared.Refusal.{Refusal}
use Rattle.rows.specs.declared.Refused.{Refused}
use Rattle.journal.specs.Entries.{left_by}
use Rattle.claims.specs.Books.{Books}
use Rattle.list.specs.Listing.{DayListing}

abbrev pub answered_as : Result ℕ Refusal → Result ℕ Refused
answered_as (Ok bytes) = Ok bytes
answered_as (Err refusal) = Err (record { refusal = refusal; place = 0 })

pub record DayPrinted (claims trades : List ℕ) (traded lines : ℕ) (rows : List ℕ) (listed : ℕ) (before : List ℕ) (r : Result ℕ Refused) (after : List ℕ) : Type 0 where
  pub so : (d : DayRecords) → Books (journal_of d) trades claims traded lines → DayListing d rows listed
      → left_by r after ≡ leaves (into (length before) (day_text d)) before
