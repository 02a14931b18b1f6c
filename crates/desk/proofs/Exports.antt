-- Laws of the exported functions: from an entry's answer to the one number, for those that write and those that do not.
use mathlib.Core.Path.{◌≡◌, refl, sym, ap, ◌∙◌}
use mathlib.Core.List.{List, ◌++◌}
use Prim.Native.Nat.{ℕ, ◌%◌, ◌<◌, ◌≤◌}
use lib.ListN.{length, drop}
use borrow.Author.Tests.{le-leb, lt-leb}
use Rattle.rules.specs.Basics.{Answer, refused, ok, ◌>>=◌}
use Rattle.rules.specs.Refusals.{output_too_short}
use Rattle.rules.specs.Journal.{DayRecords, day_records, journal_of, journal}
use Rattle.rules.specs.Totals.{day_totals}
use Rattle.rules.specs.SheetCheck.{check_sheet}
use Rattle.rules.specs.Writing.{no_place, into, lent_after}
use Rattle.rules.proofs.Answers.{demand_met, demand_missed}
use Rattle.number.specs.Writing.{Left, leaves}
use Rattle.text.specs.Lent.{counted}
use Rattle.journal.specs.Entries.{accepted, verdict_as, totals_as, left_by}
use Rattle.std.specs.Prelude.{Result, Ok, Err}
use Rattle.rows.specs.Refusals.{number_of, refused_as}
use Rattle.rows.specs.declared.Refusal.TheVariants.{OutputTooShort}
use Rattle.rows.specs.declared.Refused.{Refused}
use Rattle.journal.specs.declared.DayTotals.{DayTotals}
use Rattle.checker.specs.Check.{checked_as}
use Rattle.desk.specs.Exports.{refusal_unit, code_of, unwritten, Gives, words_of, write_totals, rewritten_as}

-- ---- the code of an answer

module _ (w : Result ℕ Refused) where
  pub coded_written : (n : ℕ) → w ≡ Ok n → n % refusal_unit ≡ code_of (rewritten_as w)
  coded_written n e = rw e

  pub coded_unwritten : (q : Refused) (r : ℕ) → w ≡ Err q → r ≡ code_of (refused_as q) → r ≡ code_of (rewritten_as w)
  coded_unwritten q r e g = g ∙ rw e

pub ruleset coded_laws = (coded_written, coded_unwritten)

-- ---- functions that write

code_of_left : (w : Result ℕ Refused) (after : List ℕ) → rewritten_as w ≡ (left_by w after).answer
code_of_left (Ok n) after = refl
code_of_left (Err q) after = refl

bytes_of_left : (w : Result ℕ Refused) (after : List ℕ) → after ≡ (left_by w after).bytes
bytes_of_left (Ok n) after = refl
bytes_of_left (Err q) after = refl

leaves_answer : (x : Answer (List ℕ)) (before : List ℕ) → (leaves x before).answer ≡ counted x
unfolding leaves ◌>>=◌
leaves_answer (refused n p) before = refl
leaves_answer (ok bytes) before = refl

leaves_lent : (x : Answer (List ℕ)) (before : List ℕ) → (leaves x before).bytes ≡ lent_after x before
unfolding leaves
leaves_lent (refused n p) before = refl
leaves_lent (ok bytes) before = refl

-- what an entry leaves is what its function gives
pub writer_gives : (x : Answer (List ℕ)) (before after : List ℕ) (w : Result ℕ Refused) → left_by w after ≡ leaves x before
    → (r : ℕ) → r ≡ code_of (rewritten_as w) → Gives x before r after
writer_gives x before after w e r g =
    record {
      code = g ∙ ap code_of (code_of_left w after ∙ ap (λ (l : Left). l.answer) e ∙ leaves_answer x before);
      lent = bytes_of_left w after ∙ ap (λ (l : Left). l.bytes) e ∙ leaves_lent x before;
    }

pub gives_refusal : (x : Answer (List ℕ)) (n p : ℕ) → x ≡ refused n p → (before : List ℕ) (r : ℕ) → r ≡ code_of (refused n p) → Gives x before r before
unfolding lent_after ◌>>=◌
gives_refusal x n p e before r g = record { code = g ∙ rw e; lent = rw e }

-- ---- functions that do not

unwritten_refused : {A : Type 0} (x : Answer A) (n p : ℕ) → x ≡ refused n p → code_of (refused n p) ≡ code_of (unwritten x)
unfolding unwritten ◌>>=◌
unwritten_refused x n p e = rw e

unwritten_ok : {A : Type 0} (x : Answer A) (a : A) → x ≡ ok a → 0 ≡ code_of (unwritten x)
unfolding unwritten ◌>>=◌
unwritten_ok x a e = rw e

through : (m : Answer DayRecords) → code_of (unwritten (m >>= λ d. ok (length d.records))) ≡ code_of (unwritten (m >>= λ d. ok (journal_of d)))
unfolding unwritten ◌>>=◌
through (refused n p) = refl
through (ok d) = refl

module _ (s : List ℕ) (v : Result ℕ Refused) (ev : verdict_as v ≡ accepted s) where
  same_as_counted : code_of (unwritten (accepted s)) ≡ code_of (unwritten (journal s))
  unfolding accepted journal unwritten ◌>>=◌
  same_as_counted = through (day_records s)

  pub journal_refused : (q : Refused) (r : ℕ) → v ≡ Err q → r ≡ code_of (refused_as q) → r ≡ code_of (unwritten (journal s))
  journal_refused q r e g = g ∙ unwritten_refused (accepted s) (number_of q.refusal) q.place (sym ev ∙ ap verdict_as e) ∙ same_as_counted

  pub journal_accepted : (n : ℕ) → v ≡ Ok n → 0 ≡ code_of (unwritten (journal s))
  journal_accepted n e = unwritten_ok (accepted s) n (sym ev ∙ ap verdict_as e) ∙ same_as_counted

pub ruleset journal_laws = (journal_refused, journal_accepted)

module _ (s sheet : List ℕ) (v : Result (Unit {0}) Refused) (ev : checked_as v ≡ check_sheet s sheet) where
  pub check_refused : (q : Refused) (r : ℕ) → v ≡ Err q → r ≡ code_of (refused_as q) → r ≡ code_of (unwritten (check_sheet s sheet))
  check_refused q r e g = g ∙ unwritten_refused (check_sheet s sheet) (number_of q.refusal) q.place (sym ev ∙ ap checked_as e)

  pub check_accepted : v ≡ Ok tt → 0 ≡ code_of (unwritten (check_sheet s sheet))
  check_accepted e = unwritten_ok (check_sheet s sheet) tt (sym ev ∙ ap checked_as e)

pub ruleset check_laws = (check_refused, check_accepted)

-- ---- the day totals

module _ (out : List ℕ) (t : DayTotals) where
  pub four_short : length out < 4 → (q : Refused) → q ≡ record { refusal = OutputTooShort; place = 0 } → (r : ℕ) → r ≡ code_of (refused_as q)
      → Gives (into (length out) (words_of t)) out r out
  unfolding into ◌>>=◌
  four_short h q e r g =
      gives_refusal _ output_too_short 0 (rw (demand_missed _ output_too_short no_place (lt-leb 4 (length out) h))) out r (g ∙ rw e)

  pub four_put : 4 ≤ length out → (four : List ℕ) → four ≡ words_of t → Gives (into (length out) (words_of t)) out 4 (four ++ drop 4 out)
  unfolding into ◌>>=◌ lent_after
  four_put h four a =
      let e : into (length out) (words_of t) ≡ ok (words_of t) = rw (demand_met _ output_too_short no_place (le-leb 4 (length out) h)) in
      record { code = rw e; lent = rw (a, e) }

pub ruleset four_laws = (four_short, four_put)

module _ (s : List ℕ) (v : Result DayTotals Refused) (ev : totals_as v ≡ day_totals s) (out : List ℕ) where
  pub totals_refused : (q : Refused) (r : ℕ) → v ≡ Err q → r ≡ code_of (refused_as q) → Gives (write_totals s (length out)) out r out
  unfolding write_totals ◌>>=◌
  totals_refused q r e g = gives_refusal (write_totals s (length out)) (number_of q.refusal) q.place (rw (sym ev ∙ ap totals_as e)) out r g

  pub totals_put : (t : DayTotals) (r : ℕ) (after : List ℕ) → v ≡ Ok t → Gives (into (length out) (words_of t)) out r after
      → Gives (write_totals s (length out)) out r after
  unfolding write_totals ◌>>=◌
  totals_put t r after e g = rw (sym ev ∙ ap totals_as e) g

pub ruleset totals_laws = (totals_refused, totals_put)
