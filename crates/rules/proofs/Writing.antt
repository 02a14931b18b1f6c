-- Lent memory: a refusal keeps every byte, what is written fills a prefix and reads back from there, and nothing else changes.
use mathlib.Core.Path.{◌≡◌, refl, sym, ◌∙◌}
use mathlib.Core.List.{List}
use Prim.Native.Nat.{ℕ, ◌≤◌}
use lib.ListN.{length, drop}
use lib.Seq.{drop_at}
use borrow.Author.Tests.{leb-true}
use Rattle.rules.specs.Basics.{ok, refused, ◌>>=◌}
use Rattle.rules.specs.Number.{Bytes, start_of}
use Rattle.rules.specs.Header.{Header, header_at}
use Rattle.rules.specs.Record.{Entry}
use Rattle.rules.specs.SheetCheck.{check_sheet}
use Rattle.rules.specs.Writing.{into, lent_after, write_header, trimmed, write_record, read_record, rewrite_journal, write_sheet}
use Rattle.rules.proofs.Answers.{went, met, ok_is}
use Rattle.rules.proofs.Records.{written_header_reads_back, written_record_reads_back}
use Rattle.rules.proofs.Journals.{journal_written_again}
use Rattle.rules.proofs.OwnSheet.{own_sheet_accepted}

pub refusal_keeps_every_byte : (n p : ℕ) (lent : List ℕ) → lent_after (refused n p) lent ≡ lent
unfolding lent_after
refusal_keeps_every_byte n p lent = refl

pub bytes_after_what_is_written_stay : (bytes lent : List ℕ) → drop (length bytes) (lent_after (ok bytes) lent) ≡ drop (length bytes) lent
unfolding lent_after
bytes_after_what_is_written_stay bytes lent = drop_at bytes (drop (length bytes) lent) (length bytes) refl

-- what is written has room
pub written_fits : (room : ℕ) (bytes written : List ℕ) → into room bytes ≡ ok written → length bytes ≤ room
unfolding into
written_fits room bytes written e = leb-true _ _ (met _ _ _ (went _ _ e).got)

pub header_in_lent_memory_reads_back : (h : Header) (room : ℕ) (bytes lent : List ℕ) → write_header h room ≡ ok bytes
    → header_at (start_of (lent_after (ok bytes) lent)) ≡ ok (record { header = h; next = record { place = length bytes; rest = drop (length bytes) lent } })
unfolding lent_after
header_in_lent_memory_reads_back h room bytes lent e = written_header_reads_back h room bytes (drop (length bytes) lent) e

pub record_in_lent_memory_reads_back : (h : Header) (now : ℕ) (given : Entry) (room : ℕ) (bytes lent : List ℕ) → write_record h now given room ≡ ok bytes
    → read_record h now (lent_after (ok bytes) lent) ≡ ok (record { entry = trimmed h given; next = record { place = length bytes; rest = drop (length bytes) lent } })
unfolding lent_after
record_in_lent_memory_reads_back h now given room bytes lent e = written_record_reads_back h now given room bytes (drop (length bytes) lent) e

-- "an accepted journal written again is the same bytes"
pub rewritten_journal_is_the_same : (s : List ℕ) (room : ℕ) (bytes : List ℕ) → Bytes s → rewrite_journal s room ≡ ok bytes → bytes ≡ s
unfolding rewrite_journal into
rewritten_journal_is_the_same s room bytes y e =
    let w = went _ _ e in
    let v = went _ _ w.rest in
    sym (ok_is v.rest) ∙ journal_written_again s w.value y w.got

-- what the sheet writer writes, the check accepts
pub written_sheet_is_accepted : (s : List ℕ) (room : ℕ) (sheet : List ℕ) → write_sheet s room ≡ ok sheet → check_sheet s sheet ≡ ok tt
unfolding write_sheet into
written_sheet_is_accepted s room sheet e =
    let w = went _ _ e in
    let v = went _ _ w.rest in
    rw (← ok_is v.rest) (own_sheet_accepted s w.value w.got)
