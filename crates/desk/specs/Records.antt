-- The functions that are given a header or a record as numbers: how many they take, and what each number is.
use Rattle.std.specs.Prelude.{List, ◌∷◌, ◌++◌, ℕ, ◌+◌, ◌*◌, ◌-◌, ◌%◌, length, get_or, take, drop, replicate, if◌then◌else◌, ◌==◌}
use Rattle.rules.specs.Basics.{within, Answer, ◌>>=◌, demand}
use Rattle.rules.specs.Record.{batch_kind, Recorded}
use Rattle.rules.specs.Writing.{no_place, into, write_header, write_record, read_record}
use Rattle.header.specs.Head.{as_header}
use Rattle.alone.specs.Alone.{given_as}
use Rattle.given.specs.Given.{head_from}
use Rattle.desk.specs.Exports.{refusal_unit}

-- the refusal of more or fewer numbers than a function takes; none of the paper's numbers
abbrev pub wrong_count : ℕ
wrong_count = 98

-- the bytes of a header that is given as 19 numbers, for so much room; another count of numbers is refused first
unfoldable pub write_header_from : List ℕ → ℕ → Answer (List ℕ)
write_header_from ns room = do
  _ ← demand (length ns == 19) wrong_count no_place
  write_header (as_header (head_from ns)) room

-- the bytes of a record, for so much room: after the header's 19 numbers the time so far, kind, milliseconds, 8 to 226 fields
unfoldable pub write_record_from : List ℕ → ℕ → Answer (List ℕ)
write_record_from ns room = do
  _ ← demand (within 30 248 (length ns)) wrong_count no_place
  write_record (as_header (head_from ns)) (get_or ns 19 0) (given_as (get_or ns 20 0) (get_or ns 21 0) (drop 22 ns)) room

-- a record that was read, as words in memory: bytes used (a record has at most 4 * 228, so the remainder takes nothing away), kind,
-- milliseconds, its fields, at least 8 of them, unused ones 0
abbrev pub record_words : Recorded → List ℕ
record_words r =
    r.next.place % refusal_unit ∷ r.entry.kind ∷ r.entry.elapsed
    ∷ (r.entry.fields ++ replicate (8 - length r.entry.fields) 0)

-- the words of the record that some bytes are, for so much room: after the header's 19 numbers the time so far
unfoldable pub read_record_from : List ℕ → List ℕ → ℕ → Answer (List ℕ)
read_record_from ns bytes room = do
  _ ← demand (length ns == 20) wrong_count no_place
  r ← read_record (as_header (head_from ns)) (get_or ns 19 0) bytes
  into room (record_words r)

-- how many words are handed out of a record's fields
abbrev pub handed_out : ℕ → List ℕ → ℕ
handed_out kind fields = if kind == batch_kind then 2 + get_or fields 1 0 * 7 else 8

-- so many fields behind three words, the other words as they were
abbrev pub behind_three : List ℕ → ℕ → List ℕ → List ℕ
behind_three fields count out = take 3 out ++ (take count fields ++ drop (3 + count) out)
