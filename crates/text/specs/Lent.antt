-- Writing into lent memory: what one writer leaves there for the next, and what a writer that is all or nothing answers.
use Rattle.std.specs.Prelude.{ℕ, ◌+◌, ◌≤◌, ◌≡◌, List, ◌++◌, length, take, drop, Result, Ok, Err}
use Rattle.rules.specs.Basics.{Answer, refused, ok, ◌>>=◌}
use Rattle.rules.specs.Writing.{no_place, into, lent_after}
use Rattle.rows.specs.Refusals.{number_of}
use Rattle.rows.specs.declared.Refusal.{Refusal}

-- lent memory with these bytes from a place on
unfoldable pub lent_with : List ℕ → ℕ → List ℕ → List ℕ
lent_with lent at bytes = take at lent ++ bytes ++ drop (at + length bytes) lent

-- bytes, for which there was room, were written at a place; the next writer goes on at `next`
pub record Wrote (before : List ℕ) (at : ℕ) (bytes after : List ℕ) (next : ℕ) : Type 0 where
  pub room : at + length bytes ≤ length before
  pub lent : after ≡ lent_with before at bytes
  pub place : next ≡ at + length bytes

-- how many bytes these are, and at most how many
pub record Takes (bytes : List ℕ) (most width : ℕ) : Type 0 where
  pub exact : width ≡ length bytes
  pub bound : width ≤ most

-- ---- all or nothing, from the front of the lent memory

-- the answer of a writer in memory: the place after its last byte, or the refusal's number at 0 ("A writer's place is always 0")
abbrev pub as_answer : Result ℕ Refusal → Answer ℕ
as_answer (Ok next) = ok next
as_answer (Err r) = refused (number_of r) no_place

-- some bytes, or a refusal, as what a writer of them answers: how many they are, or the refusal
abbrev pub counted : Answer (List ℕ) → Answer ℕ
counted answer = answer >>= λ bytes. ok (length bytes)

-- these bytes at the front of the lent memory where they have room, or 9: what is answered, and every lent byte afterwards
pub record Writes (before bytes : List ℕ) (r : Result ℕ Refusal) (after : List ℕ) : Type 0 where
  pub answer : as_answer r ≡ counted (into (length before) bytes)
  pub lent : after ≡ lent_after (into (length before) bytes) before
