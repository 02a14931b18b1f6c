-- What an exported function answers: one number that holds a refusal and its place, or how much was written.
use Rattle.std.specs.Prelude.{◌≡◌, List, [], ◌∷◌, ℕ, ◌+◌, ◌*◌, ◌%◌, Result, Ok, Err}
use Rattle.rules.specs.Basics.{Answer, refused, ok, ◌>>=◌}
use Rattle.rules.specs.Totals.{Totals, day_totals}
use Rattle.rules.specs.Writing.{into, lent_after}
use Rattle.text.specs.Lent.{counted}
use Rattle.rows.specs.Refusals.{refused_as}
use Rattle.rows.specs.declared.Refused.{Refused}
use Rattle.journal.specs.declared.DayTotals.{DayTotals}

-- 2^32
abbrev pub refusal_unit : ℕ
refusal_unit = 4294967296

-- refusal number × 2^32 + place, or the count of what was written. No place and no count of these functions comes near 2^32
-- (a journal has at most 32,768 bytes, a list at most some hundred thousand), so the remainders take nothing away.
abbrev pub code_of : Answer ℕ → ℕ
code_of (refused number place) = number * refusal_unit + place % refusal_unit
code_of (ok count) = count % refusal_unit

-- a function that writes nothing counts 0
unfoldable pub unwritten : {A : Type 0} → Answer A → Answer ℕ
unwritten answer = do
  _ ← answer
  ok 0

-- a function that writes: the number it answers, and what the lent memory holds afterwards
pub record Gives (answer : Answer (List ℕ)) (before : List ℕ) (r : ℕ) (after : List ℕ) : Type 0 where
  pub code : r ≡ code_of (counted answer)
  pub lent : after ≡ lent_after answer before

-- the day totals as words in memory: sent, filled, cancelled, pending
abbrev pub totals_words : Totals → List ℕ
totals_words t = t.sent ∷ t.filled ∷ t.cancelled ∷ t.pending ∷ []

-- these words, for so much room: the journal's refusal, then 9
unfoldable pub write_totals : List ℕ → ℕ → Answer (List ℕ)
write_totals bytes room = do
  t ← day_totals bytes
  into room (totals_words t)

-- the same of the totals in memory
abbrev pub words_of : DayTotals → List ℕ
words_of t = t.sent ∷ t.filled ∷ t.cancelled ∷ t.pending ∷ []

abbrev pub rewritten_as : Result ℕ Refused → Answer ℕ
rewritten_as (Ok bytes) = ok bytes
rewritten_as (Err r) = refused_as r
