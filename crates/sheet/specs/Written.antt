-- The bytes of our own sheet: "A sheet line: reason, filled, cancelled."
use Rattle.std.specs.Prelude.{◌≡◌, List, [], ◌∷◌, map, ℕ, ◌+◌, ◌-◌, ◌*◌, ◌<◌, ◌≤◌, get_or, length, take, Result}
use Rattle.rules.specs.Basics.{below}
use Rattle.rules.specs.Number.{largest, bytes_of, bytes_of_all}
use Rattle.rules.specs.Journal.{Journal}
use Rattle.rules.specs.OwnSheet.{SheetLine, sheet_bytes, own_sheet}
use Rattle.rules.specs.Writing.{into, lent_after}
use Rattle.text.specs.Lent.{Wrote, as_answer, counted}
use Rattle.rows.specs.declared.Refusal.{Refusal}
use Rattle.several.specs.Numbers.{Small}
use Rattle.claims.specs.Books.{Books}

-- ---- the lines that the tables say

-- line i: its reason, what it is filled, and the rest of its size
abbrev pub says_at : List ℕ → List ℕ → ℕ → SheetLine
says_at claims fills i =
    record {
      reason = get_or claims (i * 8 + 2) 0;
      filled = get_or fills i 0;
      cancelled = get_or claims (i * 8 + 1) 0 - get_or fills i 0;
    }

abbrev pub three_at : List ℕ → List ℕ → ℕ → List ℕ
three_at claims fills i = get_or claims (i * 8 + 2) 0 ∷ get_or fills i 0 ∷ (get_or claims (i * 8 + 1) 0 - get_or fills i 0) ∷ []

-- the bytes of that many lines
unfoldable pub bytes_to : List ℕ → List ℕ → ℕ → List ℕ
bytes_to claims fills lines = sheet_bytes (map (says_at claims fills) (below lines))

abbrev pub Stores : List ℕ → List ℕ → ℕ → Type 0
Stores claims fills lines = (i : ℕ) → i < lines → Small (three_at claims fills i) 3

-- ---- how many bytes

pub record Summing (claims fills : List ℕ) (lines sum i : ℕ) : Type 0 where
  pub is : sum ≡ length (bytes_to claims fills i)
  pub small : sum ≤ i * 12
  pub low : i ≤ lines

-- ---- written, where the numbers can be stored and there is room

pub record PutsNumber (before : List ℕ) (at x : ℕ) (after : List ℕ) (next : ℕ) : Type 0 where
  pub so : x ≤ largest → at + length (bytes_of x) ≤ length before → Wrote before at (bytes_of x) after next
  pub long : length after ≡ length before

pub record PutsLine (before : List ℕ) (at : ℕ) (row after : List ℕ) (next : ℕ) : Type 0 where
  pub so : Small row 3 → at + length (bytes_of_all (take 3 row)) ≤ length before → Wrote before at (bytes_of_all (take 3 row)) after next
  pub long : length after ≡ length before

pub record PutsLines (before claims fills : List ℕ) (lines : ℕ) (after : List ℕ) (next : ℕ) : Type 0 where
  pub so : Stores claims fills lines → length (bytes_to claims fills lines) ≤ length before → Wrote before 0 (bytes_to claims fills lines) after next
  pub long : length after ≡ length before

pub record Putting (before claims fills : List ℕ) (lines : ℕ) (after : List ℕ) (next i : ℕ) : Type 0 where
  pub so : Stores claims fills lines → length (bytes_to claims fills lines) ≤ length before → Wrote before 0 (bytes_to claims fills i) after next
  pub long : length after ≡ length before
  pub low : i ≤ lines

-- ---- our own sheet, or 9

pub record OwnWritten (claims trades : List ℕ) (traded lines : ℕ) (before : List ℕ) (r : Result ℕ Refusal) (after : List ℕ) : Type 0 where
  pub so : (j : Journal) → Books j trades claims traded lines
      → (as_answer r ≡ counted (into (length before) (own_sheet j))) × (after ≡ lent_after (into (length before) (own_sheet j)) before)
