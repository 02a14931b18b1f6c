-- What it is for bytes to be a good sheet of a journal, said without a checker: one line for each Satisfaction Order in order,
-- each adding up to its order, each naming the journal's reason, none filled beyond its claim, each trade's fills make its
-- due total, and no line short of its claim is more than one contract behind another of its trade in proportion to
-- customer contracts. Claims and totals come from the journal alone.
use Rattle.std.specs.Prelude.{ℕ, ◌+◌, ◌*◌, ◌≤◌, ◌<◌, ◌≡◌, true, List, [], ◌∷◌, length, get_or, if◌then◌else◌, ◌==◌}
use Rattle.rules.specs.Basics.{sum}
use Rattle.rules.specs.Number.{storable}
use Rattle.rules.specs.Record.{is_trade}
use Rattle.rules.specs.Journal.{Journal, count}
use Rattle.rules.specs.Due.{Line, lines, due}
use Rattle.rules.specs.OwnSheet.{SheetLine, sheet_bytes}

-- the Satisfaction Order and the sheet's line numbered i
abbrev pub no_line : Line
no_line = record { number = 0; trade = 0; size = 0; reason = 0; customers = 0; claim = 0 }

abbrev pub line_at : List Line → ℕ → Line
line_at ls i = get_or ls i no_line

abbrev pub nothing_said : SheetLine
nothing_said = record { reason = 0; filled = 0; cancelled = 0 }

abbrev pub said_at : List SheetLine → ℕ → SheetLine
said_at ss i = get_or ss i nothing_said

-- a line whose three numbers can be stored
abbrev pub Storable : SheetLine → Type 0
Storable s = (storable s.reason ≡ true) × (storable s.filled ≡ true) × (storable s.cancelled ≡ true)

-- the fills of trade n: of each Satisfaction Order for it, what its line says
unfoldable pub fills_of_trade : ℕ → List Line → List SheetLine → List ℕ
fills_of_trade n [] ss = []
fills_of_trade n (l ∷ ls) [] = []
fills_of_trade n (l ∷ ls) (s ∷ ss) =
    let later = fills_of_trade n ls ss in
    if l.trade == n then s.filled ∷ later else later

pub record GoodLines (j : Journal) (says : List SheetLine) : Type 0 where
  pub one_for_each_order : length says ≡ length (lines j)
  pub adds_up_to_its_order : (i : ℕ) → i < length (lines j)
      → (said_at says i).filled + (said_at says i).cancelled ≡ (line_at (lines j) i).size
  pub names_the_journals_reason : (i : ℕ) → i < length (lines j) → (said_at says i).reason ≡ (line_at (lines j) i).reason
  pub not_beyond_its_claim : (i : ℕ) → i < length (lines j) → (said_at says i).filled ≤ (line_at (lines j) i).claim
  pub makes_the_due_total : (n : ℕ) → n < count is_trade j.history → sum (fills_of_trade n (lines j) says) ≡ due j n
  pub not_more_than_one_behind : (i k : ℕ) → i < length (lines j) → k < length (lines j)
      → (line_at (lines j) i).trade ≡ (line_at (lines j) k).trade
      → (said_at says i).filled < (line_at (lines j) i).claim
      → (said_at says k).filled * (line_at (lines j) i).customers ≤ ((said_at says i).filled + 1) * (line_at (lines j) k).customers

pub record GoodSheet (j : Journal) (sheet : List ℕ) : Type 0 where
  pub says : List SheetLine
  pub storable_lines : (i : ℕ) → i < length says → Storable (said_at says i)
  pub are_its_bytes : sheet ≡ sheet_bytes says
  pub good_lines : GoodLines j says
