-- What a sheet says, in memory.
use Rattle.std.specs.Prelude.{◌≡◌, List, [], ◌∷◌, ◌++◌, ℕ, zero, suc, ◌+◌, ◌-◌, ◌≤◌, ◌<◌, get_or, length, Result, Ok, Err}
use Rattle.rules.specs.Basics.{Answer, refused, ok}
use Rattle.rules.specs.Limits.{most_satisfaction_orders}
use Rattle.rules.specs.Number.{start_of}
use Rattle.rules.specs.OwnSheet.{SheetLine}
use Rattle.rules.specs.SheetCheck.{sheet_lines}
use Rattle.rows.specs.Refusals.{refused_as}
use Rattle.rows.specs.declared.Refusal.TheVariants.{NotThreeEach}
use Rattle.rows.specs.declared.Refused.{Refused}
use Rattle.number.specs.Reading.{spot_at}
use Rattle.several.specs.Rows.{Many, all, cut, many_at}
use Rattle.said.specs.declared.Reach.{Reach}
use Rattle.said.specs.declared.Said.{Said}

-- f of k numbers from i on
unfoldable pub each : {A : Type 0} → (ℕ → A) → ℕ → ℕ → List A
each f i zero = []
each f i (suc k) = f i ∷ each f (i + 1) k

-- ---- three numbers read

abbrev pub as_three : Many → Result (Said × ℕ) ℕ
as_three (all ns next) = Ok (record { reason = get_or ns 0 0; filled = get_or ns 1 0; cancelled = get_or ns 2 0 }, next)
as_three (cut place) = Err place

unfoldable pub three_at : List ℕ → ℕ → Result (Said × ℕ) ℕ
three_at sheet at = as_three (many_at 3 sheet at)

-- ---- the lines

abbrev pub nothing : Said
nothing = record { reason = 0; filled = 0; cancelled = 0 }

abbrev pub as_line : Said → SheetLine
as_line s = record { reason = s.reason; filled = s.filled; cancelled = s.cancelled }

abbrev pub said_line : List Said → ℕ → SheetLine
said_line said i = as_line (get_or said i nothing)

-- the lines that a read sheet says, or its refusal
abbrev pub lines_read : Result (Unit {0}) Refused → List Said → ℕ → Answer (List SheetLine)
lines_read (Ok done) said lines = ok (each (said_line said) 0 lines)
lines_read (Err r) said lines = refused_as r

pub record SheetRead (sheet : List ℕ) (lines : ℕ) (said : List Said) (r : Result (Unit {0}) Refused) : Type 0 where
  pub is : lines_read r said lines ≡ sheet_lines lines (start_of sheet)
  pub long : length said ≡ most_satisfaction_orders

-- these lines before those still to be read
abbrev pub behind : List SheetLine → Answer (List SheetLine) → Answer (List SheetLine)
behind done (refused number place) = refused number place
behind done (ok more) = ok (done ++ more)

-- the first i lines are read, up to a place
pub record SheetReading (sheet : List ℕ) (lines : ℕ) (said : List Said) (at i : ℕ) : Type 0 where
  pub rest : sheet_lines lines (start_of sheet) ≡ behind (each (said_line said) 0 i) (sheet_lines (lines - i) (spot_at 0 sheet at))
  pub low : i ≤ lines
  pub long : length said ≡ most_satisfaction_orders

-- lines below the first that can't be read, or all of them up to a place
pub record LinesRead (sheet : List ℕ) (lines : ℕ) (said : List Said) (r : Reach) : Type 0 where
  pub cut : r.lines < lines → SheetRead sheet lines said (Err (record { refusal = NotThreeEach; place = r.place }))
  pub whole : lines ≤ r.lines → SheetReading sheet lines said r.place lines
  pub low : r.lines ≤ lines
