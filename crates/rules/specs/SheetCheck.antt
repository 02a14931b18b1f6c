-- The check of a sheet. "Sheet order: the journal's refusal first; 20; then line by line 21, 22, 24; then trade by trade 25, 26."
use Rattle.std.specs.Prelude.{ℕ, zero, suc, ◌+◌, List, [], ◌∷◌, map, length, get_or, ◌==◌}
use Rattle.rules.specs.Basics.{◌at_most◌, keep, sum, Answer, refused, ok, ◌>>=◌, Passed, demand}
use Rattle.rules.specs.Refusals.{not_three_each, does_not_add_up, wrong_reason, above_claim, not_the_due_total, share_rule_broken}
use Rattle.rules.specs.Number.{Spot, start_of, numbers}
use Rattle.rules.specs.Record.{is_trade}
use Rattle.rules.specs.Journal.{Journal, journal, count}
use Rattle.rules.specs.Due.{Line, lines, due, Share, share_rule}
use Rattle.rules.specs.OwnSheet.{SheetLine}

-- ---- 20: "exactly three readable numbers per Satisfaction Order"; "first byte of the bad number or first extra byte;
-- where it ends between numbers too early, its end"

abbrev pub renumbered : {A : Type 0} → ℕ → Answer A → Answer A
renumbered n (refused m p) = refused n p
renumbered n (ok a) = ok a

-- so many lines, and nothing after them
unfoldable pub sheet_lines : ℕ → Spot → Answer (List SheetLine)
sheet_lines zero q = do
  _ ← demand (length q.rest == 0) not_three_each q.place
  ok []
sheet_lines (suc k) q = do
  three ← renumbered not_three_each (numbers 3 q)
  more ← sheet_lines k three.next
  let first : SheetLine = record {
    reason = get_or three.values 0 0;
    filled = get_or three.values 1 0;
    cancelled = get_or three.values 2 0;
  }
  ok (first ∷ more)

-- ---- 21, 22, 24, line by line. The place is the line.

-- what the journal says of a Satisfaction Order beside what the sheet says of it
pub record Beside : Type 0 where
  pub line : Line
  pub sheet : SheetLine

unfoldable pub beside : List Line → List SheetLine → List Beside
beside [] ss = []
beside (l ∷ ls) [] = []
beside (l ∷ ls) (s ∷ ss) = record { line = l; sheet = s } ∷ beside ls ss

unfoldable pub check_line : Beside → Answer Passed
check_line b = do
  _ ← demand (b.sheet.filled + b.sheet.cancelled == b.line.size) does_not_add_up b.line.number
  _ ← demand (b.sheet.reason == b.line.reason) wrong_reason b.line.number
  demand (b.sheet.filled at_most b.line.claim) above_claim b.line.number

unfoldable pub check_lines : List Beside → Answer Passed
check_lines [] = ok tt
check_lines (b ∷ bs) = do
  _ ← check_line b
  check_lines bs

-- ---- 25, 26, trade by trade. The place is the trade.

abbrev pub as_share : Beside → Share
as_share b = record { line = b.line; filled = b.sheet.filled }

-- the lines of trade n, filled as the sheet says
unfoldable pub shares_of : ℕ → List Beside → List Share
shares_of n bs = keep (λ (a : Share). a.line.trade == n) (map as_share bs)

abbrev pub fills_of : List Share → List ℕ
fills_of ss = map (λ (a : Share). a.filled) ss

unfoldable pub check_trade : Journal → List Beside → ℕ → Answer Passed
check_trade j bs n = do
  _ ← demand (sum (fills_of (shares_of n bs)) == due j n) not_the_due_total n
  demand (share_rule (shares_of n bs)) share_rule_broken n

-- k trades from trade n on
unfoldable pub check_trades : Journal → List Beside → ℕ → ℕ → Answer Passed
check_trades j bs n zero = ok tt
check_trades j bs n (suc k) = do
  _ ← check_trade j bs n
  check_trades j bs (n + 1) k

unfoldable pub check_sheet : List ℕ → List ℕ → Answer Passed
check_sheet bytes sheet = do
  j ← journal bytes
  says ← sheet_lines (length (lines j)) (start_of sheet)
  let bs = beside (lines j) says
  _ ← check_lines bs
  check_trades j bs 0 (count is_trade j.history)
