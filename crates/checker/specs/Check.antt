-- The check of a sheet against the tables of an accepted journal: "20; then line by line 21, 22, 24; then trade by trade 25, 26".
use Rattle.std.specs.Prelude.{◌≡◌, List, ℕ, ◌-◌, ◌<◌, ◌≤◌, length, Result, Ok, Err}
use Rattle.rules.specs.Basics.{Answer, ok, ◌>>=◌, Passed}
use Rattle.rules.specs.Number.{start_of}
use Rattle.rules.specs.Record.{is_trade}
use Rattle.rules.specs.Journal.{Journal, count}
use Rattle.rules.specs.Due.{lines}
use Rattle.rules.specs.SheetCheck.{sheet_lines, Beside, beside, check_line, check_lines, check_trade, check_trades}
use Rattle.claims.specs.Books.{Books}
use Rattle.rows.specs.Refusals.{refused_as}
use Rattle.rows.specs.declared.Refused.{Refused}
use Rattle.said.specs.Said.{as_line}
use Rattle.said.specs.declared.Said.{Said}
use Rattle.checker.specs.Beside.{besides}

-- the answer of the check in memory: yes, or the refusal's number and place
abbrev pub checked_as : Result (Unit {0}) Refused → Answer Passed
checked_as (Ok done) = ok tt
checked_as (Err r) = refused_as r

-- what the check does once the journal is accepted
unfoldable pub check_of : Journal → List ℕ → Answer Passed
check_of j sheet = do
  says ← sheet_lines (length (lines j)) (start_of sheet)
  let bs = beside (lines j) says
  _ ← check_lines bs
  check_trades j bs 0 (count is_trade j.history)

-- a line of the journal beside the sheet's, by the numbers that count
pub record LineJudged (number size reason claim : ℕ) (said : Said) (r : Result (Unit {0}) Refused) : Type 0 where
  pub is : (b : Beside) → b.line.number ≡ number → b.line.size ≡ size → b.line.reason ≡ reason → b.line.claim ≡ claim
      → b.sheet ≡ as_line said → checked_as r ≡ check_line b

-- one trade, after every line has passed
pub record TradeChecked (claims trades : List ℕ) (lines : ℕ) (said : List Said) (m : ℕ) (r : Result (Unit {0}) Refused) : Type 0 where
  pub so : (j : Journal) (traded : ℕ) → Books j trades claims traded lines → m < traded → check_lines (besides claims said lines) ≡ ok tt
      → checked_as r ≡ check_trade j (besides claims said lines) m

-- all of them
pub record TradesChecked (claims trades : List ℕ) (lines : ℕ) (said : List Said) (traded : ℕ) (r : Result (Unit {0}) Refused) : Type 0 where
  pub so : (j : Journal) → Books j trades claims traded lines → check_lines (besides claims said lines) ≡ ok tt
      → checked_as r ≡ check_trades j (besides claims said lines) 0 traded

-- those below m have passed
pub record TradesChecking (claims trades : List ℕ) (lines : ℕ) (said : List Said) (traded m : ℕ) : Type 0 where
  pub so : (j : Journal) → Books j trades claims traded lines → check_lines (besides claims said lines) ≡ ok tt
      → check_trades j (besides claims said lines) 0 traded ≡ check_trades j (besides claims said lines) m (traded - m)
  pub low : m ≤ traded

pub record CheckedAs (claims trades : List ℕ) (traded lines : ℕ) (sheet : List ℕ) (r : Result (Unit {0}) Refused) : Type 0 where
  pub so : (j : Journal) → Books j trades claims traded lines → checked_as r ≡ check_of j sheet
