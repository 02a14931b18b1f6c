-- What a sheet says, beside the rows of the tables: each line beside its Satisfaction Order's, and the fills of a trade's lines.
use Rattle.std.specs.Prelude.{◌≡◌, List, map, ℕ, ◌-◌, ◌≤◌, get_or, length, take}
use Rattle.rules.specs.Limits.{most_trade_lines}
use Rattle.rules.specs.Due.{Line}
use Rattle.rules.specs.SheetCheck.{Beside, check_lines}
use Rattle.claims.specs.Lines.{line_in, many_of, trade_lines}
use Rattle.fairness.specs.Lines.{claims_in, customers_in, fills_in}
use Rattle.fairness.specs.declared.Portion.{Portion}
use Rattle.said.specs.Said.{each, nothing, said_line}
use Rattle.said.specs.declared.Said.{Said}

-- ---- the lines

abbrev pub beside_at : List ℕ → List Said → ℕ → Beside
beside_at claims said i = record { line = line_in claims i; sheet = said_line said i }

-- the lines of the tables beside those of the sheet
unfoldable pub besides : List ℕ → List Said → ℕ → List Beside
besides claims said lines = each (beside_at claims said) 0 lines

-- the first i lines have passed
pub record LinesChecking (claims : List ℕ) (said : List Said) (lines i : ℕ) : Type 0 where
  pub rest : check_lines (besides claims said lines) ≡ check_lines (each (beside_at claims said) i (lines - i))
  pub low : i ≤ lines

-- ---- the fills of a trade

abbrev pub fill_on : List Said → Line → ℕ
fill_on said l = (get_or said l.number nothing).filled

pub record FillsGathered (claims : List ℕ) (said : List Said) (m : ℕ) (before after : List Portion) : Type 0 where
  pub fills : fills_in (take (many_of claims m) after) ≡ map (fill_on said) (trade_lines claims m (many_of claims m))
  pub claims_stay : claims_in after ≡ claims_in before
  pub customers_stay : customers_in after ≡ customers_in before
  pub long : length after ≡ most_trade_lines

-- the first i of them
pub record FillsGathering (claims : List ℕ) (said : List Said) (m k i : ℕ) (before portions : List Portion) : Type 0 where
  pub fills : fills_in (take i portions) ≡ map (fill_on said) (trade_lines claims m i)
  pub claims_stay : claims_in portions ≡ claims_in before
  pub customers_stay : customers_in portions ≡ customers_in before
  pub low : i ≤ k
  pub long : length portions ≡ most_trade_lines
