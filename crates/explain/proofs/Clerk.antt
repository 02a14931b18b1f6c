-- What the survey of an accepted journal gives to the words: its lines are filed, and few, also of one trade, and so are the rows of its list; and
-- how long an order may take.
use mathlib.Core.List.{List}
use Prim.Native.Nat.{ℕ, ◌≤◌}
use Rattle.rules.specs.Limits.{most_trade_lines}
use Rattle.fairness.specs.declared.Portion.{Portion}
use Rattle.claims.specs.Lines.{Gathered}
use Rattle.claims.proofs.TradeLines.{trade_findable}
use Rattle.reasons.proofs.Table.{allowed_at_most}
use Rattle.answers.proofs.Answers.{tables_known, rows_known, full_list}

pub gathered_few : (claims : List ℕ) (m : ℕ) (portions : List Portion) (k : ℕ) → Gathered claims m portions k → k ≤ most_trade_lines
gathered_few claims m portions k g = g.few

pub ruleset clerk_laws = (tables_known, rows_known, full_list, trade_findable, gathered_few, allowed_at_most)
