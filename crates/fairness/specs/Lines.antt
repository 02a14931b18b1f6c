-- One trade's lines in memory, and the share rule among them.
use Rattle.std.specs.Prelude.{◌≡◌, Bool, false, ℕ, ◌<◌, ◌≤◌, get_or, length, map, ◌==◌}
use mathlib.Core.List.{List, Memᴰ}
use Rattle.rules.specs.Due.{Line, claims_of, customers_of, Share, share_rule}
use Rattle.rules.specs.SheetCheck.{fills_of}
use Rattle.rules.specs.GoodSheet.{no_line}
use Rattle.rules.proofs.Giving.{Within}
use Rattle.rules.proofs.OwnSheet.{lines_in}
use Rattle.fairness.specs.declared.Portion.{Portion}

-- ---- what the memory holds

abbrev pub claims_in : List Portion → List ℕ
claims_in portions = map (λ (p : Portion). p.claim) portions

abbrev pub customers_in : List Portion → List ℕ
customers_in portions = map (λ (p : Portion). p.customers) portions

abbrev pub fills_in : List Portion → List ℕ
fills_in portions = map (λ (p : Portion). p.filled) portions

-- what is so of every line of an accepted journal
pub record Sound (l : Line) : Type 0 where
  pub served : l.claim ≤ l.customers
  pub unclaimed : (l.reason == 0) ≡ false → l.claim ≡ 0

-- all lines of a trade in their order, whatever their reasons
pub record Lined (ls : List Line) (portions : List Portion) : Type 0 where
  pub claims : claims_in portions ≡ claims_of ls
  pub customer_contracts : customers_in portions ≡ customers_of ls
  pub sound : (l : Line) → Memᴰ l ls → Sound l

-- these lines, filled somehow
pub record Gathered (ss : List Share) (portions : List Portion) : Type 0 where
  pub lined : Lined (lines_in ss) portions
  pub fills : fills_in portions ≡ fills_of ss

-- ---- a line by its place

abbrev pub nothing : Portion
nothing = record { claim = 0; customers = 0; filled = 0 }

abbrev pub claim_at : List Portion → ℕ → ℕ
claim_at portions i = (get_or portions i nothing).claim

abbrev pub contracts_at : List Portion → ℕ → ℕ
contracts_at portions i = (get_or portions i nothing).customers

abbrev pub filled_at : List Portion → ℕ → ℕ
filled_at portions i = (get_or portions i nothing).filled

abbrev pub no_share : Share
no_share = record { line = no_line; filled = 0 }

abbrev pub share_at : List Share → ℕ → Share
share_at ss i = get_or ss i no_share

abbrev pub Served : List Portion → Type 0
Served portions = (i : ℕ) → i < length portions → claim_at portions i ≤ contracts_at portions i

-- ---- what is promised, where no line is filled above its claim: the check has seen that of every line (24) before it looks at a trade

pub record RuleAnswered (portions : List Portion) (kept : Bool) : Type 0 where
  pub is : (ss : List Share) → Gathered ss portions → Within ss → kept ≡ share_rule ss
