-- Whose turn it is to get a contract, what the steps of sharing out do to the lines in memory, and the shares of our own sheet.
use Rattle.std.specs.Prelude.{◌≡◌, ◌&&◌, List, map, ℕ, ◌+◌, ◌*◌, ◌<◌, ◌≤◌, length, take, drop, set, ◌++◌, if◌then◌else◌, Option, Some, None}
use Rattle.rules.specs.Basics.{◌less_than◌}
use Rattle.rules.specs.Due.{Line, Share}
use Rattle.rules.specs.OwnSheet.{give, give_one, empty}
use Rattle.rules.specs.SheetCheck.{fills_of}
use Rattle.sharing.specs.declared.Turn.{Turn}
use Rattle.fairness.specs.Lines.{claims_in, customers_in, fills_in, Lined, Gathered, claim_at, contracts_at, filled_at, Served}
use Rattle.fairness.specs.declared.Portion.{Portion}

-- ---- turns

-- the line, if it is unfilled and its turn comes before the best one's; cross products stand for (fill + 1) per customer contract
unfoldable pub sooner_of : Turn → ℕ → Portion → Turn
sooner_of best line p =
    if p.filled less_than p.claim && (p.filled + 1) * best.customers less_than best.fill * p.customers
    then record { line = line; fill = p.filled + 1; customers = p.customers }
    else best

-- of the lines below `seen`, the turn is the unfilled one's with the least (fill + 1) per customer contract, the earliest on a tie
pub record Least (portions : List Portion) (seen : ℕ) (t : Turn) : Type 0 where
  pub here : t.line < seen
  pub unfilled : filled_at portions t.line < claim_at portions t.line
  pub one_more : t.fill ≡ filled_at portions t.line + 1
  pub own : t.customers ≡ contracts_at portions t.line
  pub least : (i : ℕ) → i < seen → filled_at portions i < claim_at portions i → t.fill * contracts_at portions i ≤ (filled_at portions i + 1) * t.customers
  pub earliest : (i : ℕ) → i < t.line → filled_at portions i < claim_at portions i → t.fill * contracts_at portions i < (filled_at portions i + 1) * t.customers

-- or every one of them is filled, and it is nobody's: one contract on no customer contracts, which comes after any line's turn
pub record Nobody (portions : List Portion) (seen : ℕ) (t : Turn) : Type 0 where
  pub filled : (i : ℕ) → i < seen → claim_at portions i ≤ filled_at portions i
  pub is : t ≡ record { line = length portions; fill = 1; customers = 0 }

pub data Found (portions : List Portion) (seen : ℕ) (t : Turn) : Type 0 where
  nobody : Nobody portions seen t → Found portions seen t
  least : Least portions seen t → Found portions seen t

pub record Scanning (portions : List Portion) (i : ℕ) (best : Turn) : Type 0 where
  pub found : Served portions → Found portions i best
  pub line_low : best.line ≤ length portions
  pub low : i ≤ length portions

-- the round of the definitions
pub record NextTurn (portions : List Portion) (next : Option Turn) : Type 0 where
  pub low : (t : Turn) → next ≡ Some t → t.line < length portions
  pub gives : (t : Turn) → next ≡ Some t → (ss : List Share) → Gathered ss portions → fills_of (give_one ss) ≡ set (fills_of ss) t.line t.fill
  pub over : next ≡ None → (ss : List Share) → Gathered ss portions → give_one ss ≡ ss

-- nothing of the lines changes but what they are filled
pub record Stays (before after : List Portion) : Type 0 where
  pub claims : claims_in after ≡ claims_in before
  pub customers : customers_in after ≡ customers_in before

-- so many rounds
pub record Given (contracts : ℕ) (before after : List Portion) : Type 0 where
  pub gave : (ss : List Share) → Gathered ss before → Gathered (give contracts ss) after
  pub stays : Stays before after
  pub long : length after ≡ length before

pub record Giving (contracts : ℕ) (before portions : List Portion) (given : ℕ) : Type 0 where
  pub so_far : Given given before portions
  pub low : given ≤ contracts

-- ---- the shares

abbrev pub emptied : Portion → Portion
emptied p = record { claim = p.claim; customers = p.customers; filled = 0 }

abbrev pub full : Portion → Portion
full p = record { claim = p.claim; customers = p.customers; filled = p.claim }

-- so many of the lines are made so
abbrev pub Made : (Portion → Portion) → List Portion → ℕ → List Portion → Type 0
Made f before i portions = (portions ≡ map f (take i before) ++ drop i before) × (i ≤ length before)

-- the shares of our own sheet
pub record SharedOut (due : ℕ) (before after : List Portion) : Type 0 where
  pub shares : (ls : List Line) → Lined ls before → fills_in after ≡ fills_of (give due (map empty ls))
  pub stays : Stays before after
  pub long : length after ≡ length before
