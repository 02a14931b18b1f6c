-- Our own sheet: "Our own sheets give one contract at a time, each to the unfilled line with the least (fill + 1) per
-- customer contract, the earliest on a tie."
use Rattle.std.specs.Prelude.{ℕ, zero, suc, ◌+◌, ◌-◌, ◌*◌, Bool, not, ◌&&◌, ◌||◌, if◌then◌else◌, ◌==◌}
use mathlib.Core.List.{List, [], ◌∷◌, map, flat_map}
use Rattle.rules.specs.Basics.{◌at_most◌, all}
use Rattle.rules.specs.Number.{bytes_of_all}
use Rattle.rules.specs.Journal.{Journal}
use Rattle.rules.specs.Due.{Line, lines, of_trade, due, Share, unfilled}

-- ---- a sheet: "A sheet line: reason, filled, cancelled."

pub record SheetLine : Type 0 where
  pub reason : ℕ
  pub filled : ℕ
  pub cancelled : ℕ

unfoldable pub line_bytes : SheetLine → List ℕ
line_bytes s = bytes_of_all (s.reason ∷ s.filled ∷ s.cancelled ∷ [])

unfoldable pub sheet_bytes : List SheetLine → List ℕ
sheet_bytes ss = flat_map line_bytes ss

-- ---- giving

-- (fill + 1) per customer contract is no more for a than for b, if b is unfilled
unfoldable pub no_later : Share → Share → Bool
no_later a b = not (unfilled b) || (a.filled + 1) * b.line.customers at_most (b.filled + 1) * a.line.customers

unfoldable pub is_next : List Share → Share → Bool
is_next ss a = unfilled a && all (no_later a) ss

abbrev pub one_more : Share → Share
one_more a = record { line = a.line; filled = a.filled + 1 }

-- one contract to the first line that the test picks: "the earliest on a tie"
unfoldable pub at_first : (Share → Bool) → List Share → List Share
at_first f [] = []
at_first f (a ∷ ss) = let later = at_first f ss in if f a then one_more a ∷ ss else a ∷ later

unfoldable pub give_one : List Share → List Share
give_one ss = at_first (is_next ss) ss

-- n contracts, one at a time
unfoldable pub give : ℕ → List Share → List Share
give zero ss = ss
give (suc n) ss = give_one (give n ss)

abbrev pub empty : Line → Share
empty l = record { line = l; filled = 0 }

-- ---- the sheet

-- the lines of trade n, the due total given out among them
unfoldable pub own_shares : Journal → ℕ → List Share
own_shares j n = give (due j n) (map empty (of_trade n (lines j)))

-- what the line numbered n is filled
unfoldable pub filled_at : ℕ → List Share → ℕ
filled_at n [] = 0
filled_at n (a ∷ ss) = if a.line.number == n then a.filled else filled_at n ss

unfoldable pub own_fill : Journal → Line → ℕ
own_fill j l = filled_at l.number (own_shares j l.trade)

unfoldable pub own_line : Journal → Line → SheetLine
own_line j l = let f = own_fill j l in record { reason = l.reason; filled = f; cancelled = l.size - f }

unfoldable pub own_lines : Journal → List SheetLine
own_lines j = map (own_line j) (lines j)

unfoldable pub own_sheet : Journal → List ℕ
own_sheet j = sheet_bytes (own_lines j)
