-- Our own sheet out of the tables that the walk of a journal leaves, and what each step over them promises.
use Rattle.std.specs.Prelude.{◌≡◌, List, ℕ, ◌+◌, ◌<◌, ◌≤◌, get_or, length}
use Rattle.rules.specs.Limits.{most_satisfaction_orders}
use Rattle.rules.specs.Journal.{Journal}
use Rattle.rules.specs.Due.{lines}
use Rattle.rules.specs.OwnSheet.{own_fill}
use Rattle.rules.specs.GoodSheet.{line_at}
use Rattle.fairness.specs.Lines.{filled_at}
use Rattle.fairness.specs.declared.Portion.{Portion}
use Rattle.claims.specs.Lines.{number_at}
use Rattle.claims.specs.Books.{Books, OwnFilled}

-- ---- a trade's fills, each to the word of its line

-- the first i lines of trade m have i numbers
abbrev pub Apart : List ℕ → ℕ → ℕ → Type 0
Apart claims m i = (x y : ℕ) → x < i → y < i → number_at claims m x ≡ number_at claims m y → x ≡ y

-- they have their fills, and every other word stays
pub record Scattered (claims : List ℕ) (m : ℕ) (portions : List Portion) (fills fills2 : List ℕ) (i : ℕ) : Type 0 where
  pub own : length fills ≡ most_satisfaction_orders → Apart claims m i → (y : ℕ) → y < i → get_or fills2 (number_at claims m y) 0 ≡ filled_at portions y
  pub others : (p : ℕ) → ((y : ℕ) → y < i → p ≡ number_at claims m y → ⊥) → get_or fills2 p 0 ≡ get_or fills p 0
  pub long : length fills2 ≡ length fills

pub record Scattering (claims : List ℕ) (m : ℕ) (portions : List Portion) (fills fills2 : List ℕ) (i : ℕ) : Type 0 where
  pub done : Scattered claims m portions fills fills2 i
  pub low : i ≤ length portions

-- ---- our own fills

-- the lines of the trades below m have their fills
pub record FilledBelow (j : Journal) (m : ℕ) (fills : List ℕ) : Type 0 where
  pub fill_of : (i : ℕ) → i < length (lines j) → (line_at (lines j) i).trade < m → get_or fills i 0 ≡ own_fill j (line_at (lines j) i)

pub record FillsTrade (claims trades : List ℕ) (m : ℕ) (fills fills2 : List ℕ) : Type 0 where
  pub so : (j : Journal) (traded lines : ℕ) → Books j trades claims traded lines → m < traded → length fills ≡ most_satisfaction_orders
      → FilledBelow j m fills → FilledBelow j (m + 1) fills2
  pub long : length fills2 ≡ length fills

pub record Filling (claims trades : List ℕ) (traded lines : ℕ) (fills fills2 : List ℕ) (m : ℕ) : Type 0 where
  pub so : (j : Journal) → Books j trades claims traded lines → length fills ≡ most_satisfaction_orders → FilledBelow j m fills2
  pub long : length fills2 ≡ length fills
  pub low : m ≤ traded

pub record OwnFills (claims trades : List ℕ) (traded lines : ℕ) (fills fills2 : List ℕ) : Type 0 where
  pub so : (j : Journal) → Books j trades claims traded lines → length fills ≡ most_satisfaction_orders → OwnFilled j fills2
