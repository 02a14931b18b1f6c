-- "only": a test that goes through every way to fill some claims that makes a total.
use Rattle.std.specs.Prelude.{ℕ, zero, suc, ◌-◌, min, Bool, true, false, not, ◌&&◌, ◌||◌, List, [], ◌∷◌, ◌==◌}
use Rattle.rules.specs.Basics.{any}
use Rattle.rules.specs.Due.{Line, claims_of, Share, share_rule}

-- the test holds at 0, 1, .. up to n
unfoldable pub every_to : ℕ → (ℕ → Bool) → Bool
every_to zero f = f 0
every_to (suc n) f = f (suc n) && every_to n f

-- the test holds of all fills of these claims that add up to d
unfoldable pub every_filling : List ℕ → ℕ → (List ℕ → Bool) → Bool
every_filling [] zero f = f []
every_filling [] (suc d) f = true
every_filling (c ∷ cs) d f = every_to (min c d) (λ x. every_filling cs (d - x) (λ xs. f (x ∷ xs)))

unfoldable pub same : List ℕ → List ℕ → Bool
same [] [] = true
same [] (y ∷ ys) = false
same (x ∷ xs) [] = false
same (x ∷ xs) (y ∷ ys) = x == y && same xs ys

-- lines, each filled so much
unfoldable pub filled_so : List Line → List ℕ → List Share
filled_so [] fs = []
filled_so (l ∷ ls) [] = []
filled_so (l ∷ ls) (f ∷ fs) = record { line = l; filled = f } ∷ filled_so ls fs

-- of the fills of these lines that make the total d and keep the share rule, each is among `good`
unfoldable pub only_fills : List Line → ℕ → List (List ℕ) → Bool
only_fills ls d good = every_filling (claims_of ls) d (λ fs. not (share_rule (filled_so ls fs)) || any (same fs) good)
