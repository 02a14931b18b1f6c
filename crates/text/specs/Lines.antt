-- Numbers, the lines of the printed day and refusals in the parts that are written one after another.
use Rattle.std.specs.Prelude.{ℕ, ◌+◌, ◌/◌, ◌%◌, List, [], ◌∷◌, ◌++◌}
use Rattle.rules.specs.PrintedDay.{decimal, space, ended}

-- two digits
unfoldable pub pair_of : ℕ → List ℕ
pair_of x = (48 + x / 10) ∷ (48 + x % 10) ∷ []

-- a printed line, its letter given as a byte
unfoldable pub line_of : ℕ → ℕ → ℕ → ℕ → ℕ → List ℕ
line_of event what a b c =
    ended (space (decimal event) (space (what ∷ []) (space (decimal a) (space (decimal b) (decimal c)))))

-- a number after another thing
unfoldable pub field_of : ℕ → List ℕ
field_of x = 32 ∷ decimal x

-- event and letter
unfoldable pub head_of : ℕ → ℕ → List ℕ
head_of event what = decimal event ++ (32 ∷ what ∷ [])

-- a, b, c and LF
unfoldable pub tail_of : ℕ → ℕ → ℕ → List ℕ
tail_of a b c = field_of a ++ field_of b ++ field_of c ++ (10 ∷ [])

-- `event what a b c` and LF
abbrev pub first_line_bytes : List ℕ
first_line_bytes =
    101 ∷ 118 ∷ 101 ∷ 110 ∷ 116 ∷ 32 ∷ 119 ∷ 104 ∷ 97 ∷ 116 ∷ 32 ∷ 97 ∷ 32 ∷ 98 ∷ 32 ∷ 99 ∷ 10 ∷ []

-- `refused `
abbrev pub refused_bytes : List ℕ
refused_bytes = 114 ∷ 101 ∷ 102 ∷ 117 ∷ 115 ∷ 101 ∷ 100 ∷ 32 ∷ []

-- ` at `
abbrev pub at_bytes : List ℕ
at_bytes = 32 ∷ 97 ∷ 116 ∷ 32 ∷ []

unfoldable pub number_of : ℕ → List ℕ
number_of n = refused_bytes ++ decimal n

unfoldable pub place_of : ℕ → List ℕ
place_of place = at_bytes ++ decimal place ++ (10 ∷ [])
