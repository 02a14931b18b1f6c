-- What each number of a row is.
use Rattle.std.specs.Prelude.{List, ℕ, get_or, take, drop}
use Rattle.rules.specs.Limits.{most_exchanges}
use Rattle.rules.specs.Header.{sizes_of}
use Rattle.header.specs.declared.Head.{Head}

-- k words from a place on
unfoldable pub words_at : ℕ → ℕ → List ℕ → List ℕ
words_at at k ns = take k (drop at ns)

-- the header in memory that the first 19 numbers are: home, N, close, 16 sizes
abbrev pub head_from : List ℕ → Head
head_from ns = record { home = get_or ns 0 0; exchanges = get_or ns 1 0; close = get_or ns 2 0; sizes = words_at 3 (sizes_of most_exchanges) ns }
