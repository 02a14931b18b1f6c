-- What a Satisfaction Order is judged by, out of the tables of trades.
use Rattle.std.specs.Prelude.{List, ℕ, ◌+◌, ◌-◌, ◌*◌, get_or}
use Rattle.rules.specs.Limits.{most_exchanges}
use Rattle.reasons.specs.declared.Facts.{Facts}

-- what trade m kept, of itself, of exchange y + 1 and of home, with the header's close, the order's own price and time, and when its sender's
-- first was cancelled
unfoldable pub facts_of : List ℕ → List ℕ → ℕ → ℕ → ℕ → ℕ → ℕ → ℕ → ℕ → Facts
facts_of trades shown m y home close asked now again =
    record {
      side = get_or shown ((m * most_exchanges + y) * 8 + 0) 0;
      there = get_or shown ((m * most_exchanges + y) * 8 + 1) 0;
      customers = get_or shown ((m * most_exchanges + y) * 8 + 2) 0;
      status = get_or shown ((m * most_exchanges + y) * 8 + 3) 0;
      excuser = get_or shown ((m * most_exchanges + y) * 8 + 4) 0;
      home = get_or shown ((m * most_exchanges + (home - 1)) * 8 + 3) 0;
      price = get_or trades (m * 8 + 0) 0;
      block = get_or trades (m * 8 + 2) 0;
      complex = get_or trades (m * 8 + 3) 0;
      initiator = get_or trades (m * 8 + 4) 0;
      report = get_or trades (m * 8 + 5) 0;
      close = close;
      asked = asked;
      time = now;
      again = again;
    }
