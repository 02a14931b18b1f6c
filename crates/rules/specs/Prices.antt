-- What stands at a moment, and "Best prices". A moment is the history before it.
use Rattle.std.specs.Prelude.{ℕ, zero, suc, min, max, Bool, not, ◌&&◌, List, [], ◌∷◌, ◌++◌, map, if◌then◌else◌, ◌==◌}
use Rattle.rules.specs.Basics.{◌more_than◌, keep}
use Rattle.rules.specs.Header.{Header}
use Rattle.rules.specs.Record.{firm, not_firm, rotation, Event, Quote, quote, status, is_quote, is_status}
use Rattle.rules.specs.History.{History}

-- ---- "A price 0 is absent: above, below or equal to nothing, in every verdict."

abbrev pub absent : ℕ → Bool
absent p = p == 0

infix 50 ◌is_above◌ ◌is_below◌ ◌equals◌
abbrev pub ◌is_above◌ : ℕ → ℕ → Bool
p is_above q = not (absent p) && not (absent q) && p more_than q

abbrev pub ◌is_below◌ : ℕ → ℕ → Bool
p is_below q = q is_above p

abbrev pub ◌equals◌ : ℕ → ℕ → Bool
p equals q = not (absent p) && p == q

-- ---- "All start firm, without quotes."

unfoldable pub no_quote : ℕ → ℕ → Quote
no_quote x s =
    record { exchange = x; series = s; bid = 0; bid_size = 0; bid_customers = 0; offer = 0; offer_size = 0; offer_customers = 0 }

-- a quote of exchange x in series s
unfoldable pub quotes : ℕ → ℕ → Event → Bool
quotes x s e = is_quote e && (quote e).exchange == x && (quote e).series == s

-- its last quote
unfoldable pub standing : ℕ → ℕ → History → Quote
standing x s [] = no_quote x s
standing x s (e ∷ past) = if quotes x s e then quote e else standing x s past

unfoldable pub status_of : ℕ → History → ℕ
status_of x [] = firm
status_of x (e ∷ past) = if is_status e && (status e).exchange == x then (status e).status else status_of x past

abbrev pub non_firm : ℕ → History → Bool
non_firm x past = status_of x past == not_firm

abbrev pub in_rotation : ℕ → History → Bool
in_rotation x past = status_of x past == rotation

-- ---- the exchanges, the lowest first

-- 1 to n
unfoldable pub up_to : ℕ → List ℕ
up_to zero = []
up_to (suc n) = up_to n ++ (suc n ∷ [])

unfoldable pub everyone : Header → List ℕ
everyone h = up_to h.exchanges

unfoldable pub away : Header → List ℕ
away h = keep (λ x. not (x == h.home)) (everyone h)

-- ---- "Highest bid and lowest offer shown by any exchange, home included, firm or not (desk)."; 0 where none is shown

unfoldable pub highest : List ℕ → ℕ
highest [] = 0
highest (p ∷ ps) = max p (highest ps)

abbrev pub lower : ℕ → ℕ → ℕ
lower p q = if absent p then q else if absent q then p else min p q

unfoldable pub lowest : List ℕ → ℕ
lowest [] = 0
lowest (p ∷ ps) = lower p (lowest ps)

unfoldable pub best_bid : Header → ℕ → History → ℕ
best_bid h s past = highest (map (λ x. (standing x s past).bid) (everyone h))

unfoldable pub best_offer : Header → ℕ → History → ℕ
best_offer h s past = lowest (map (λ x. (standing x s past).offer) (everyone h))
