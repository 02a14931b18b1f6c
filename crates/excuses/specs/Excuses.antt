-- Reason 2: the table of sent orders, a row of eight words for each (its six fields, its time, whether its excuse stands), and
-- the chains by which a quote or a trade finds the orders to one exchange in one series.
use Rattle.std.specs.Prelude.{◌≡◌, Bool, false, not, ◌&&◌, ◌||◌, List, ◌∷◌, ℕ, zero, suc, ◌+◌, ◌-◌, ◌*◌, ◌<◌, ◌≤◌, get_or, length, if◌then◌else◌, ◌==◌, Option, Some, None}
use Rattle.rules.specs.Basics.{◌more_than◌, any, bit}
use Rattle.rules.specs.Limits.{most_exchanges, most_sent_orders}
use Rattle.rules.specs.Record.{buy, Event, field, order, is_sent, sent_kind, response_kind, quote_kind}
use Rattle.rules.specs.Journal.{History, count, since, sent_at}
use Rattle.rules.specs.Prices.{absent}
use Rattle.rules.specs.Verdicts.{worse}
use Rattle.rules.specs.Reasons.{ends_excuse, excuse_wait, excuses}
use Rattle.rows.specs.Rows.{Reads, word, QuoteOk, OrderOk}
use Rattle.rows.specs.declared.Rec.{Rec}
use Rattle.quotes.specs.Tables.{many_series}

-- nothing since sent order n has ended its excuse
unfoldable pub stands : ℕ → History → Bool
stands n past = not (any (ends_excuse n (order (sent_at n past))) (since is_sent n past))

-- one above the greatest number below n that passes a test, or 0 where none does
unfoldable pub newest : (ℕ → Bool) → ℕ → ℕ
newest f zero = 0
newest f (suc n) = if f n then suc n else newest f n

-- one above the number of the newest sent order that excuses, or 0 where none does
unfoldable pub excuser_of : ℕ → ℕ → ℕ → ℕ → History → ℕ
excuser_of exchange series side now past = newest (excuses exchange series side now past) (count is_sent past)

-- ---- the tables' sizes

abbrev pub order_words : ℕ
order_words = most_sent_orders * 8

-- how many chains there are
abbrev pub many_chains : ℕ
many_chains = most_exchanges * many_series

abbrev pub chain_words : ℕ
chain_words = many_chains + most_sent_orders

-- ---- the table beside the history

pub record Excused (past : History) (orders : List ℕ) (sent : ℕ) : Type 0 where
  pub numbered : sent ≡ count is_sent past
  pub fields : (m i : ℕ) → m < sent → i < 6 → get_or orders (m * 8 + i) 0 ≡ field (sent_at m past) i
  pub times : (m : ℕ) → m < sent → get_or orders (m * 8 + 6) 0 ≡ (sent_at m past).time
  pub flags : (m : ℕ) → m < sent → get_or orders (m * 8 + 7) 0 ≡ bit (stands m past)

-- ---- the chains, which speak of the tables alone. The chain of an exchange in a series begins at the word
-- (exchange - 1) * many_series + series, and goes on after order m at the word many_chains + m. Each word is one above the number of an
-- order, or 0 where the chain ends.

-- the chain that order m belongs to
unfoldable pub chain_of : List ℕ → ℕ → ℕ
chain_of orders m = (get_or orders (m * 8 + 1) 0 - 1) * many_series + get_or orders (m * 8 + 2) 0

-- from the word j on, chain k has every order below b whose excuse stands
pub record Link (orders : List ℕ) (k b j : ℕ) : Type 0 where
  pub down : j ≤ b
  pub all : (m : ℕ) → m < b → chain_of orders m ≡ k → get_or orders (m * 8 + 7) 0 ≡ 1 → m < j
  pub own : 0 < j → chain_of orders (j - 1) ≡ k

-- what the reader has found of every order that stands in the table
pub record OrderRow (orders : List ℕ) (m : ℕ) : Type 0 where
  pub from_one : 1 ≤ get_or orders (m * 8 + 1) 0
  pub to_eight : get_or orders (m * 8 + 1) 0 ≤ most_exchanges
  pub series : get_or orders (m * 8 + 2) 0 < many_series
  pub price : 1 ≤ get_or orders (m * 8 + 4) 0
  pub flag : get_or orders (m * 8 + 7) 0 ≤ 1

pub record Chains (orders links : List ℕ) (sent : ℕ) : Type 0 where
  pub rows : (m : ℕ) → m < sent → OrderRow orders m
  pub heads : (k : ℕ) → k < many_chains → Link orders k sent (get_or links k 0)
  pub nexts : (m : ℕ) → m < sent → Link orders (chain_of orders m) m (get_or links (many_chains + m) 0)
  pub few : sent ≤ most_sent_orders
  pub long : length orders ≡ order_words
  pub chains : length links ≡ chain_words

-- ---- tests on words

-- "a quote .. worse than its price or absent on that side"
unfoldable pub backed : ℕ → ℕ → ℕ → ℕ → Bool
backed side price bid offer =
    let there : ℕ = if side == buy then offer else bid in absent there || worse side there price

-- the excuse that an order's row tells of, after a quote of its exchange in its series
unfoldable pub outlived : ℕ → ℕ → ℕ → ℕ → ℕ → Bool
outlived flag side price bid offer = flag == 1 && not (backed side price bid offer)

-- an order of the chain asked for, by its row: on that side, long enough before `now`, its excuse standing
unfoldable pub excusing : ℕ → ℕ → ℕ → ℕ → ℕ → Bool
excusing way time flag side now = way == side && now more_than (time + excuse_wait) && flag == 1

-- the last word of order m's row after a quote in chain k
unfoldable pub flag_after : List ℕ → ℕ → ℕ → ℕ → ℕ → ℕ
flag_after orders k bid offer m =
    if chain_of orders m == k
    then bit (outlived (get_or orders (m * 8 + 7) 0) (get_or orders (m * 8 + 3) 0) (get_or orders (m * 8 + 4) 0) bid offer)
    else get_or orders (m * 8 + 7) 0

-- ---- on the way down a chain

-- a quote has passed the orders from i on; `last` is the word through which the chain goes on to order i - 1
pub record Sweeping (orders orders2 chains2 : List ℕ) (sent k bid offer last i : ℕ) : Type 0 where
  pub chains : Chains orders2 chains2 sent
  pub words : (m j : ℕ) → m < sent → j < 7 → get_or orders2 (m * 8 + j) 0 ≡ get_or orders (m * 8 + j) 0
  pub passed : (m : ℕ) → i ≤ m → m < sent → get_or orders2 (m * 8 + 7) 0 ≡ flag_after orders k bid offer m
  pub ahead : (m : ℕ) → m < i → get_or orders2 (m * 8 + 7) 0 ≡ get_or orders (m * 8 + 7) 0
  pub link : i ≡ get_or chains2 last 0
  pub head : last < many_chains → last ≡ k
  pub next : many_chains ≤ last → (last - many_chains < sent) × (chain_of orders2 (last - many_chains) ≡ k)
  pub known : k < many_chains
  pub place : last < chain_words
  pub low : i ≤ sent
  pub few : sent ≤ most_sent_orders
  pub own : 0 < i → chain_of orders2 (i - 1) ≡ k

-- a trade has passed the orders from i on, and none of its chain excuses
pub record Looking (orders : List ℕ) (sent k side now i : ℕ) : Type 0 where
  pub none : (m : ℕ) → i ≤ m → m < sent → chain_of orders m ≡ k
      → excusing (get_or orders (m * 8 + 3) 0) (get_or orders (m * 8 + 6) 0) (get_or orders (m * 8 + 7) 0) side now ≡ false
  pub own : 0 < i → chain_of orders (i - 1) ≡ k
  pub low : i ≤ sent
  pub few : sent ≤ most_sent_orders

-- ---- contracts

-- a record that has its place in the tables, if it is of their kinds, where `before` orders were sent before it
pub record FitsOrders (r : Rec) (before : ℕ) : Type 0 where
  pub quote : r.kind ≡ quote_kind → QuoteOk most_exchanges r
  pub sent : r.kind ≡ sent_kind → OrderOk most_exchanges 0 r
  pub room : r.kind ≡ sent_kind → before < most_sent_orders
  pub response : r.kind ≡ response_kind → word r 0 < before

-- a response
pub record ResponseKept (r : Rec) (orders : List ℕ) (sent : ℕ) (orders2 : List ℕ) : Type 0 where
  pub chains : (chains : List ℕ) → Chains orders chains sent → Chains orders2 chains sent
  pub so : (e : Event) (past : History) → Reads e r → Excused past orders sent → Excused (e ∷ past) orders2 sent

-- a record of any kind
pub record ExcusesStep (r : Rec) (orders : List ℕ) (sent : ℕ) (orders2 chains2 : List ℕ) (sent2 : ℕ) : Type 0 where
  pub chains : Chains orders2 chains2 sent2
  pub so : (e : Event) (past : History) → Reads e r → Excused past orders sent → Excused (e ∷ past) orders2 sent2

-- a number as it is kept in a table: one above it, or 0 where there is none
abbrev pub one_above : Option ℕ → ℕ
one_above None = 0
one_above (Some n) = n + 1

pub record ExcuserIs (orders : List ℕ) (sent exchange series side now : ℕ) (r : Option ℕ) : Type 0 where
  pub so : (past : History) → Excused past orders sent → one_above r ≡ excuser_of exchange series side now past
  pub known : one_above r ≤ sent
