-- The table of Satisfaction Orders: a row of eight words for each (trade, size, reason, customer contracts, claim), and behind them
-- a part for each trade: the numbers of its lines in their order, how many they are, and the sum of their claims. The row's last three
-- words are the order's sender, its own price and when it came: a clerk is told them, and a record that cancels the order goes by the
-- sender or by the time. Behind the parts each exchange has a word for each trade: when its claim was cancelled so that it may send again.
use Rattle.std.specs.Prelude.{◌≡◌, true, List, ◌∷◌, map, ℕ, ◌+◌, ◌-◌, ◌*◌, ◌<◌, ◌≤◌, get_or, length, set, take, if◌then◌else◌}
use Rattle.rules.specs.Basics.{below, sum}
use Rattle.rules.specs.Limits.{most_exchanges, most_trades, most_satisfaction_orders, most_trade_lines, most_contracts, last_time}
use Rattle.rules.specs.Header.{Header}
use Rattle.rules.specs.Record.{Event, satisfaction, is_satisfaction, satisfaction_kind, naming_kind, cancellation_kind}
use Rattle.rules.specs.Journal.{History, Happened, count, nth, taken_back}
use Rattle.rules.specs.Due.{Line, lines_of, of_trade, claims_of, customers_of, due}
use Rattle.rules.proofs.Journals.{Arrived}
use Rattle.fairness.specs.Lines.{claims_in, customers_in}
use Rattle.fairness.specs.declared.Portion.{Portion}
use Rattle.rules.proofs.Naming.{named}
use Rattle.rows.specs.Rows.{Reads, word, SatisfactionOk}
use Rattle.rows.specs.declared.Rec.{Rec}
use Rattle.orders.specs.Orders.{Heads}
use Rattle.trades.specs.Trades.{Traded}
use Rattle.reasons.specs.Reasons.{in_time, again_at}

-- ---- the words

-- a trade's part: the number of each line that it can have, how many it has, the sum of their claims
abbrev pub part_words : ℕ
part_words = most_trade_lines + 2

abbrev pub part_at : ℕ → ℕ
part_at m = most_satisfaction_orders * 8 + m * part_words

abbrev pub many_at : ℕ → ℕ
many_at m = part_at m + most_trade_lines

abbrev pub sum_at : ℕ → ℕ
sum_at m = part_at m + (most_trade_lines + 1)

-- behind the parts: the word of trade m and exchange y + 1
abbrev pub again_from : ℕ
again_from = part_at most_trades

abbrev pub again_word : ℕ → ℕ → ℕ
again_word m y = again_from + (m * most_exchanges + y)

-- the rows, the parts, and those words
abbrev pub line_words : ℕ
line_words = most_satisfaction_orders * 8 + most_trades * (part_words + most_exchanges)

-- ---- a line

abbrev pub line_in : List ℕ → ℕ → Line
line_in claims k =
    record {
      number = k;
      trade = get_or claims (k * 8 + 0) 0;
      size = get_or claims (k * 8 + 1) 0;
      reason = get_or claims (k * 8 + 2) 0;
      customers = get_or claims (k * 8 + 3) 0;
      claim = get_or claims (k * 8 + 4) 0;
    }

-- the first n lines
unfoldable pub lines_from : List ℕ → ℕ → List Line
lines_from claims n = map (line_in claims) (below n)

-- ---- a trade's part

unfoldable pub number_at : List ℕ → ℕ → ℕ → ℕ
number_at claims m i = get_or claims (part_at m + i) 0

unfoldable pub many_of : List ℕ → ℕ → ℕ
many_of claims m = get_or claims (many_at m) 0

unfoldable pub sum_of : List ℕ → ℕ → ℕ
sum_of claims m = get_or claims (sum_at m) 0

-- its lines, found by their numbers
unfoldable pub trade_lines : List ℕ → ℕ → ℕ → List Line
trade_lines claims m k = map (λ i. line_in claims (number_at claims m i)) (below k)

-- ---- what a clerk is told

-- row i, of the Satisfaction Order that came so
pub record LineTells (claims : List ℕ) (i : ℕ) (order : Happened) : Type 0 where
  pub is_order : is_satisfaction order.event ≡ true
  pub trade : get_or claims (i * 8 + 0) 0 ≡ (satisfaction order.event).trade
  pub sender : get_or claims (i * 8 + 5) 0 ≡ (satisfaction order.event).sender
  pub asked : get_or claims (i * 8 + 6) 0 ≡ (satisfaction order.event).price
  pub time : get_or claims (i * 8 + 7) 0 ≡ order.event.time

-- ---- the table beside the history

pub record Lined (h : Header) (past : History) (claims : List ℕ) (many_lines : ℕ) : Type 0 where
  pub numbered : many_lines ≡ count is_satisfaction past
  pub lines : lines_from claims many_lines ≡ lines_of h past past
  pub by_trade : (m : ℕ) → m < most_trades → trade_lines claims m (many_of claims m) ≡ of_trade m (lines_of h past past)
  pub sums : (m : ℕ) → m < most_trades → sum_of claims m ≡ sum (claims_of (of_trade m (lines_of h past past)))
  pub told : (i : ℕ) → i < many_lines → LineTells claims i (nth is_satisfaction i past)
  -- "A claim's record must now remember its cancellation time"
  pub again : (m y : ℕ) → m < most_trades → y < most_exchanges → get_or claims (again_word m y) 0 ≡ again_at (taken_back m (y + 1) past)

-- ---- what holds of the table alone

pub record Filing (claims : List ℕ) (lines : ℕ) : Type 0 where
  pub few_lines : (m : ℕ) → m < most_trades → many_of claims m ≤ most_trade_lines
  pub earlier : (m i : ℕ) → m < most_trades → i < many_of claims m → number_at claims m i < lines
  pub of_trades : (i : ℕ) → i < lines → get_or claims (i * 8 + 0) 0 < most_trades
  pub from_one : (i : ℕ) → i < lines → 1 ≤ get_or claims (i * 8 + 5) 0
  pub to_most : (i : ℕ) → i < lines → get_or claims (i * 8 + 5) 0 ≤ most_exchanges
  pub small : (m : ℕ) → m < most_trades → sum_of claims m ≤ lines * most_contracts
  pub few : lines ≤ most_satisfaction_orders
  pub long : length claims ≡ line_words

-- line n, of trade m, with this row can be filed
pub record Fileable (claims row : List ℕ) (n m : ℕ) : Type 0 where
  pub line : n < most_satisfaction_orders
  pub trade : m < most_trades
  pub line_left : get_or claims (many_at m) 0 < most_trade_lines
  pub sum_small : get_or claims (sum_at m) 0 ≤ most_satisfaction_orders * most_contracts
  pub claim_small : get_or row 4 0 ≤ most_contracts
  pub long : length claims ≡ line_words

-- line n, of trade m, has come: its row is put, and nothing else is changed but its trade's words
pub record Filed (claims claims2 row : List ℕ) (n m : ℕ) : Type 0 where
  pub here : (i : ℕ) → i < 8 → get_or claims2 (n * 8 + i) 0 ≡ get_or row i 0
  pub others : (k i : ℕ) → k < most_satisfaction_orders → i < 8 → (k ≡ n → ⊥) → get_or claims2 (k * 8 + i) 0 ≡ get_or claims (k * 8 + i) 0
  pub number_here : number_at claims2 m (many_of claims m) ≡ n
  pub number_other : (a i : ℕ) → a < most_trades → i < most_trade_lines → (a ≡ m → i ≡ many_of claims m → ⊥) → number_at claims2 a i ≡ number_at claims a i
  pub many_here : many_of claims2 m ≡ many_of claims m + 1
  pub many_other : (a : ℕ) → (a ≡ m → ⊥) → many_of claims2 a ≡ many_of claims a
  pub sum_here : sum_of claims2 m ≡ sum_of claims m + get_or row 4 0
  pub sum_other : (a : ℕ) → (a ≡ m → ⊥) → sum_of claims2 a ≡ sum_of claims a
  pub behind : (j : ℕ) → again_from ≤ j → get_or claims2 j 0 ≡ get_or claims j 0
  pub same_length : length claims2 ≡ length claims

-- ---- an order is cancelled

-- line k can be cancelled: it stands in the table, and the sum of its trade's claims has its own
pub record Cancellable (claims : List ℕ) (k : ℕ) : Type 0 where
  pub line : k < most_satisfaction_orders
  pub trade : get_or claims (k * 8 + 0) 0 < most_trades
  pub claimed : get_or claims (k * 8 + 4) 0 ≤ sum_of claims (get_or claims (k * 8 + 0) 0)
  pub long : length claims ≡ line_words

-- the table without the claim of line k, in its row and in its trade's sum, and with the reason that gives way to 14
unfoldable pub cleared_in : List ℕ → ℕ → List ℕ
cleared_in claims k =
    let sum_word : ℕ = sum_at (get_or claims (k * 8 + 0) 0) in
    set (set (set claims sum_word (get_or claims sum_word 0 - get_or claims (k * 8 + 4) 0)) (k * 8 + 2) (named (get_or claims (k * 8 + 2) 0))) (k * 8 + 4) 0

-- the table after line k was cancelled at the time `now`
unfoldable pub cancelled_in : List ℕ → ℕ → ℕ → ℕ → List ℕ
cancelled_in claims k close now = if in_time (get_or claims (k * 8 + 7) 0) close now then cleared_in claims k else claims

-- ---- and its sender may send again

-- where line k's trade and sender have their word
abbrev pub again_of : List ℕ → ℕ → ℕ
again_of claims k = again_word (get_or claims (k * 8 + 0) 0) (get_or claims (k * 8 + 5) 0 - 1)

-- line k can be cancelled so: it stands in the table
pub record Withdrawable (claims : List ℕ) (k : ℕ) : Type 0 where
  pub line : k < most_satisfaction_orders
  pub trade : get_or claims (k * 8 + 0) 0 < most_trades
  pub from_one : 1 ≤ get_or claims (k * 8 + 5) 0
  pub to_most : get_or claims (k * 8 + 5) 0 ≤ most_exchanges
  pub long : length claims ≡ line_words

-- the table after line k was cancelled so at the time `now`: "The first keeps the reason it has"
unfoldable pub withdrawn_in : List ℕ → ℕ → ℕ → List ℕ
withdrawn_in claims k now = set claims (again_of claims k) (now + 1)

-- ---- contracts

-- a record that has its place in the table: if it is a Satisfaction Order its trade is known, and can have one line more; if it
-- cancels one, that one is known
pub record FitsClaims (r : Rec) (claims : List ℕ) (traded exchanges lines : ℕ) : Type 0 where
  pub fields : r.kind ≡ satisfaction_kind → SatisfactionOk exchanges 0 r
  pub trade : r.kind ≡ satisfaction_kind → word r 0 < traded
  pub first : r.kind ≡ satisfaction_kind → many_of claims (word r 0) < most_trade_lines
  pub room : r.kind ≡ satisfaction_kind → lines < most_satisfaction_orders
  pub order : r.kind ≡ naming_kind → word r 0 < lines
  pub cancellable : r.kind ≡ naming_kind → Cancellable claims (word r 0)
  pub withdrawn : r.kind ≡ cancellation_kind → word r 0 < lines
  pub time : r.time ≤ last_time

-- a record of any kind
pub record ClaimsStep (r : Rec) (home exchanges close : ℕ) (trades shown : List ℕ) (traded : ℕ) (claims : List ℕ) (lines : ℕ) (claims2 : List ℕ) (lines2 : ℕ) : Type 0 where
  pub filing : Filing claims2 lines2
  pub so : (h : Header) (sizes : List ℕ) (e : Event) (past : History) → Arrived h past → Heads h exchanges home sizes → h.close ≡ close → Reads e r
      → Traded h past trades shown traded → Lined h past claims lines → Lined h (e ∷ past) claims2 lines2

-- ---- the lines of one trade

pub record Findable (claims : List ℕ) (m : ℕ) : Type 0 where
  pub trade : m < most_trades
  pub few_lines : many_of claims m ≤ most_trade_lines
  pub numbers : (i : ℕ) → i < many_of claims m → number_at claims m i < most_satisfaction_orders

pub record ManyIs (claims : List ℕ) (m r : ℕ) : Type 0 where
  pub is : r ≡ many_of claims m
  pub few : r ≤ most_trade_lines

pub record NumberIs (claims : List ℕ) (m i r : ℕ) : Type 0 where
  pub is : r ≡ number_at claims m i
  pub low : r < most_satisfaction_orders

-- the first i of them
pub record Gathering (table : List ℕ) (m k i : ℕ) (portions : List Portion) : Type 0 where
  pub claims : claims_in (take i portions) ≡ claims_of (trade_lines table m i)
  pub contracts : customers_in (take i portions) ≡ customers_of (trade_lines table m i)
  pub low : i ≤ k
  pub long : length portions ≡ most_trade_lines

pub record Gathered (table : List ℕ) (m : ℕ) (portions : List Portion) (k : ℕ) : Type 0 where
  pub few : k ≤ most_trade_lines
  pub claims : claims_in (take k portions) ≡ claims_of (trade_lines table m (many_of table m))
  pub contracts : customers_in (take k portions) ≡ customers_of (trade_lines table m (many_of table m))
  pub many : k ≡ many_of table m
  pub long : length portions ≡ most_trade_lines

pub record DueIs (claims trades : List ℕ) (m r : ℕ) : Type 0 where
  pub so : (h : Header) (past : History) (shown : List ℕ) (traded lines : ℕ) → m < traded → m < most_trades → Traded h past trades shown traded
      → Lined h past claims lines → r ≡ due (record { header = h; history = past }) m
