-- "Reasons on a Satisfaction Order, first that holds".
use Rattle.std.specs.Prelude.{ℕ, ◌+◌, ◌-◌, Bool, not, ◌&&◌, ◌||◌, List, [], length, if◌then◌else◌, ◌==◌}
use Rattle.rules.specs.Basics.{◌at_most◌, ◌at_least◌, ◌more_than◌, any, below, Row, ◌when◌, ◌¦◌, first_of}
use Rattle.rules.specs.Limits.{closing_minutes}
use Rattle.rules.specs.Header.{Header}
use Rattle.rules.specs.Record.{complex_trade, buy, sell, Event, Quote, quote, trade, Order, order, response, satisfaction, is_sent}
use Rattle.rules.specs.History.{History, count, since, sent_at, trade_at, before_trade, answers, names, taken_back}
use Rattle.rules.specs.Prices.{absent, quotes, standing, non_firm, in_rotation}
use Rattle.rules.specs.Verdicts.{the_bid, neither, shown, worse, side_through, is_block}

-- ---- the case of a Satisfaction Order: itself and its number, the history before it, its trade, the history before the trade,
-- and the whole day. "Prices, customer contracts and statuses are those at the trade."; an earlier record may have let it be sent
-- again, a later one may cancel it.

pub record Case : Type 0 where
  pub number : ℕ
  pub claim : Event
  pub past : History
  pub trade : Event
  pub before : History
  pub day : History

-- of the Satisfaction Order numbered n of a day, after the history before it
unfoldable pub case_of : History → History → ℕ → Event → Case
case_of day past n e =
    let m = (satisfaction e).trade in
    record { number = n; claim = e; past = past; trade = trade_at m past; before = before_trade m past; day = day }

-- the sender's quote at the trade, and the side of it traded through
unfoldable pub sender_quote : Case → Quote
sender_quote k = standing (satisfaction k.claim).sender (trade k.trade).series k.before

unfoldable pub sender_side : Case → ℕ
sender_side k = side_through k.before (trade k.trade) (satisfaction k.claim).sender

-- the sender's customer contracts on that side
unfoldable pub customers : Case → ℕ
customers k =
    let q = sender_quote k in
    let side = sender_side k in
    if side == neither then 0 else if side == the_bid then q.bid_customers else q.offer_customers

-- ---- 2

-- "a quote of that exchange in the series worse than its price or absent on that side"
unfoldable pub backs_away : Order → Event → Bool
backs_away o e =
    let there = shown o.side (quote e) in
    quotes o.other o.series e && (absent there || worse o.side there o.price)

-- "filled in full"
unfoldable pub fills_all : ℕ → Order → Event → Bool
fills_all n o e = answers n e && (response e).filled == o.size

-- "the excuse ends there"
unfoldable pub ends_excuse : ℕ → Order → Event → Bool
ends_excuse n o e = fills_all n o e || backs_away o e

-- "more than 20,000 ms before the trade"
abbrev pub excuse_wait : ℕ
excuse_wait = 20_000

-- Home's sent order n went to exchange x in the series on that side so long before the time `now`, and nothing since has
-- ended the excuse.
unfoldable pub excuses : ℕ → ℕ → ℕ → ℕ → History → ℕ → Bool
excuses x s side now past n =
    let e = sent_at n past in
    let o = order e in
    o.other == x && o.series == s && o.side == side && now more_than (e.time + excuse_wait)
    && not (any (ends_excuse n o) (since is_sent n past))

unfoldable pub had_sent : ℕ → ℕ → ℕ → ℕ → History → Bool
had_sent x s side now past = any (excuses x s side now past) (below (count is_sent past))

-- ---- 8 and 9

-- "Report = trade time plus delay."
abbrev pub report : Event → ℕ
report t = t.time + (trade t).delay

abbrev pub three_minutes : ℕ
three_minutes = 180_000

abbrev pub one_minute : ℕ
one_minute = 60_000

-- "180,000 ms", or "60,000 if" it was "at or after close less 300,000": of the report for 8, of the receipt for 14
unfoldable pub minutes_from : Header → ℕ → ℕ
minutes_from h moment = if moment at_least (h.close - closing_minutes) then one_minute else three_minutes

-- "plus 180,000 ms, or plus 60,000 if the report is at or after close less 300,000"
unfoldable pub time_to_claim : Header → Event → ℕ
time_to_claim h t = minutes_from h (report t)

-- "received later than the report plus" some time
unfoldable pub late_by : ℕ → Event → Event → Bool
late_by allowed t e = e.time more_than (report t + allowed)

-- ---- 15: document 02, i: "the other exchange may send again within three minutes"

-- the cancellation after which it was sent again; none for a first claim
unfoldable pub sent_again_after : Case → History
sent_again_after k = let c = satisfaction k.claim in taken_back c.trade c.sender k.past

-- "later than 180,000 ms after the cancellation"
unfoldable pub again_late : Case → Bool
again_late k = any (λ (c : Event). k.claim.time more_than (c.time + three_minutes)) (sent_again_after k)

-- ---- 14

-- document 02, b: "we may cancel the Satisfaction Order and name the initiator, up to and including 180,000 ms after receiving
-- it, or 60,000 if we received it at or after close less 300,000"; "a late one cancels and changes nothing"
unfoldable pub names_in_time : Header → ℕ → Event → Event → Bool
names_in_time h n c e = names n e && e.time at_most (c.time + minutes_from h c.time)

-- ---- 11 and 12

-- "for a block the trade's, otherwise the bid or offer traded through"
unfoldable pub required : Header → Case → ℕ
required h k =
    let t = trade k.trade in
    let q = sender_quote k in
    if is_block h k.before t then t.price else if sender_side k == the_bid then q.bid else q.offer

-- ---- the table: document 01's rows in their order, and document 02's: 14, "judged after 9 and before 11"; 15, which "stands in 8's
-- place" for an order that was sent again: "The second is not judged by 8 or 9 but by reason 15"

abbrev pub reason_rows : Header → Case → List Row
reason_rows h k =
    let c = satisfaction k.claim in
    let t = trade k.trade in
    let side = sender_side k in
    let excusing : ℕ = if side == the_bid then sell else buy in  -- "sell for a bid, buy for an offer"
    let initiated = not (t.initiator == 0) in
    let first = length (sent_again_after k) == 0 in
    10 when side == neither
    ¦ 2 when had_sent c.sender t.series excusing k.trade.time k.before
    ¦ 3 when non_firm c.sender k.before
    ¦ 4 when not initiated && non_firm h.home k.before
    ¦ 5 when in_rotation c.sender k.before
    ¦ 6 when in_rotation h.home k.before
    ¦ 7 when t.complex == complex_trade
    ¦ 8 when first && not initiated && late_by (time_to_claim h k.trade) k.trade k.claim
    ¦ 15 when again_late k
    ¦ 9 when first && initiated && late_by three_minutes k.trade k.claim
    ¦ 14 when any (names_in_time h k.number k.claim) k.day
    ¦ 11 when c.price == t.price && not (is_block h k.before t)
    ¦ 12 when not (c.price == required h k)
    ¦ 13 when customers k == 0
    ¦ []

-- "first that holds"
unfoldable pub reason : Header → Case → ℕ
reason h k = first_of (reason_rows h k)
